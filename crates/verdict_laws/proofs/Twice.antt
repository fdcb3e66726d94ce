-- The three parts of the write-out put together.
use Rattle.std.proofs.Common.{◌≡◌, ◌⊎◌, ℕ, Bool, true, false, List, [], ◌∷◌, ◌++◌, map, flat_map, Option, Some, None, refl, sym, ap, subst, ◌∙◌, if◌then◌else◌, append_assoc, inl, inr, option_to_list, is_some, length, slice_get, ◌≤◌, ◌||◌, true≢false, arith}
use Rattle.std.proofs.lemmas.Grind.{flat_map-append}
use Rattle.std.proofs.lemmas.List.{append-nil}
use Rattle.tree_definitions.specs.Queries.{is_executable}
use Rattle.schema_components.specs.in_operations.in_directives.declared.operation_type.OperationType.{OperationType}
use Rattle.verdict_laws.proofs.Types.{HasNoRepeats}
use Rattle.schema_components.specs.Given.{ExtensionTree}
use Rattle.graphql_names.specs.Places.{is_built_in}
use Rattle.graphql_names.specs.Placed.{Placed, Place, Text}
use Rattle.tree_directives.specs.DirectiveTree.{DirectiveDefinitionTree}
use Rattle.tree_definitions.specs.in_type_members.TypeSystemTree.{SchemaParts}
use Rattle.tree_definitions.specs.DefinitionTree.{DefinitionTree, DirectiveDefinition, Schema, ExtendSchema}
use Rattle.schema_components.specs.Lists.{firsts}
use Rattle.schema_types.specs.SchemaTree.{SchemaTree, same_kind}
use Rattle.schema_types.specs.TypeParts.{TypeParts, TypeDefinition, type_here, type_extension_here, definition_by, extension_by}
use Rattle.schema_types.specs.Out.{schema_parts_given_by, extensions_of_schema, is_left_out, written_schema, written_directive, written_type}
use Rattle.schema_types.specs.declared.type_kind.TypeKind.{TypeKind}
use Rattle.schema_types.specs.declared.type_kind.TypeKind.TheVariants.{Scalar, Object, Interface, Union, Enum, InputObject}
use Rattle.schema_fold.specs.NumberedDefinition.{Definitions, numbered, type_name, types_in, type_named, directive_here, directive_name, directives_in}
use Rattle.schema_fold.specs.SchemaFold.{schema_here, schema_extension_here, schema_is_defined, extends_schema, implicit_roots, folded_schema}
use Rattle.schema_fold.specs.Fold.{fold, folded_directives, folded_types}
use Rattle.schema_fold.specs.BuildErrors.{FoldingRules}
use Rattle.verdict_laws.specs.Arranged.{arranged}
use Rattle.verdict_laws.specs.Whole.{Extension, classes, extensions_in, whole_definition, whole_extension, whole_type}
use Rattle.verdict_laws.specs.WholeSchema.{whole_parts, schema_classes, schema_extensions_in, whole_schema, roots_in}
use Rattle.verdict_laws.specs.Table.{IsTable, AreOwn}
use Rattle.verdict_laws.specs.Twice.{WrittenOf}
use Rattle.verdict_laws.proofs.Order.{Each, Each-append}
use Rattle.verdict_laws.proofs.Accepted.{types_whole}
use Rattle.verdict_laws.proofs.TypesTwice.{all_each, types_append, all_types, same_types, types_twice, types_equal, again_no_repeats}
use Rattle.schema_components.specs.Names.{named}
use Rattle.schema_types.specs.Plain.{plain_type, plain_roots, plain_directive_definition, plain}
use Rattle.verdict_laws.proofs.DirectivesTwice.{directives_twice, again_own, out_distinct}
use Rattle.verdict_laws.proofs.NoOrphans.{HasType, types_have, all_found}
use Rattle.verdict_laws.proofs.SchemaTwice.{schema_twice, schema_equal, again_fits, no_schemas}

abbrev Definition : Type 0
Definition = DefinitionTree Place

-- ---- what is true of each definition of a part

module _ (P : Definition → Type 0) where
  module _ (schema : (p : Place) (d : Option (Text Place)) (s : SchemaParts Place) → P (Schema p d s)) (extension : (p : Place) (s : SchemaParts Place) → P (ExtendSchema p s)) where
    each_extension : {X : Type 0} (f : X → Place) (g : X → SchemaParts Place) (xs : List X) → Each P (map (λ x. ExtendSchema (f x) (g x)) xs)
    each_extension f g [] = tt
    each_extension f g (x ∷ xs) = (extension (f x) (g x), each_extension f g xs)

    each_schema : (s : SchemaTree Place) → Each P (written_schema s)
    each_schema s = by (is_left_out s)
      where
        by : (b : Bool) → Each P (if b then [] else Schema s.definition.place s.definition.description (schema_parts_given_by None None s.definition)
            ∷ map (λ e. ExtendSchema e.place (schema_parts_given_by None (Some e) s.definition)) (extensions_of_schema s.definition))
        by true = tt
        by false = (
          schema s.definition.place s.definition.description (schema_parts_given_by None None s.definition),
          each_extension (λ e. e.place) (λ e. schema_parts_given_by None (Some e) s.definition) (extensions_of_schema s.definition),
        )

    each_whole_schema : (ds : Definitions) → Each P (whole_schema ds)
    each_whole_schema ds = (schema _ _ _, each_extension (λ x. x.place) (λ x. whole_parts x.it) (arranged schema_classes (schema_extensions_in ds)))

  each_directive : ((p : Place) (d : DirectiveDefinitionTree Place) → P (DirectiveDefinition p d)) → (es : List (List ℕ × Placed Place (DirectiveDefinitionTree Place))) → Each P (flat_map written_directive es)
  each_directive one [] = tt
  each_directive one (e ∷ es) = by (is_built_in e.1.place) (each_directive one es)
    where
      by : (b : Bool) → Each P (flat_map written_directive es) → Each P ((if b then [] else DirectiveDefinition e.1.place e.1.it ∷ []) ++ flat_map written_directive es)
      by true rest = rest
      by false rest = (one e.1.place e.1.it, rest)

  module _ (definition : (k : TypeKind) (p : Place) (d : Option (Text Place)) (t : TypeParts Place) → P (definition_by k p d t)) (extension : (k : TypeKind) (p : Place) (t : TypeParts Place) → P (extension_by k p t)) where
    extensions : (t : TypeDefinition Place) (xs : List Extension) → Each P (map (whole_extension t) xs)
    extensions t [] = tt
    extensions t (x ∷ xs) = (extension t.parts.kind x.place (record x.it { kind = t.parts.kind; name = t.parts.name }), extensions t xs)

    each_type : (ds : Definitions) (ts : List (TypeDefinition Place)) → Each P (flat_map (whole_type ds) ts)
    each_type ds [] = tt
    each_type ds (t ∷ ts) =
        Each-append P (whole_type ds t) (flat_map (whole_type ds) ts)
        (Each-append P (if is_built_in t.place then [] else whole_definition t ∷ []) (map (whole_extension t) (arranged classes (extensions_in ds t.parts))) (by (is_built_in t.place)) (extensions t (arranged classes (extensions_in ds t.parts))))
        (each_type ds ts)
      where
        by : (b : Bool) → Each P (if b then [] else whole_definition t ∷ [])
        by true = tt
        by false = (definition t.parts.kind t.place t.description t.parts, tt)

none_defined : (k : TypeKind) (p : Place) (d : Option (Text Place)) (t : TypeParts Place) → is_executable (definition_by k p d t) ≡ false
none_defined Scalar p d t = refl
none_defined Object p d t = refl
none_defined Interface p d t = refl
none_defined Union p d t = refl
none_defined Enum p d t = refl
none_defined InputObject p d t = refl

none_extended : (k : TypeKind) (p : Place) (t : TypeParts Place) → is_executable (extension_by k p t) ≡ false
none_extended Scalar p t = refl
none_extended Object p t = refl
none_extended Interface p t = refl
none_extended Union p t = refl
none_extended Enum p t = refl
none_extended InputObject p t = refl

no_directive_defined : (k : TypeKind) (p : Place) (d : Option (Text Place)) (t : TypeParts Place) → directive_here (definition_by k p d t) ≡ None
no_directive_defined Scalar p d t = refl
no_directive_defined Object p d t = refl
no_directive_defined Interface p d t = refl
no_directive_defined Union p d t = refl
no_directive_defined Enum p d t = refl
no_directive_defined InputObject p d t = refl

no_directive_extended : (k : TypeKind) (p : Place) (t : TypeParts Place) → directive_here (extension_by k p t) ≡ None
no_directive_extended Scalar p t = refl
no_directive_extended Object p t = refl
no_directive_extended Interface p t = refl
no_directive_extended Union p t = refl
no_directive_extended Enum p t = refl
no_directive_extended InputObject p t = refl

no_schema_defined : (k : TypeKind) (p : Place) (d : Option (Text Place)) (t : TypeParts Place) → schema_here (definition_by k p d t) ≡ None
no_schema_defined Scalar p d t = refl
no_schema_defined Object p d t = refl
no_schema_defined Interface p d t = refl
no_schema_defined Union p d t = refl
no_schema_defined Enum p d t = refl
no_schema_defined InputObject p d t = refl

no_schema_extended : (k : TypeKind) (p : Place) (t : TypeParts Place) → schema_here (extension_by k p t) ≡ None
no_schema_extended Scalar p t = refl
no_schema_extended Object p t = refl
no_schema_extended Interface p t = refl
no_schema_extended Union p t = refl
no_schema_extended Enum p t = refl
no_schema_extended InputObject p t = refl

no_extension_defined : (k : TypeKind) (p : Place) (d : Option (Text Place)) (t : TypeParts Place) → schema_extension_here (definition_by k p d t) ≡ None
no_extension_defined Scalar p d t = refl
no_extension_defined Object p d t = refl
no_extension_defined Interface p d t = refl
no_extension_defined Union p d t = refl
no_extension_defined Enum p d t = refl
no_extension_defined InputObject p d t = refl

no_extension_extended : (k : TypeKind) (p : Place) (t : TypeParts Place) → schema_extension_here (extension_by k p t) ≡ None
no_extension_extended Scalar p t = refl
no_extension_extended Object p t = refl
no_extension_extended Interface p t = refl
no_extension_extended Union p t = refl
no_extension_extended Enum p t = refl
no_extension_extended InputObject p t = refl

module _ (built_in : Definitions) (first again_first : ℕ) (texts : Definitions) (table : IsTable built_in) (own : AreOwn texts) (rules : FoldingRules built_in first texts) where
  abbrev ds : Definitions
  ds = built_in ++ texts

  abbrev schema_out : Definitions
  schema_out = written_schema (fold built_in first texts)

  abbrev directives_out : Definitions
  directives_out = flat_map written_directive (folded_directives built_in texts)

  abbrev types_out : Definitions
  types_out = flat_map written_type (folded_types first ds)

  abbrev types_stood : Definitions
  types_stood = flat_map (whole_type ds) (firsts type_name (types_in ds))

  stood : types_out ≡ types_stood
  stood = types_whole built_in first texts rules

  -- none of a part is of another
  types_no_directive : Each (λ d. directive_here d ≡ None) types_out
  types_no_directive = subst (Each (λ d. directive_here d ≡ None)) (sym stood) (each_type (λ d. directive_here d ≡ None) no_directive_defined no_directive_extended ds (firsts type_name (types_in ds)))

  types_no_schema : Each (λ d. schema_here d ≡ None) types_out
  types_no_schema = subst (Each (λ d. schema_here d ≡ None)) (sym stood) (each_type (λ d. schema_here d ≡ None) no_schema_defined no_schema_extended ds (firsts type_name (types_in ds)))

  types_no_extension : Each (λ d. schema_extension_here d ≡ None) types_out
  types_no_extension = subst (Each (λ d. schema_extension_here d ≡ None)) (sym stood) (each_type (λ d. schema_extension_here d ≡ None) no_extension_defined no_extension_extended ds (firsts type_name (types_in ds)))

  abbrev entries : List (List ℕ × Placed Place (DirectiveDefinitionTree Place))
  entries = folded_directives built_in texts

  -- the types of what is written, whichever schema definition is
  types_again : (w : Definitions) → Each (λ d. type_here d ≡ None) w → Each (λ d. type_extension_here d ≡ None) w → types_in (built_in ++ (w ++ (directives_out ++ types_out))) ≡ types_in ds
  types_again w no_type no_extension =
      ap (λ l. types_in (built_in ++ l)) (sym (append_assoc w directives_out types_out) ∙ ap (λ l. (w ++ directives_out) ++ l) stood)
      ∙ same_types built_in first texts rules table own (w ++ directives_out)
      (Each-append (λ d. type_here d ≡ None) w directives_out no_type (each_directive (λ d. type_here d ≡ None) (λ p d. refl) entries))
      (Each-append (λ d. type_extension_here d ≡ None) w directives_out no_extension (each_directive (λ d. type_extension_here d ≡ None) (λ p d. refl) entries)) again_first

  types_of_either : (w : Definitions) → (w ≡ []) ⊎ (w ≡ whole_schema ds) → types_in (built_in ++ (w ++ (directives_out ++ types_out))) ≡ types_in ds
  types_of_either w (inl e) = ap (λ w. types_in (built_in ++ (w ++ (directives_out ++ types_out)))) e ∙ types_again [] tt tt
  types_of_either w (inr e) =
      ap (λ w. types_in (built_in ++ (w ++ (directives_out ++ types_out)))) e
      ∙ types_again (whole_schema ds) (each_whole_schema (λ d. type_here d ≡ None) (λ p d s. refl) (λ p s. refl) ds) (each_whole_schema (λ d. type_extension_here d ≡ None) (λ p d s. refl) (λ p s. refl) ds)

  abbrev out : Definitions
  out = WrittenOf built_in first texts

  abbrev after_schema : Definitions
  after_schema = directives_out ++ types_out

  parts : out ≡ schema_out ++ after_schema
  parts = append_assoc schema_out directives_out types_out

  schema_same : written_schema (fold built_in again_first out) ≡ schema_out
  schema_same =
      ap (λ l. written_schema (fold built_in again_first l)) parts
      ∙ schema_twice built_in first texts rules table after_schema
      (Each-append (λ d. schema_here d ≡ None) directives_out types_out (each_directive (λ d. schema_here d ≡ None) (λ p d. refl) entries) types_no_schema)
      (Each-append (λ d. schema_extension_here d ≡ None) directives_out types_out (each_directive (λ d. schema_extension_here d ≡ None) (λ p d. refl) entries) types_no_extension)
      again_first (all_types built_in first texts rules table own ∙ sym (types_append built_in texts)) types_of_either

  directives_same : folded_directives built_in out ≡ folded_directives built_in texts
  directives_same =
      ap (folded_directives built_in) parts
      ∙ directives_twice built_in first texts rules table own schema_out types_out (each_schema (λ d. directive_here d ≡ None) (λ p d s. refl) (λ p s. refl) (fold built_in first texts)) types_no_directive

  types_same : flat_map written_type (folded_types again_first (built_in ++ out)) ≡ types_out
  types_same =
      ap (λ l. flat_map written_type (folded_types again_first (built_in ++ ((schema_out ++ directives_out) ++ l)))) stood
      ∙ types_twice built_in first texts rules table own (schema_out ++ directives_out)
      (Each-append (λ d. type_here d ≡ None) schema_out directives_out (each_schema (λ d. type_here d ≡ None) (λ p d s. refl) (λ p s. refl) (fold built_in first texts)) (each_directive (λ d. type_here d ≡ None) (λ p d. refl) entries))
      (Each-append (λ d. type_extension_here d ≡ None) schema_out directives_out (each_schema (λ d. type_extension_here d ≡ None) (λ p d s. refl) (λ p s. refl) (fold built_in first texts)) (each_directive (λ d. type_extension_here d ≡ None) (λ p d. refl) entries))
      again_first

  pub types_all : types_in (built_in ++ out) ≡ types_in ds
  types_all = ap (λ l. types_in (built_in ++ l)) parts ∙ types_again schema_out (each_schema (λ d. type_here d ≡ None) (λ p d s. refl) (λ p s. refl) (fold built_in first texts)) (each_schema (λ d. type_extension_here d ≡ None) (λ p d s. refl) (λ p s. refl) (fold built_in first texts))

  pub types_distinct : firsts type_name (types_in (built_in ++ out)) ≡ types_in (built_in ++ out)
  types_distinct = ap (firsts type_name) types_all ∙ (all_types built_in first texts rules table own ∙ sym (types_append built_in texts)) ∙ sym types_all

  pub directives_distinct : firsts directive_name (directives_in out) ≡ directives_in out
  directives_distinct =
      let are = ap directives_in parts ∙ again_own built_in first texts rules table own schema_out types_out (each_schema (λ d. directive_here d ≡ None) (λ p d s. refl) (λ p s. refl) (fold built_in first texts)) types_no_directive in
      ap (firsts directive_name) are ∙ out_distinct built_in first texts rules table own ∙ sym are

  pub again_no_repeats_of : Each (HasNoRepeats (numbered again_first (built_in ++ out))) (firsts type_name (types_in (built_in ++ out)))
  again_no_repeats_of =
      subst (λ ts. Each (HasNoRepeats (numbered again_first (built_in ++ out))) (firsts type_name ts)) (sym types_all)
      (subst (λ l. Each (HasNoRepeats (numbered again_first (built_in ++ ((schema_out ++ directives_out) ++ l)))) (firsts type_name (types_in ds))) (sym stood)
      (again_no_repeats built_in first texts rules table own (schema_out ++ directives_out)
      (Each-append (λ d. type_here d ≡ None) schema_out directives_out (each_schema (λ d. type_here d ≡ None) (λ p d s. refl) (λ p s. refl) (fold built_in first texts)) (each_directive (λ d. type_here d ≡ None) (λ p d. refl) entries))
      (Each-append (λ d. type_extension_here d ≡ None) schema_out directives_out (each_schema (λ d. type_extension_here d ≡ None) (λ p d s. refl) (λ p s. refl) (fold built_in first texts)) (each_directive (λ d. type_extension_here d ≡ None) (λ p d. refl) entries))
      again_first))

  pub roots_few : ((if schema_is_defined (built_in ++ out) then flat_map extends_schema (numbered again_first (built_in ++ out)) else []) ≡ flat_map extends_schema (numbered again_first (built_in ++ out))) × ((op : OperationType) → length (roots_in op (built_in ++ out)) ≤ 1)
  roots_few =
      subst (λ l. ((if schema_is_defined (built_in ++ l) then flat_map extends_schema (numbered again_first (built_in ++ l)) else []) ≡ flat_map extends_schema (numbered again_first (built_in ++ l))) × ((op : OperationType) → length (roots_in op (built_in ++ l)) ≤ 1)) (sym parts)
      (again_fits built_in first texts rules table after_schema
      (Each-append (λ d. schema_here d ≡ None) directives_out types_out (each_directive (λ d. schema_here d ≡ None) (λ p d. refl) entries) types_no_schema)
      (Each-append (λ d. schema_extension_here d ≡ None) directives_out types_out (each_directive (λ d. schema_extension_here d ≡ None) (λ p d. refl) entries) types_no_extension)
      again_first (all_types built_in first texts rules table own ∙ sym (types_append built_in texts)) types_of_either)

  pub none_executable : Each (λ d. is_executable d ≡ false) out
  none_executable =
      Each-append (λ d. is_executable d ≡ false) (schema_out ++ directives_out) types_out
      (Each-append (λ d. is_executable d ≡ false) schema_out directives_out (each_schema (λ d. is_executable d ≡ false) (λ p d s. refl) (λ p s. refl) (fold built_in first texts)) (each_directive (λ d. is_executable d ≡ false) (λ p d. refl) entries))
      (subst (Each (λ d. is_executable d ≡ false)) (sym stood) (each_type (λ d. is_executable d ≡ false) none_defined none_extended ds (firsts type_name (types_in ds))))

  -- the schema definition is the one that is written, if one is
  schemas_few : flat_map (λ d. option_to_list (schema_here d)) out ≡ flat_map (λ d. option_to_list (schema_here d)) schema_out
  schemas_few =
      ap (flat_map (λ d. option_to_list (schema_here d))) parts ∙ flat_map-append (λ d. option_to_list (schema_here d)) schema_out after_schema
      ∙ ap (λ l. flat_map (λ d. option_to_list (schema_here d)) schema_out ++ l) (no_schemas after_schema (Each-append (λ d. schema_here d ≡ None) directives_out types_out (each_directive (λ d. schema_here d ≡ None) (λ p d. refl) entries) types_no_schema))
      ∙ append-nil (flat_map (λ d. option_to_list (schema_here d)) schema_out)

  pub one_schema : length (flat_map (λ d. option_to_list (schema_here d)) out) ≤ 1
  one_schema = subst (λ l. length l ≤ 1) (sym schemas_few) (by (is_left_out (fold built_in first texts)))
    where
      none : (es : List (ExtensionTree Place)) (f : ExtensionTree Place → SchemaParts Place) → flat_map (λ d. option_to_list (schema_here d)) (map (λ e. ExtendSchema e.place (f e)) es) ≡ []
      none [] f = refl
      none (e ∷ es) f = none es f

      s : SchemaTree Place
      s = fold built_in first texts

      by : (b : Bool) → length (flat_map (λ d. option_to_list (schema_here d)) (if b then [] else Schema s.definition.place s.definition.description (schema_parts_given_by None None s.definition)
          ∷ map (λ e. ExtendSchema e.place (schema_parts_given_by None (Some e) s.definition)) (extensions_of_schema s.definition))) ≤ 1
      by true = omega arith
      by false = let e = ap length (none (extensions_of_schema s.definition) (λ e. schema_parts_given_by None (Some e) s.definition)) in omega (arith, e)

  -- an extension of the schema stands beside its definition
  pub extended_defined : Each (λ d. is_some (schema_extension_here d) ≡ true → schema_is_defined (built_in ++ out) ≡ true) out
  extended_defined = by (is_left_out (fold built_in first texts)) refl
    where
      s : SchemaTree Place
      s = fold built_in first texts

      rest_none : Each (λ d. schema_extension_here d ≡ None) after_schema
      rest_none = Each-append (λ d. schema_extension_here d ≡ None) directives_out types_out (each_directive (λ d. schema_extension_here d ≡ None) (λ p d. refl) entries) types_no_extension

      abstain : (xs : Definitions) → Each (λ d. schema_extension_here d ≡ None) xs → Each (λ d. is_some (schema_extension_here d) ≡ true → schema_is_defined (built_in ++ out) ≡ true) xs
      abstain [] h = tt
      abstain (d ∷ ds) h = ((λ e. absurd (true≢false (sym e ∙ ap is_some h.0))), abstain ds h.1)

      all_do : schema_is_defined (built_in ++ out) ≡ true → (xs : Definitions) → Each (λ d. is_some (schema_extension_here d) ≡ true → schema_is_defined (built_in ++ out) ≡ true) xs
      all_do h [] = tt
      all_do h (d ∷ ds) = ((λ e. h), all_do h ds)

      by : (b : Bool) → is_left_out s ≡ b → Each (λ d. is_some (schema_extension_here d) ≡ true → schema_is_defined (built_in ++ out) ≡ true) out
      by true e =
          let none : schema_out ≡ [] = ap (λ b. if b then [] else Schema s.definition.place s.definition.description (schema_parts_given_by None None s.definition)
          ∷ map (λ e. ExtendSchema e.place (schema_parts_given_by None (Some e) s.definition)) (extensions_of_schema s.definition)) e in
          subst (Each (λ d. is_some (schema_extension_here d) ≡ true → schema_is_defined (built_in ++ out) ≡ true)) (sym (parts ∙ ap (λ l. l ++ after_schema) none)) (abstain after_schema rest_none)
      by false e =
          let some : schema_out ≡ Schema s.definition.place s.definition.description (schema_parts_given_by None None s.definition)
          ∷ map (λ e. ExtendSchema e.place (schema_parts_given_by None (Some e) s.definition)) (extensions_of_schema s.definition) = ap (λ b. if b then [] else Schema s.definition.place s.definition.description (schema_parts_given_by None None s.definition)
          ∷ map (λ e. ExtendSchema e.place (schema_parts_given_by None (Some e) s.definition)) (extensions_of_schema s.definition)) e in
          all_do (ap (λ l. is_some (slice_get l 0) || is_some (slice_get (implicit_roots (built_in ++ out)) 0))
          (flat_map-append (λ d. option_to_list (schema_here d)) built_in out ∙ (λ i. no_schemas built_in (all_each (λ d. schema_here d ≡ None) built_in table.no_schema) i ++ (schemas_few ∙ ap (flat_map (λ d. option_to_list (schema_here d))) some) i))) out

  -- no extension of a type that is written is an orphan, and each is of its type's kind
  pub no_orphans : Each (λ d. (e : TypeParts Place) → type_extension_here d ≡ Some e → (t : TypeDefinition Place) × ((type_named e.name.it (built_in ++ out) ≡ Some t) × (same_kind t.parts.kind e.kind ≡ true))) out
  no_orphans =
      let all = all_types built_in first texts rules table own ∙ sym (types_append built_in texts) in
      let again : types_in (built_in ++ out) ≡ types_in ds =
      ap (λ l. types_in (built_in ++ ((schema_out ++ directives_out) ++ l))) stood
      ∙ same_types built_in first texts rules table own (schema_out ++ directives_out)
      (Each-append (λ d. type_here d ≡ None) schema_out directives_out (each_schema (λ d. type_here d ≡ None) (λ p d s. refl) (λ p s. refl) (fold built_in first texts)) (each_directive (λ d. type_here d ≡ None) (λ p d. refl) entries))
      (Each-append (λ d. type_extension_here d ≡ None) schema_out directives_out (each_schema (λ d. type_extension_here d ≡ None) (λ p d s. refl) (λ p s. refl) (fold built_in first texts)) (each_directive (λ d. type_extension_here d ≡ None) (λ p d. refl) entries))
      again_first in
      subst (λ ts. Each (HasType ts) out) (all ∙ sym again)
      (Each-append (HasType (firsts type_name (types_in ds))) (schema_out ++ directives_out) types_out
      (Each-append (HasType (firsts type_name (types_in ds))) schema_out directives_out
      (each_schema (HasType (firsts type_name (types_in ds))) (λ p d s e is. cc) (λ p s e is. cc) (fold built_in first texts)) (each_directive (HasType (firsts type_name (types_in ds))) (λ p d e is. cc) entries))
      (subst (Each (HasType (firsts type_name (types_in ds)))) (sym stood) (types_have (firsts type_name (types_in ds)) ds (firsts type_name (types_in ds)) (all_found ds))))

  -- the types of what is written are equal to those of the list
  pub types_plain : named plain_type (folded_types again_first (built_in ++ out)) ≡ named plain_type (folded_types first ds)
  types_plain =
      ap (λ l. named plain_type (folded_types again_first (built_in ++ ((schema_out ++ directives_out) ++ l)))) stood
      ∙ types_equal built_in first texts rules table own (schema_out ++ directives_out)
      (Each-append (λ d. type_here d ≡ None) schema_out directives_out (each_schema (λ d. type_here d ≡ None) (λ p d s. refl) (λ p s. refl) (fold built_in first texts)) (each_directive (λ d. type_here d ≡ None) (λ p d. refl) entries))
      (Each-append (λ d. type_extension_here d ≡ None) schema_out directives_out (each_schema (λ d. type_extension_here d ≡ None) (λ p d s. refl) (λ p s. refl) (fold built_in first texts)) (each_directive (λ d. type_extension_here d ≡ None) (λ p d. refl) entries))
      again_first

  -- and so are the definitions of directives: the very same
  pub directives_plain : folded_directives built_in out ≡ folded_directives built_in texts
  directives_plain = directives_same

  -- and the schema definition
  pub definition_plain : plain_roots (folded_schema again_first (built_in ++ out)) ≡ plain_roots (folded_schema first ds)
  definition_plain =
      ap (λ l. plain_roots (folded_schema again_first (built_in ++ l))) parts
      ∙ schema_equal built_in first texts rules table after_schema
      (Each-append (λ d. schema_here d ≡ None) directives_out types_out (each_directive (λ d. schema_here d ≡ None) (λ p d. refl) entries) types_no_schema)
      (Each-append (λ d. schema_extension_here d ≡ None) directives_out types_out (each_directive (λ d. schema_extension_here d ≡ None) (λ p d. refl) entries) types_no_extension)
      again_first (all_types built_in first texts rules table own ∙ sym (types_append built_in texts)) types_of_either

  -- what is written folds to an equal schema
  pub all_plain : plain (fold built_in again_first out) ≡ plain (fold built_in first texts)
  all_plain = λ i. record { definition = definition_plain i; directives = named plain_directive_definition (directives_same i); types = types_plain i }

  pub written_twice : WrittenOf built_in again_first out ≡ out
  written_twice = λ i. schema_same i ++ flat_map written_directive (directives_same i) ++ types_same i
