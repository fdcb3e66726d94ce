-- What is so of each definition of an accepted list is so of each definition that is written of it, where renaming an extension as
-- its type and sorting the roots of a schema do not change it.
use Rattle.std.proofs.Common.{◌≡◌, ◌⊎◌, ℕ, Bool, true, false, cond, List, [], ◌∷◌, ◌++◌, map, flat_map, Option, Some, None, refl, sym, ap, subst, ◌∙◌, if◌then◌else◌, option_to_list, slice_get, inl, inr, true≢false}
use Rattle.std.specs.List.{find}
use Rattle.std.specs.Option.{option_map_or}
use Rattle.std.specs.Cmp.{first_so, second_so}
use Rattle.std.specs.Str.{bytes_eq}
use Rattle.std.proofs.lemmas.Option.{same_Some}
use Rattle.std.proofs.lemmas.Slice.Eq.{bytes_eq-Decides}
use Rattle.graphql_names.specs.Places.{is_built_in}
use Rattle.graphql_names.specs.Placed.{Place, Text}
use Rattle.tree_definitions.specs.in_type_members.TypeSystemTree.{SchemaParts}
use Rattle.tree_definitions.specs.DefinitionTree as tree
use Rattle.tree_definitions.specs.DefinitionTree.{DefinitionTree}
use Rattle.tree_definitions.specs.Queries.{definition_place}
use Rattle.schema_components.specs.Lists.{firsts}
use Rattle.schema_types.specs.SchemaTree.{same_kind}
use Rattle.schema_types.specs.TypeParts.{TypeParts, TypeDefinition, type_here, type_extension_here, extension_by}
use Rattle.schema_types.specs.Out.{is_empty, is_object_named, written_directive}
use Rattle.schema_fold.specs.NumberedDefinition.{Definitions, type_name, types_in, directive_name, directives_in}
use Rattle.schema_fold.specs.Components.{go_together}
use Rattle.schema_fold.specs.SchemaFold.{SchemaGiver, schema_here, schema_extension_here, schema_base, implicit_roots}
use Rattle.schema_fold.specs.Fold.{chosen_directive, folded_types}
use Rattle.schema_fold.specs.BuildErrors.{FoldingRules}
use Rattle.verdict_laws.specs.Arranged.{arranged}
use Rattle.verdict_laws.specs.Whole.{Extension, classes, extension_at, extensions_in, whole_definition, whole_extension, whole_type}
use Rattle.verdict_laws.specs.WholeSchema.{whole_parts, SchemaExtension, schema_classes, schema_extensions_in, whole_schema_extension, left_out}
use Rattle.verdict_laws.specs.Table.{IsTable, AreOwn}
use Rattle.verdict_laws.specs.Twice.{WrittenOf}
use Rattle.verdict_laws.proofs.Order.{Each, Each-append, Each-arranged}
use Rattle.verdict_laws.proofs.Accepted.{types_whole}
use Rattle.verdict_laws.proofs.Again.{kinds_same}
use Rattle.verdict_laws.proofs.TypesTwice.{all_each, all_types}
use Rattle.verdict_laws.proofs.DirectivesTwice.{Directive, same, all_firsts, marked_unless_own}
use Rattle.verdict_laws.proofs.SchemaTwice.{schema_written, accepted_applied, accepted_at_most, written_by}

abbrev Parts : Type 0
Parts = TypeParts Place

-- the whole definition of a type is what stood there
stood : (d : DefinitionTree Place) (t : TypeDefinition Place) → type_here d ≡ Some t → whole_definition t ≡ d
stood (tree.ScalarType q w s) t e = subst (λ t. whole_definition t ≡ tree.ScalarType q w s) (same_Some _ _ e) refl
stood (tree.ObjectType q w s) t e = subst (λ t. whole_definition t ≡ tree.ObjectType q w s) (same_Some _ _ e) refl
stood (tree.InterfaceType q w s) t e = subst (λ t. whole_definition t ≡ tree.InterfaceType q w s) (same_Some _ _ e) refl
stood (tree.UnionType q w s) t e = subst (λ t. whole_definition t ≡ tree.UnionType q w s) (same_Some _ _ e) refl
stood (tree.EnumType q w s) t e = subst (λ t. whole_definition t ≡ tree.EnumType q w s) (same_Some _ _ e) refl
stood (tree.InputObjectType q w s) t e = subst (λ t. whole_definition t ≡ tree.InputObjectType q w s) (same_Some _ _ e) refl
stood _ t e = cc

-- What is so of definitions, and what is then so of the directives and roots of a schema.
pub record Stays (Q : DefinitionTree Place → Type 0) (R : SchemaParts Place → Type 0) : Type 0 where
  pub renamed : (d : DefinitionTree Place) (p : TypeParts Place) (n : Text Place) → type_extension_here d ≡ Some p → n.it ≡ p.name.it → Q d → Q (extension_by p.kind (definition_place d) (record p { name = n }))
  pub schema : (d : DefinitionTree Place) (g : SchemaGiver) → schema_here d ≡ Some g → Q d → R g.parts
  pub extension : (d : DefinitionTree Place) (p : SchemaParts Place) → schema_extension_here d ≡ Some p → Q d → R p
  pub implicit : (ds : Definitions) → R (record { directives = []; roots = implicit_roots ds })
  pub sorted : (q : Place) (w : Option (Text Place)) (p : SchemaParts Place) → R p → Q (tree.Schema q w (whole_parts p))
  pub sorted_extension : (q : Place) (p : SchemaParts Place) → R p → Q (tree.ExtendSchema q (whole_parts p))

module _ (Q : DefinitionTree Place → Type 0) (R : SchemaParts Place → Type 0) (stays : Stays Q R) where
  -- ---- types

  abbrev TypeFits : TypeDefinition Place → Type 0
  TypeFits t = (is_built_in t.place ≡ true) ⊎ Q (whole_definition t)

  types_fit : (ds : Definitions) → Each Q ds → Each TypeFits (types_in ds)
  types_fit [] h = tt
  types_fit (d ∷ ds) h = here (type_here d) refl (types_fit ds h.1)
    where
      here : (o : Option (TypeDefinition Place)) → type_here d ≡ o → Each TypeFits (types_in ds) → Each TypeFits (option_to_list o ++ types_in ds)
      here None e rest = rest
      here (Some t) e rest = (inr (subst Q (sym (stood d t e)) h.0), rest)

  marked_fit : (ts : List (TypeDefinition Place)) → Each (λ t. is_built_in t.place ≡ true) ts → Each TypeFits ts
  marked_fit [] h = tt
  marked_fit (t ∷ ts) h = (inl h.0, marked_fit ts h.1)

  extensions_fit : (t : TypeDefinition Place) (ds : Definitions) → Each (λ d. (type_extension_here d ≡ None) ⊎ Q d) ds → Each (λ x. Q (whole_extension t x)) (extensions_in ds t.parts)
  extensions_fit t [] h = tt
  extensions_fit t (d ∷ ds) h = Each-append (λ x. Q (whole_extension t x)) (extension_at t.parts d) (extensions_in ds t.parts) (here (type_extension_here d) refl h.0) (extensions_fit t ds h.1)
    where
      here : (o : Option Parts) → type_extension_here d ≡ o → (o ≡ None) ⊎ Q d
          → Each (λ x. Q (whole_extension t x)) (option_map_or (λ parts. if go_together t.parts parts then record { it = parts; place = definition_place d } ∷ [] else []) o [])
      here None e f = tt
      here (Some p) e (inl f) = absurd cc
      here (Some p) e (inr f) = by (go_together t.parts p) refl
        where
          by : (b : Bool) → go_together t.parts p ≡ b → Each (λ x. Q (whole_extension t x)) (if b then record { it = p; place = definition_place d } ∷ [] else [])
          by true g =
              let kind = kinds_same t.parts.kind p.kind (second_so (bytes_eq t.parts.name.it p.name.it) (same_kind t.parts.kind p.kind) g) in
              let name = (bytes_eq-Decides t.parts.name.it p.name.it).0 (first_so (bytes_eq t.parts.name.it p.name.it) (same_kind t.parts.kind p.kind) g) in
              (subst (λ k. Q (extension_by k (definition_place d) (record p { kind = k; name = t.parts.name }))) (sym kind) (stays.renamed d p t.parts.name e name f), tt)
          by false g = tt

  whole_fit : (ds : Definitions) → Each (λ d. (type_extension_here d ≡ None) ⊎ Q d) ds → (ts : List (TypeDefinition Place)) → Each TypeFits ts → Each Q (flat_map (whole_type ds) ts)
  whole_fit ds h [] f = tt
  whole_fit ds h (t ∷ ts) f =
      Each-append Q (whole_type ds t) (flat_map (whole_type ds) ts)
      (Each-append Q (if is_built_in t.place then [] else whole_definition t ∷ []) (map (whole_extension t) (arranged classes (extensions_in ds t.parts)))
      (by (is_built_in t.place) refl f.0) (mapped (arranged classes (extensions_in ds t.parts)) (Each-arranged (λ x. Q (whole_extension t x)) classes (extensions_in ds t.parts) (extensions_fit t ds h))))
      (whole_fit ds h ts f.1)
    where
      by : (b : Bool) → is_built_in t.place ≡ b → TypeFits t → Each Q (if b then [] else whole_definition t ∷ [])
      by true e k = tt
      by false e (inl k) = absurd (true≢false (sym k ∙ e))
      by false e (inr k) = (k, tt)

      mapped : (xs : List Extension) → Each (λ x. Q (whole_extension t x)) xs → Each Q (map (whole_extension t) xs)
      mapped [] k = tt
      mapped (x ∷ xs) k = (k.0, mapped xs k.1)

  -- ---- directives

  abbrev DirectiveFits : Directive → Type 0
  DirectiveFits x = Q (tree.DirectiveDefinition x.place x.it)

  directives_fit : (ds : Definitions) → Each Q ds → Each DirectiveFits (directives_in ds)
  directives_fit [] h = tt
  directives_fit (tree.DirectiveDefinition p x ∷ ds) h = (h.0, directives_fit ds h.1)
  directives_fit (tree.Operation p x ∷ ds) h = directives_fit ds h.1
  directives_fit (tree.Fragment p x ∷ ds) h = directives_fit ds h.1
  directives_fit (tree.Schema p w x ∷ ds) h = directives_fit ds h.1
  directives_fit (tree.ScalarType p w x ∷ ds) h = directives_fit ds h.1
  directives_fit (tree.ObjectType p w x ∷ ds) h = directives_fit ds h.1
  directives_fit (tree.InterfaceType p w x ∷ ds) h = directives_fit ds h.1
  directives_fit (tree.UnionType p w x ∷ ds) h = directives_fit ds h.1
  directives_fit (tree.EnumType p w x ∷ ds) h = directives_fit ds h.1
  directives_fit (tree.InputObjectType p w x ∷ ds) h = directives_fit ds h.1
  directives_fit (tree.ExtendSchema p x ∷ ds) h = directives_fit ds h.1
  directives_fit (tree.ExtendScalar p x ∷ ds) h = directives_fit ds h.1
  directives_fit (tree.ExtendObject p x ∷ ds) h = directives_fit ds h.1
  directives_fit (tree.ExtendInterface p x ∷ ds) h = directives_fit ds h.1
  directives_fit (tree.ExtendUnion p x ∷ ds) h = directives_fit ds h.1
  directives_fit (tree.ExtendEnum p x ∷ ds) h = directives_fit ds h.1
  directives_fit (tree.ExtendInputObject p x ∷ ds) h = directives_fit ds h.1

  found_fits : (n : List ℕ) (x : Directive) (xs : List Directive) → Each DirectiveFits xs → find (same n) xs ≡ Some x → DirectiveFits x
  found_fits n x [] h e = absurd cc
  found_fits n x (y ∷ ys) h e = by (same n y) refl (found_fits n x ys h.1)
    where
      by : (b : Bool) → same n y ≡ b → (find (same n) ys ≡ Some x → DirectiveFits x) → DirectiveFits x
      by true s rest = let f : Some y ≡ Some x = sym (ap (λ b. cond b (Some y) (find (same n) ys)) s) ∙ e in subst DirectiveFits (same_Some _ _ f) h.0
      by false s rest = rest (sym (ap (λ b. cond b (Some y) (find (same n) ys)) s) ∙ e)

  chosen_fit : (texts : Definitions) → Each Q texts → (ds : List Directive) → Each (λ d. find (same (directive_name d)) (directives_in texts) ≡ None → is_built_in d.place ≡ true) ds
      → Each Q (flat_map written_directive (map (λ d. (directive_name d, chosen_directive texts d)) ds))
  chosen_fit texts fit [] h = tt
  chosen_fit texts fit (d ∷ ds) h =
      Each-append Q (written_directive (directive_name d, chosen_directive texts d)) (flat_map written_directive (map (λ d. (directive_name d, chosen_directive texts d)) ds))
      (here (find (same (directive_name d)) (directives_in texts)) refl h.0) (chosen_fit texts fit ds h.1)
    where
      one : (x : Directive) (b : Bool) → DirectiveFits x → Each Q (if b then [] else tree.DirectiveDefinition x.place x.it ∷ [])
      one x true k = tt
      one x false k = (k, tt)

      here : (o : Option Directive) → find (same (directive_name d)) (directives_in texts) ≡ o → (o ≡ None → is_built_in d.place ≡ true) → Each Q (written_directive (directive_name d, option_map_or (λ own. own) o d))
      here None e k = subst (λ b. Each Q (if b then [] else tree.DirectiveDefinition d.place d.it ∷ [])) (sym (k refl)) tt
      here (Some x) e k = one x (is_built_in x.place) (found_fits (directive_name d) x (directives_in texts) (directives_fit texts fit) e)

  -- ---- the schema definition

  schema_extensions_fit : (ds : Definitions) → Each (λ d. (schema_extension_here d ≡ None) ⊎ Q d) ds → Each {X = SchemaExtension} (λ x. R x.it) (schema_extensions_in ds)
  schema_extensions_fit [] h = tt
  schema_extensions_fit (d ∷ ds) h =
      Each-append (λ x. R x.it) (option_map_or (λ parts. record { it = parts; place = definition_place d } ∷ []) (schema_extension_here d) []) (schema_extensions_in ds) (here (schema_extension_here d) refl h.0) (schema_extensions_fit ds h.1)
    where
      here : (o : Option (SchemaParts Place)) → schema_extension_here d ≡ o → (o ≡ None) ⊎ Q d → Each {X = SchemaExtension} (λ x. R x.it) (option_map_or (λ parts. record { it = parts; place = definition_place d } ∷ []) o [])
      here None e k = tt
      here (Some p) e (inl k) = absurd cc
      here (Some p) e (inr k) = (stays.extension d p e k, tt)

  schemas_fit : (ds : Definitions) → Each (λ d. (schema_here d ≡ None) ⊎ Q d) ds → Each (λ g. R g.parts) (flat_map (λ d. option_to_list (schema_here d)) ds)
  schemas_fit [] h = tt
  schemas_fit (d ∷ ds) h = here (schema_here d) refl h.0 (schemas_fit ds h.1)
    where
      here : (o : Option SchemaGiver) → schema_here d ≡ o → (o ≡ None) ⊎ Q d → Each (λ g. R g.parts) (flat_map (λ d. option_to_list (schema_here d)) ds) → Each (λ g. R g.parts) (option_to_list o ++ flat_map (λ d. option_to_list (schema_here d)) ds)
      here None e k rest = rest
      here (Some g) e (inl k) rest = absurd cc
      here (Some g) e (inr k) rest = (stays.schema d g e k, rest)

  base_fits : (ds : Definitions) → Each (λ d. (schema_here d ≡ None) ⊎ Q d) ds → R (schema_base ds).parts
  base_fits ds h = by (flat_map (λ d. option_to_list (schema_here d)) ds) (schemas_fit ds h)
    where
      by : (gs : List SchemaGiver) → Each (λ g. R g.parts) gs → R (option_map_or (λ s. s) (slice_get gs 0) (record { place = None; description = None; parts = record { directives = []; roots = implicit_roots ds } })).parts
      by [] k = stays.implicit ds
      by (g ∷ gs) k = k.0

  schema_fits : (b : Bool) (ds : Definitions) → Each (λ d. (schema_here d ≡ None) ⊎ Q d) ds → Each (λ d. (schema_extension_here d ≡ None) ⊎ Q d) ds → Each Q (written_by b ds)
  schema_fits true ds h k = tt
  schema_fits false ds h k = (
    stays.sorted (schema_base ds).place (schema_base ds).description (schema_base ds).parts (base_fits ds h),
    mapped (arranged schema_classes (schema_extensions_in ds)) (Each-arranged (λ x. R x.it) schema_classes (schema_extensions_in ds) (schema_extensions_fit ds k)),
  )
    where
      mapped : (xs : List SchemaExtension) → Each {X = SchemaExtension} (λ x. R x.it) xs → Each Q (map whole_schema_extension xs)
      mapped [] f = tt
      mapped (x ∷ xs) f = (stays.sorted_extension x.place x.it f.0, mapped xs f.1)

  -- ---- all

  either_each : (N : DefinitionTree Place → Type 0) (xs ys : Definitions) → Each N xs → Each Q ys → Each (λ d. N d ⊎ Q d) (xs ++ ys)
  either_each N [] [] h k = tt
  either_each N [] (y ∷ ys) h k = (inr k.0, either_each N [] ys tt k.1)
  either_each N (x ∷ xs) ys h k = (inl h.0, either_each N xs ys h.1 k)

  pub out_stays : (built_in : Definitions) (first : ℕ) (texts : Definitions) → IsTable built_in → AreOwn texts → FoldingRules built_in first texts → Each Q texts → Each Q (WrittenOf built_in first texts)
  out_stays built_in first texts table own rules fit =
      let ds = built_in ++ texts in
      let schema = subst (Each Q) (sym (schema_written built_in first texts (accepted_applied built_in first texts rules table) (accepted_at_most built_in first texts rules table)))
      (schema_fits (left_out (is_object_named (folded_types first ds)) (schema_base ds) (is_empty (arranged schema_classes (schema_extensions_in ds)))) ds
      (either_each (λ d. schema_here d ≡ None) built_in texts (all_each (λ d. schema_here d ≡ None) built_in table.no_schema) fit)
      (either_each (λ d. schema_extension_here d ≡ None) built_in texts (all_each (λ d. schema_extension_here d ≡ None) built_in table.no_schema_extension) fit)) in
      let directives = chosen_fit texts fit (all_firsts built_in first texts rules table own) (marked_unless_own built_in first texts rules table own) in
      let types = subst (Each Q) (sym (types_whole built_in first texts rules))
      (whole_fit ds (either_each (λ d. type_extension_here d ≡ None) built_in texts (all_each (λ d. type_extension_here d ≡ None) built_in table.no_extension) fit) (firsts type_name (types_in ds))
      (subst (Each TypeFits) (sym (all_types built_in first texts rules table own))
      (Each-append TypeFits (types_in built_in) (types_in texts) (marked_fit (types_in built_in) (all_each (λ t. is_built_in t.place ≡ true) (types_in built_in) table.types_marked)) (types_fit texts fit)))) in
      Each-append Q _ _ (Each-append Q _ _ schema directives) types
