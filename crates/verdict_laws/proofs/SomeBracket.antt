-- Lemmas on accepted schema texts: there is one, and in one of them a bracket is open, since the query root has a field.
use Rattle.std.proofs.Common.{◌≡◌, ◌⊎◌, ℕ, ◌≤◌, Bool, true, false, List, [], ◌∷◌, ◌++◌, length, Option, Some, None, refl, sym, ap, subst, ◌∙◌, if◌then◌else◌, inl, inr, arith, true≢false}
use Rattle.std.specs.List.{find}
use Rattle.std.specs.Option.{option_map, option_map_or}
use Rattle.std.specs.Str.{bytes_eq}
use Rattle.std.proofs.lemmas.Option.{same_Some}
use Rattle.graphql_names.specs.Placed.{Place}
use Rattle.schema_components.specs.in_operations.OperationQueries.{default_root_name}
use Rattle.schema_components.specs.in_operations.in_directives.declared.operation_type.OperationType.{OperationType}
use Rattle.schema_components.specs.in_operations.in_directives.declared.operation_type.OperationType.TheVariants as operation
use Rattle.schema_components.specs.Given.{given_name, plain_given}
use Rattle.tree_type_members.specs.TypeSystemTree.{unplaced_field_definition}
use Rattle.schema_types.specs.SchemaTree.{SchemaType, same_kind}
use Rattle.schema_types.specs.Plain.{plain_type}
use Rattle.schema_types.specs.Looks.{type_looks}
use Rattle.schema_types.specs.Addresses.{SchemaAt, TypeAt, under}
use Rattle.schema_types.specs.TypeParts.{TypeDefinition}
use Rattle.schema_types.specs.declared.type_kind.TypeKind.TheVariants.{Object}
use Rattle.schema_types.proofs.UnderNames.{get_under}
use Rattle.schema_built_in.specs.Table.{built_in_definitions}
use Rattle.schema_fold.specs.NumberedDefinition.{Definitions, numbered, type_name, types_in, type_named}
use Rattle.schema_fold.specs.Components.{all_given, field_key, keyed_firsts}
use Rattle.schema_fold.specs.SchemaFold.{Root, is_object_in, implicit_roots, schema_base, root_in, folded_schema}
use Rattle.schema_fold.specs.Fold.{fold, folded_type}
use Rattle.rule_definitions.specs.Diagnostics.{QueryRootOperationType, EmptyFieldSet}
use Rattle.rule_definitions.specs.Faults.{told}
use Rattle.rule_definitions.specs.Judged.{judged}
use Rattle.rule_definitions.specs.Rules.{SchemaRules}
use Rattle.round_trip.specs.TreeDepth.{definition_depth, document_depth}
use Rattle.verdict_laws.proofs.Order.{Each, Each-append, Each-map}
use Rattle.verdict_laws.proofs.Again.{kinds_same}
use Rattle.verdict_laws.proofs.Depth.{all_fit}
use Rattle.verdict_laws.proofs.RealTable.{real_table, real_table_has_no_query}
use Rattle.verdict_laws.proofs.TypesTwice.{types_append}
use Rattle.verdict_laws.proofs.Marks.{under_firsts}
use Rattle.verdict_definitions.specs.Texts.{SourceText, Tree, Terms, ReadsAll, AreWithin, PassesNumbers}
use Rattle.verdict_definitions.specs.Meaning.{all_definitions}
use Rattle.verdict_definitions.specs.Judge.{AreSchemasAccepted}
use Rattle.verdict_laws.proofs.ReadBack.{texts_depth}
use Rattle.verdict_laws.proofs.Bracketless.{GivesNone, flat_each, own_fields, table_each, roots_are, base_roots, no_components}

-- ---- the query root

abbrev by_default : OperationType → Root
by_default op = record { it = record { operation_type = op; name = record { it = default_root_name op; place = None } }; place = None }

abbrev defaults : Bool → Bool → Bool → List Root
defaults a b c = (if a then by_default operation.Query ∷ [] else []) ++ ((if b then by_default operation.Mutation ∷ [] else []) ++ (if c then by_default operation.Subscription ∷ [] else []))

no_default : (b c : Bool) → root_in operation.Query (all_given None (defaults false b c)) ≡ None
no_default true true = refl
no_default true false = refl
no_default false true = refl
no_default false false = refl

-- it is the object of the default name
query_object : (first : ℕ) (ds : Definitions) → Each GivesNone ds → ((folded_schema first ds).query ≡ None → ⊥) → is_object_in ds (default_root_name operation.Query) ≡ true
query_object first ds none some = by (base_roots first ds none)
  where
    given : (rs : List Root) → (schema_base ds).parts.roots ≡ rs → (folded_schema first ds).query ≡ root_in operation.Query (all_given None rs)
    given rs e = ap (root_in operation.Query) (roots_are first ds none ∙ ap (λ rs. all_given None rs) e)

    by : ((schema_base ds).parts.roots ≡ []) ⊎ ((schema_base ds).parts.roots ≡ implicit_roots ds) → is_object_in ds (default_root_name operation.Query) ≡ true
    by (inl e) = absurd (some (given [] e))
    by (inr e) = at (is_object_in ds (default_root_name operation.Query)) refl
      where
        at : (b : Bool) → is_object_in ds (default_root_name operation.Query) ≡ b → b ≡ true
        at true is = refl
        at false is =
            absurd (some (given (defaults false (is_object_in ds (default_root_name operation.Mutation)) (is_object_in ds (default_root_name operation.Subscription)))
            (e ∙ ap (λ b. defaults b (is_object_in ds (default_root_name operation.Mutation)) (is_object_in ds (default_root_name operation.Subscription))) is)
            ∙ no_default (is_object_in ds (default_root_name operation.Mutation)) (is_object_in ds (default_root_name operation.Subscription))))

named_object : (n : List ℕ) (ds : Definitions) → is_object_in ds n ≡ true → (t : TypeDefinition Place) × ((type_named n ds ≡ Some t) × (t.parts.kind ≡ Object))
named_object n ds h = by (type_named n ds) refl h
  where
    by : (o : Option (TypeDefinition Place)) → type_named n ds ≡ o → option_map_or (λ t. same_kind t.parts.kind Object) o false ≡ true → (t : TypeDefinition Place) × ((type_named n ds ≡ Some t) × (t.parts.kind ≡ Object))
    by None e k = absurd (true≢false (sym k))
    by (Some t) e k = (t, (e, kinds_same t.parts.kind Object k))

-- ---- what is found by a name

module _ {X : Type 0} (test : X → Bool) where
  none_found : (xs : List X) → find test xs ≡ None → Each (λ x. test x ≡ false) xs
  none_found [] e = tt
  none_found (x ∷ xs) e = by (test x) refl e (none_found xs)
    where
      by : (b : Bool) → test x ≡ b → (if b then Some x else find test xs) ≡ None → (find test xs ≡ None → Each (λ x. test x ≡ false) xs) → (test x ≡ false) × Each (λ x. test x ≡ false) xs
      by true is k rest = absurd cc
      by false is k rest = (is, rest k)

  found_has : (P : X → Type 0) (xs : List X) (y : X) → find test xs ≡ Some y → Each (λ x. test x ≡ true → P x) xs → P y
  found_has P [] y e h = absurd cc
  found_has P (x ∷ xs) y e h = by (test x) refl e (λ k. found_has P xs y k h.1)
    where
      by : (b : Bool) → test x ≡ b → (if b then Some x else find test xs) ≡ Some y → (find test xs ≡ Some y → P y) → P y
      by true is k rest = subst P (same_Some x y k) (h.0 is)
      by false is k rest = rest k

-- ---- a schema without a bracket

module _ (first : ℕ) (ds : Definitions) (flat_all : Each (λ d. definition_depth d ≤ 0) ds) where
  abbrev all : Definitions
  all = built_in_definitions ++ ds

  abbrev name : List ℕ
  name = default_root_name operation.Query

  none : Each GivesNone all
  none = Each-append GivesNone built_in_definitions ds (table_each built_in_definitions real_table.no_schema real_table.no_schema_extension real_table.no_extension) (flat_each ds flat_all)

  named_fields : Each (λ (t : TypeDefinition Place). bytes_eq name (type_name t) ≡ true → t.parts.fields ≡ []) (types_in all)
  named_fields =
      subst (Each (λ (t : TypeDefinition Place). bytes_eq name (type_name t) ≡ true → t.parts.fields ≡ [])) (sym (types_append built_in_definitions ds))
      (Each-append (λ (t : TypeDefinition Place). bytes_eq name (type_name t) ≡ true → t.parts.fields ≡ []) (types_in built_in_definitions) (types_in ds)
      (Each-map {P = λ (t : TypeDefinition Place). bytes_eq name (type_name t) ≡ false} {Q = λ (t : TypeDefinition Place). bytes_eq name (type_name t) ≡ true → t.parts.fields ≡ []}
      (λ t no yes. absurd (true≢false (sym yes ∙ no))) (types_in built_in_definitions) (none_found (λ t. bytes_eq name (type_name t)) (types_in built_in_definitions) real_table_has_no_query))
      (Each-map {P = λ (t : TypeDefinition Place). t.parts.fields ≡ []} {Q = λ (t : TypeDefinition Place). bytes_eq name (type_name t) ≡ true → t.parts.fields ≡ []} (λ t e yes. e) (types_in ds) (own_fields ds flat_all)))

  abbrev folded : TypeDefinition Place → SchemaType Place
  folded t = folded_type (numbered first all) t

  -- so the query root has no field, against the rules
  some_bracket_missing : SchemaRules (judged (fold built_in_definitions first ds)) → ⊥
  some_bracket_missing rules =
      let object = query_object first all none (λ e. rules (told SchemaAt QueryRootOperationType) (inl (inl (ap (option_map given_name) e, refl)))) in
      let found = named_object name all object in
      let t : TypeDefinition Place = found.0 in
      let no : t.parts.fields ≡ [] = found_has (λ t. bytes_eq name (type_name t)) (λ t. t.parts.fields ≡ []) (types_in all) t found.1.0 named_fields in
      rules (told (TypeAt name) (EmptyFieldSet name (TypeAt name) (TypeAt name))) (inr (inl (inl (
        name,
        (
          type_looks (plain_type (folded t)),
          (
            ap (option_map type_looks) (get_under plain_type name (fold built_in_definitions first ds).types ∙ ap (option_map plain_type) (under_firsts type_name folded name (types_in all) ∙ ap (option_map folded) found.1.0)),
            (inl found.1.1, (λ m. get_under (plain_given unplaced_field_definition) m (folded t).fields ∙ ap (λ gs. option_map (plain_given unplaced_field_definition) (under m (keyed_firsts field_key gs))) (no_components first all none t no), refl)),
          ),
        ),
      ))))

-- ---- accepted texts

positive : (n : ℕ) → (n ≤ 0 → ⊥) → 1 ≤ n
positive n h = omega arith

module _ (terms : Terms) (texts : List SourceText) (first : AreSchemasAccepted terms texts) where
  some_bracket : 1 ≤ document_depth (all_definitions first.judged.trees)
  some_bracket = positive (document_depth (all_definitions first.judged.trees)) (λ flat. some_bracket_missing terms.first_extension (all_definitions first.judged.trees) (all_fit 0 (all_definitions first.judged.trees) flat) first.judged.holds)

  -- one bracket may be open at once
  pub some_nesting : 1 ≤ terms.nesting
  some_nesting =
      let some = some_bracket in
      let deep = texts_depth terms.nesting terms.first_text texts first.judged.trees first.judged.read first.within in
      omega (arith, some, deep)

  pub some_text : 1 ≤ length texts
  some_text = by texts first.judged.trees refl first.judged.read
    where
      by : (xs : List SourceText) (trees : List Tree) → first.judged.trees ≡ trees → ReadsAll terms.first_text xs trees → 1 ≤ length xs
      by (x ∷ xs) trees e read = omega arith
      by [] (tree ∷ trees) e read = absurd read
      by [] [] e read = let bad : 1 ≤ 0 = subst (λ ts. 1 ≤ document_depth (all_definitions ts)) e some_bracket in absurd (omega (arith, bad))

  -- and the number of the first is left
  pub first_left : PassesNumbers terms.first_text → ⊥
  first_left = by texts some_text first.within
    where
      by : (xs : List SourceText) → 1 ≤ length xs → AreWithin terms.nesting terms.first_text xs → PassesNumbers terms.first_text → ⊥
      by [] some within = absurd (omega (arith, some))
      by (x ∷ xs) some within = within.0.numbered
