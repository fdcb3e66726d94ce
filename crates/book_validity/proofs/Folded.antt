-- What definitions fold to after the built-in ones: only objects and interfaces have fields, and what is built in is there.
use Rattle.std.proofs.Common.{◌≡◌, ◌⊎◌, ◌∙◌, ℕ, Bool, true, false, List, [], ◌∷◌, ◌++◌, map, filter, find, bytes_eq, Option, None, Some, option_map, option_to_list, ◌&&◌, not, Contains, codes, refl, sym, ap, subst, inl, inr, true≢false, is_some, is_none, if◌then◌else◌}
use Rattle.std.proofs.lemmas.List.{append-nil}
use Rattle.std.proofs.lemmas.List.Elements.{Contains-append_right}
use Rattle.graphql_names.specs.Placed.{Placed, Place}
use Rattle.tree_type_members.specs.TypeSystemTree.{FieldDefinitionTree, unplaced_field_definition}
use Rattle.schema_components.specs.Lists.{firsts}
use Rattle.schema_components.specs.Given.{Given, plain_given}
use Rattle.schema_types.specs.SchemaTree.{SchemaTree, SchemaType, is_leaf_kind, is_output_kind}
use Rattle.schema_types.specs.Plain.{plain_type, plain}
use Rattle.schema_types.specs.Looks.{TypeLooks, type_looks}
use Rattle.schema_types.specs.Addresses.{under, type_at}
use Rattle.schema_types.specs.BuiltIn.{built_in_definitions}
use Rattle.schema_types.specs.TypeParts.{TypeDefinition, type_here}
use Rattle.schema_types.specs.declared.type_kind.TypeKind.{TypeKind}
use Rattle.schema_types.specs.declared.type_kind.TypeKind.TheVariants as kind
use Rattle.schema_types.proofs.UnderNames.{get_under}
use Rattle.schema_fold.specs.NumberedDefinition.{Definitions, numbered, type_name, types_in}
use Rattle.schema_fold.specs.Components.{parts_of}
use Rattle.schema_fold.specs.Collected.{collected_from}
use Rattle.schema_fold.specs.Kept.{KeptComponents, kept_from}
use Rattle.schema_fold.specs.Made.{IsOfKind}
use Rattle.schema_fold.specs.Fold.{fold, folded_type}
use Rattle.schema_fold.proofs.OfKind.{folded_of_kind}
use Rattle.schema_fold_types.proofs.Named.{find_firsts}
use Rattle.verdict_definitions.specs.in_typing.Meanings.{meanings}
use Rattle.rule_selections.proofs.in_typing.TypedPlaces.{document-typed}
use Rattle.rule_definitions.specs.Words.{Present}
use Rattle.rule_definitions.specs.Judged.{judged}
use Rattle.rule_definitions.specs.Names.{named_in, scalar_names}
use Rattle.rule_definitions.specs.Kept.{built_in_scalar, is_referenced, is_missing, kept, validated}
use Rattle.rule_definitions.specs.Rules.{SchemaRules}
use Rattle.rule_definitions.proofs.Lookups.{find_given}
use Rattle.rule_schema_laws.proofs.Validated.{named_type}
use Rattle.rule_schema_laws.proofs.Distinct.{folds_distinct}
use Rattle.rule_schema_laws.proofs.Fine.{here_is}
use Rattle.rule_cycle_search.proofs.Lists.{not_in_nil, only, found_in, Contains-cons, Contains-first, mapped_some}
use Rattle.rule_document_definitions.specs.PossibleTypes.{IsCompositeType}
use Rattle.book_validity.specs.MergingLaws.{AcceptedMergesAsSpecified}
use Rattle.book_validity.specs.Laws.{HasScalars}
use Rattle.book_validity.proofs.Granted.{HasOutputFields, FieldsAreOfTheirKinds, HasBuiltIn}
use Rattle.book_validity.proofs.Schemas.{output_fields}
use Rattle.book_validity.proofs.Typed.{merging}

module _ {X V : Type 0} (key : X → List ℕ) (made : X → V) where
  under_made : (n : List ℕ) (xs : List X) → under n (map (λ x. (key x, made x)) xs) ≡ option_map made (find (λ x. bytes_eq n (key x)) xs)
  under_made n [] = refl
  under_made n (x ∷ xs) = by (bytes_eq n (key x)) (under_made n xs)
    where
      by : (b : Bool) → under n (map (λ y. (key y, made y)) xs) ≡ option_map made (find (λ y. bytes_eq n (key y)) xs)
          → option_map (λ (e : List ℕ × V). e.1) (if b then Some (key x, made x) else find (λ (e : List ℕ × V). bytes_eq n e.0) (map (λ y. (key y, made y)) xs))
          ≡ option_map made (if b then Some x else find (λ y. bytes_eq n (key y)) xs)
      by true rest = refl
      by false rest = rest

none_pass : {X : Type 0} (p : X → Bool) (xs : List X) → ((x : X) → Contains xs x → p x ≡ false) → filter p xs ≡ []
none_pass p [] h = refl
none_pass p (x ∷ xs) h = ap (λ (b : Bool). if b then x ∷ filter p xs else filter p xs) (h x (Contains-first x xs x refl)) ∙ none_pass p xs (λ y c. h y (Contains-append_right (x ∷ []) xs y c))

module _ (first : ℕ) (texts : Definitions) where
  abbrev all : Definitions
  all = built_in_definitions ++ texts

  abbrev schema : SchemaTree Place
  schema = fold built_in_definitions first texts

  abbrev defined : List ℕ → Option (TypeDefinition Place)
  defined n = find (λ t. bytes_eq n (type_name t)) (types_in all)

  abbrev looks_of : TypeDefinition Place → TypeLooks
  looks_of t = type_looks (plain_type (folded_type (numbered first all) t))

  -- under a name is what its first definition folds to
  named : (n : List ℕ) → (judged schema).type_named n ≡ option_map looks_of (defined n)
  named n = named_type schema n
      ∙ ap (option_map (λ v. type_looks (plain_type v))) (under_made type_name (folded_type (numbered first all)) n (firsts type_name (types_in all)) ∙ ap (option_map (folded_type (numbered first all))) (find_firsts type_name n (types_in all)))
      ∙ by (defined n)
    where
      by : (o : Option (TypeDefinition Place)) → option_map (λ v. type_looks (plain_type v)) (option_map (folded_type (numbered first all)) o) ≡ option_map looks_of o
      by None = refl
      by (Some t) = refl

  -- what a type has under a name among its fields
  field_under : (t : TypeDefinition Place) (m : List ℕ) → (looks_of t).field m ≡ option_map (plain_given unplaced_field_definition) (under m (folded_type (numbered first all) t).fields)
  field_under t m = get_under (plain_given unplaced_field_definition) m (folded_type (numbered first all) t).fields

  -- ---- kinds

  by_kind : (k : TypeKind) (kept : KeptComponents) → IsOfKind k kept → (kept.fields ≡ []) ⊎ ((k ≡ kind.Object) ⊎ (k ≡ kind.Interface))
  by_kind kind.Scalar kept h = inl h.1
  by_kind kind.Object kept h = inr (inl refl)
  by_kind kind.Interface kept h = inr (inr refl)
  by_kind kind.Union kept h = inl h.1
  by_kind kind.Enum kept h = inl h.1
  by_kind kind.InputObject kept h = inl h.1

  kinds : FieldsAreOfTheirKinds (judged schema)
  kinds n m t f there has =
      let (u, (at, same)) = mapped_some looks_of (defined n) t (sym (named n) ∙ there) in
      let (d, (stands, given)) = found_in (λ d. option_to_list (type_here d)) u all (find_given (λ v. bytes_eq n (type_name v)) (types_in all) u at).0 in
      elim (by_kind u.parts.kind (kept_from (collected_from (parts_of (numbered first all) u))) (folded_of_kind (numbered first all) d u (here_is (type_here d) u given))) [
        | inl none ↦ absurd (true≢false (sym (ap is_some (sym (ap (λ (v : TypeLooks). v.field m) same ∙ field_under u m ∙ ap (λ es. option_map (plain_given unplaced_field_definition) (under m es)) none) ∙ has))))
        | inr is ↦ subst (λ (v : TypeLooks). (v.kind ≡ kind.Object) ⊎ (v.kind ≡ kind.Interface)) (sym same) is
      ]

  -- ---- what is built in

  of_kind : (n : List ℕ) (k : TypeKind) → option_map (λ (t : TypeDefinition Place). t.parts.kind) (defined n) ≡ Some k → Present ((judged schema).type_named n) (λ t. t.kind ≡ k)
  of_kind n k e =
      let (t, (at, same)) = mapped_some (λ (t : TypeDefinition Place). t.parts.kind) (defined n) k e in
      (looks_of t, (named n ∙ ap (option_map looks_of) at, sym same))

  scalars : (n : List ℕ) → Contains scalar_names n → Present ((judged schema).type_named n) (λ t. t.kind ≡ kind.Scalar)
  unfolding built_in_definitions
  scalars n c = elim (Contains-cons (codes "Int") (codes "Float" ∷ codes "String" ∷ codes "Boolean" ∷ codes "ID" ∷ []) n c) [
    | inl e ↦ subst (λ m. Present ((judged schema).type_named m) (λ t. t.kind ≡ kind.Scalar)) e (of_kind (codes "Int") kind.Scalar refl)
    | inr c ↦ elim (Contains-cons (codes "Float") (codes "String" ∷ codes "Boolean" ∷ codes "ID" ∷ []) n c) [
      | inl e ↦ subst (λ m. Present ((judged schema).type_named m) (λ t. t.kind ≡ kind.Scalar)) e (of_kind (codes "Float") kind.Scalar refl)
      | inr c ↦ elim (Contains-cons (codes "String") (codes "Boolean" ∷ codes "ID" ∷ []) n c) [
        | inl e ↦ subst (λ m. Present ((judged schema).type_named m) (λ t. t.kind ≡ kind.Scalar)) e (of_kind (codes "String") kind.Scalar refl)
        | inr c ↦ elim (Contains-cons (codes "Boolean") (codes "ID" ∷ []) n c) [
          | inl e ↦ subst (λ m. Present ((judged schema).type_named m) (λ t. t.kind ≡ kind.Scalar)) e (of_kind (codes "Boolean") kind.Scalar refl)
          | inr c ↦ subst (λ m. Present ((judged schema).type_named m) (λ t. t.kind ≡ kind.Scalar)) (sym (only (codes "ID") n c)) (of_kind (codes "ID") kind.Scalar refl)
        ]
      ]
    ]
  ]

  pub has_scalars : HasScalars (judged schema)
  has_scalars n c = ap is_some (scalars n c).1.0

  composite : (n : List ℕ) → option_map (λ (t : TypeDefinition Place). t.parts.kind) (defined n) ≡ Some kind.Object → Present ((judged schema).type_named n) IsCompositeType
  composite n e = let (t, (at, is)) = of_kind n kind.Object e in (t, (at, ap (λ k. is_output_kind k && not (is_leaf_kind k)) is))

  -- the type of a field of a type
  abbrev inner_under : List ℕ → TypeDefinition Place → Option (List ℕ)
  inner_under m t = option_map (λ (g : Given Place (Placed Place (FieldDefinitionTree Place))). named_in (plain_given unplaced_field_definition g).ty) (under m (folded_type (numbered first all) t).fields)

  string_in_schema : option_map (inner_under (codes "description")) (defined (codes "__Schema")) ≡ Some (Some (codes "String"))
  unfolding built_in_definitions
  string_in_schema = refl

  built_in : HasBuiltIn (judged schema)
  unfolding built_in_definitions
  built_in =
      let (t, (at, same)) = mapped_some (inner_under (codes "description")) (defined (codes "__Schema")) (Some (codes "String")) string_in_schema in
      let (g, (found, is)) = mapped_some (λ (g : Given Place (Placed Place (FieldDefinitionTree Place))). named_in (plain_given unplaced_field_definition g).ty) (under (codes "description") (folded_type (numbered first all) t).fields) (codes "String") (sym same) in
      record {
        scalars = scalars;
        string_used = inl (
          codes "__Schema",
          (
            looks_of t,
            (
              named (codes "__Schema") ∙ ap (option_map looks_of) at,
              (codes "description", (plain_given unplaced_field_definition g, (field_under t (codes "description") ∙ ap (option_map (plain_given unplaced_field_definition)) found, sym is))),
            ),
          ),
        );
        schema_there = composite (codes "__Schema") refl;
        type_there = composite (codes "__Type") refl;
      }

  -- ---- none is missing, so none is added at the end

  none_missing : (n : List ℕ) → Contains scalar_names n → is_missing schema n ≡ false
  none_missing n c =
      let (t, (there, is)) = scalars n c in
      let (v, (at, same)) = mapped_some (λ v. type_looks (plain_type v)) (type_at schema n) t (sym (named_type schema n) ∙ there) in
      ap (λ (o : Option (SchemaType Place)). is_none o && is_referenced n schema) at

  pub filtered : validated schema ≡ kept schema
  filtered =
      ap (λ ns. record (kept schema) { types = (kept schema).types ++ map built_in_scalar ns }) (none_pass (is_missing schema) scalar_names none_missing)
      ∙ ap (λ ts. record (kept schema) { types = ts }) (append-nil (kept schema).types)

  output : SchemaRules (judged schema) → HasOutputFields (validated schema)
  output rules = output_fields schema (folds_distinct built_in_definitions first texts) kinds built_in rules

pub accepted : AcceptedMergesAsSpecified
accepted first texts document rules =
    merging (validated (schema first texts)) (output first texts rules) _ (document-typed (meanings (plain (validated (schema first texts)))) document)
