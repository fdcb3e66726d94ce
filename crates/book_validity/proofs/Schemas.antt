-- A schema that keeps the rules, as validation leaves it: each field that can be selected is on a composite type and returns an
-- output type.
use Rattle.std.proofs.Common.{arith, ◌≡◌, ◌⊎◌, ◌∙◌, ◌&&◌, not, ℕ, Bool, true, false, cond, List, [], ◌∷◌, ◌++◌, map, filter, find, bytes_eq, Option, None, Some, option_map, Contains, codes, refl, sym, ap, subst, inl, inr, true≢false, is_some, if◌then◌else◌}
use Rattle.std.specs.FinMap as fin
use Rattle.std.specs.Option.{option_or, option_and_then}
use Rattle.std.proofs.lemmas.Option.{same_Some}
use Rattle.std.proofs.lemmas.Slice.Eq.{bytes_eq-Decides}
use Rattle.std.proofs.lemmas.List.Elements.{Contains-append_right, Contains-append_cases}
use Rattle.graphql_names.specs.Placed.{Placed, Place}
use Rattle.graphql_names.specs.Places.{is_built_in}
use Rattle.tree_type_members.specs.TypeSystemTree.{FieldDefinitionTree, unplaced_field_definition}
use Rattle.schema_components.specs.Names.{by_bytes}
use Rattle.schema_types.specs.SchemaTree.{SchemaType, SchemaTree, same_kind, is_leaf_kind, is_output_kind, kind_words}
use Rattle.schema_types.specs.Plain.{plain_type, plain}
use Rattle.schema_types.specs.Looks.{TypeLooks, type_looks, looks}
use Rattle.schema_types.specs.Addresses.{FieldAt, TypeNameAt, type_at}
use Rattle.schema_types.specs.declared.type_kind.TypeKind.{TypeKind}
use Rattle.schema_types.specs.declared.type_kind.TypeKind.TheVariants as kind
use Rattle.schema_types.proofs.UnderNames.{get_under}
use Rattle.schema_built_in.specs.MetaFields.{typename_field, schema_field, type_field, meta_fields, meta_field_of}
use Rattle.verdict_definitions.specs.in_schema.LookUps.{is_composite_kind}
use Rattle.verdict_definitions.specs.in_schema.FieldLooks.{is_query_root, field_on}
use Rattle.spec_document.specs.MeantTree.{Definition}
use Rattle.rule_definitions.specs.Diagnostics.{UndefinedDefinition, OutputType}
use Rattle.rule_definitions.specs.Faults.{told}
use Rattle.rule_definitions.specs.Judged.{Judged, judged}
use Rattle.rule_definitions.specs.Names.{named_in, scalar_names}
use Rattle.rule_definitions.specs.Kept.{AreDistinct, is_referenced, built_in_scalar, is_dropped, is_missing, kept, validated}
use Rattle.rule_definitions.specs.Rules.{SchemaRules}
use Rattle.rule_definitions.proofs.Lookups.{find_given, under_given, under_found}
use Rattle.rule_definitions.proofs.KeptFacts.{IsReferenced, referenced_decides}
use Rattle.rule_schema_laws.proofs.Validated.{was_there, still_found, comes_from, looks_of, named_type}
use Rattle.rule_cycle_search.proofs.Lists.{not_in_nil, Contains-cons, Contains-first, mapped_some}
use Rattle.rule_document_definitions.specs.PossibleTypes.{IsComposite}
use Rattle.book_validity.proofs.Granted.{IsOutputType, HasOutputFields, FieldsAreOfTheirKinds, HasBuiltIn}

-- ---- kinds

with_fields : (k : TypeKind) → (k ≡ kind.Object) ⊎ (k ≡ kind.Interface) → (is_output_kind k && not (is_leaf_kind k)) ≡ true
with_fields k (inl e) = ap (λ k. is_output_kind k && not (is_leaf_kind k)) e
with_fields k (inr e) = ap (λ k. is_output_kind k && not (is_leaf_kind k)) e

composite_here : (k : TypeKind) → is_composite_kind k ≡ true → (is_output_kind k && not (is_leaf_kind k)) ≡ true
composite_here kind.Scalar h = absurd (true≢false (sym h))
composite_here kind.Object h = refl
composite_here kind.Interface h = refl
composite_here kind.Union h = refl
composite_here kind.Enum h = absurd (true≢false (sym h))
composite_here kind.InputObject h = absurd (true≢false (sym h))

no_scalar : (k : TypeKind) → (is_output_kind k && not (is_leaf_kind k)) ≡ true → same_kind k kind.Scalar ≡ false
no_scalar kind.Scalar h = absurd (true≢false (sym h))
no_scalar kind.Object h = refl
no_scalar kind.Interface h = refl
no_scalar kind.Union h = refl
no_scalar kind.Enum h = refl
no_scalar kind.InputObject h = refl

output_kinds : (k : TypeKind) → is_output_kind k ≡ true → ((k ≡ kind.Scalar) ⊎ (k ≡ kind.Enum)) ⊎ ((is_output_kind k && not (is_leaf_kind k)) ≡ true)
output_kinds kind.Scalar h = inl (inl refl)
output_kinds kind.Object h = inr refl
output_kinds kind.Interface h = inr refl
output_kinds kind.Union h = inr refl
output_kinds kind.Enum h = inl (inr refl)
output_kinds kind.InputObject h = absurd (true≢false (sym h))

output_there : (s : Judged) (n : List ℕ) (t : TypeLooks) → s.type_named n ≡ Some t → is_output_kind t.kind ≡ true → IsOutputType s n
output_there s n t there o = elim (output_kinds t.kind o) [ inl l ↦ inl (t, (there, l)) | inr c ↦ inr (t, (there, c)) ]

-- ---- what is left

left_out : (a b : Bool) → not (a && b && not true) ≡ true
left_out true true = refl
left_out true false = refl
left_out false b = refl

module _ (s : SchemaTree Place) (distinct : AreDistinct s) where
  entry_stays : (n : List ℕ) (v : SchemaType Place) → type_at s n ≡ Some v → (same_kind v.kind kind.Scalar ≡ false) ⊎ (is_referenced n s ≡ true) → type_at (validated s) n ≡ Some v
  entry_stays n v e why =
      let (x, (found, same)) = mapped_some (λ (x : List ℕ × SchemaType Place). x.1) (find (λ (x : List ℕ × SchemaType Place). bytes_eq n x.0) s.types) v e in
      let key : n ≡ x.0 = (bytes_eq-Decides n x.0).0 (find_given (λ (x : List ℕ × SchemaType Place). bytes_eq n x.0) s.types x found).1 in
      let stays : not (is_dropped s x) ≡ true = elim why [
        | inl other ↦ ap (λ k. not (same_kind k kind.Scalar && is_built_in x.1.place && not (is_referenced x.0 s))) (ap (λ (t : SchemaType Place). t.kind) (sym same))
            ∙ ap (λ b. not (b && is_built_in x.1.place && not (is_referenced x.0 s))) other
        | inr used ↦ ap (λ b. not (same_kind x.1.kind kind.Scalar && is_built_in x.1.place && not b)) (ap (λ m. is_referenced m s) (sym key) ∙ used)
            ∙ left_out (same_kind x.1.kind kind.Scalar) (is_built_in x.1.place)
      ] in
      ap (option_map (λ (x : List ℕ × SchemaType Place). x.1)) (still_found (λ x. not (is_dropped s x)) (λ (x : List ℕ × SchemaType Place). bytes_eq n x.0) s.types (map built_in_scalar (filter (is_missing s) scalar_names)) x found stays)
      ∙ ap Some (sym same)

  -- a type stays that is no scalar, or that something refers to
  type_stays : (n : List ℕ) (t : TypeLooks) → (judged s).type_named n ≡ Some t → (same_kind t.kind kind.Scalar ≡ false) ⊎ IsReferenced (judged s) n → (judged (validated s)).type_named n ≡ Some t
  type_stays n t there why =
      let (v, (at, same)) = mapped_some looks_of (type_at s n) t (sym (named_type s n) ∙ there) in
      named_type (validated s) n ∙ ap (option_map looks_of) (entry_stays n v at (elim why [
        | inl other ↦ inl (ap (λ (u : TypeLooks). same_kind u.kind kind.Scalar) (sym same) ∙ other)
        | inr used ↦ inr ((referenced_decides s distinct n).1 used)
      ])) ∙ ap Some (sym same)

  entry_was : (n : List ℕ) (v : SchemaType Place) → type_at (validated s) n ≡ Some v → (type_at s n ≡ Some v) ⊎ (v ≡ (built_in_scalar n).1)
  entry_was n v e = elim (Contains-append_cases (kept s).types (map built_in_scalar (filter (is_missing s) scalar_names)) (n, v) (under_given n (validated s).types v e)) [
    | inl c ↦ inl (under_found s.types distinct.types (n, v) (was_there (λ x. not (is_dropped s x)) s.types (n, v) c))
    | inr c ↦
        let (k, (d, is)) = comes_from built_in_scalar (filter (is_missing s) scalar_names) (n, v) c in
        inr (sym (ap (λ (x : List ℕ × SchemaType Place). x.1) is) ∙ ap (λ m. (built_in_scalar m).1) (ap (λ (x : List ℕ × SchemaType Place). x.0) is))
  ]

  -- and was there, if it has a field
  type_was : (n m : List ℕ) (t : TypeLooks) (f : Definition) → (judged (validated s)).type_named n ≡ Some t → t.field m ≡ Some f → (judged s).type_named n ≡ Some t
  type_was n m t f there has =
      let (v, (at, same)) = mapped_some looks_of (type_at (validated s) n) t (sym (named_type (validated s) n) ∙ there) in
      elim (entry_was n v at) [
        | inl was ↦ named_type s n ∙ ap (option_map looks_of) was ∙ ap Some (sym same)
        | inr added ↦ absurd (true≢false (sym (ap is_some (sym (ap (λ (u : TypeLooks). u.field m) (same ∙ ap looks_of added) ∙ fin.get-empty by_bytes m) ∙ has))))
      ]

  module _ (kinds : FieldsAreOfTheirKinds (judged s)) (built_in : HasBuiltIn (judged s)) (rules : SchemaRules (judged s)) where
    -- the type of a field is there, and is an output type
    returns : (n m : List ℕ) (t : TypeLooks) (f : Definition) → (judged s).type_named n ≡ Some t → t.field m ≡ Some f → IsOutputType (judged (validated s)) (named_in f.ty)
    returns n m t f there has = by ((judged s).type_named (named_in f.ty)) refl
      where
        is_output : (u : TypeLooks) → (judged s).type_named (named_in f.ty) ≡ Some u → (b : Bool) → is_output_kind u.kind ≡ b → is_output_kind u.kind ≡ true
        is_output u e true o = o
        is_output u e false o = absurd (rules (told (FieldAt n m) (OutputType m (kind_words u.kind) (TypeNameAt (FieldAt n m))))
            (inl (inr (inr (inr (inr (inr (inr (inr (inr (inl (n, (t, (there, (m, (f, (has, (u, (e, (o, refl))))))))))))))))))))

        by : (o : Option TypeLooks) → (judged s).type_named (named_in f.ty) ≡ o → IsOutputType (judged (validated s)) (named_in f.ty)
        by None e = absurd (rules (told (TypeNameAt (FieldAt n m)) (UndefinedDefinition (named_in f.ty)))
            (inl (inr (inr (inr (inr (inr (inl (n, (t, (there, (m, (f, (has, (e, (λ c. true≢false (sym (ap is_some (sym e ∙ (built_in.scalars _ c).1.0))), refl))))))))))))))))
        by (Some u) e = output_there (judged (validated s)) (named_in f.ty) u (type_stays (named_in f.ty) u e (inr (inl (n, (t, (there, (m, (f, (has, refl)))))))))
            (is_output u e (is_output_kind u.kind) refl)

    composite_stays : (n : List ℕ) → IsComposite (judged s) n → IsComposite (judged (validated s)) n
    composite_stays n (t, (there, c)) = (t, (type_stays n t there (inl (no_scalar t.kind c)), c))

    -- the types of the meta-fields are there
    of_meta_fields : (g : Placed Place (FieldDefinitionTree Place)) → Contains (typename_field ∷ schema_field ∷ type_field ∷ []) g → IsOutputType (judged (validated s)) (named_in (unplaced_field_definition g.it).ty)
    of_meta_fields g c = elim (Contains-cons typename_field (schema_field ∷ type_field ∷ []) g c) [
      | inl e ↦ subst Good e string
      | inr r ↦ elim (Contains-cons schema_field (type_field ∷ []) g r) [
        | inl e ↦ subst Good e (inr (composite_stays _ built_in.schema_there))
        | inr q ↦ elim (Contains-cons type_field [] g q) [
          | inl e ↦ subst Good e (inr (composite_stays _ built_in.type_there))
          | inr z ↦ not_in_nil g z
        ]
      ]
    ]
      where
        Good : Placed Place (FieldDefinitionTree Place) → Type 0
        Good g = IsOutputType (judged (validated s)) (named_in (unplaced_field_definition g.it).ty)

        string : IsOutputType (judged (validated s)) (codes "String")
        string =
            let (t, (there, is)) = built_in.scalars (codes "String") (2, omega arith, refl) in
            inl (t, (type_stays (codes "String") t there (inr built_in.string_used), inl is))

    meta : (b q : Bool) (m : List ℕ) (f : Definition) → option_map (λ (g : Placed Place (FieldDefinitionTree Place)). unplaced_field_definition g.it) (meta_field_of b (b && q) m) ≡ Some f
        → (b ≡ true) × IsOutputType (judged (validated s)) (named_in f.ty)
    meta false q m f e = absurd (true≢false (sym (ap is_some e)))
    meta true q m f e =
        let (g, (found, same)) = mapped_some (λ (g : Placed Place (FieldDefinitionTree Place)). unplaced_field_definition g.it) (meta_field_of true q m) f e in (
          refl,
          subst (λ (h : Definition). IsOutputType (judged (validated s)) (named_in h.ty)) (sym same)
              (of_meta_fields g (among q (find_given (λ (h : Placed Place (FieldDefinitionTree Place)). bytes_eq m h.it.name.it) (meta_fields true q) g found).0)),
        )
      where
        among : (q : Bool) {g : Placed Place (FieldDefinitionTree Place)} → Contains (meta_fields true q) g → Contains (typename_field ∷ schema_field ∷ type_field ∷ []) g
        among true c = c
        among false {g} c = elim (Contains-cons typename_field [] g c) [ inl e ↦ Contains-first typename_field (schema_field ∷ type_field ∷ []) g e | inr z ↦ not_in_nil g z ]

    fields_out : HasOutputFields (validated s)
    fields_out n m f e = by ((judged (validated s)).type_named n) refl e
      where
        at : (t : TypeLooks) → (judged (validated s)).type_named n ≡ Some t → (o : Option Definition) → t.field m ≡ o
            → option_or o (option_map (λ (g : Placed Place (FieldDefinitionTree Place)). unplaced_field_definition g.it) (meta_field_of (is_composite_kind t.kind) (is_composite_kind t.kind && is_query_root (looks (plain (validated s))) n) m)) ≡ Some f
            → IsComposite (judged (validated s)) n × IsOutputType (judged (validated s)) (named_in f.ty)
        at t there (Some g) has e =
            let was = type_was n m t g there has in
            ((t, (there, with_fields t.kind (kinds n m t g was has))), subst (λ (h : Definition). IsOutputType (judged (validated s)) (named_in h.ty)) (same_Some g f e) (returns n m t g was has))
        at t there None has e =
            let h = meta (is_composite_kind t.kind) (is_query_root (looks (plain (validated s))) n) m f e in
            ((t, (there, composite_here t.kind h.0)), h.1)

        by : (o : Option TypeLooks) → (judged (validated s)).type_named n ≡ o → option_and_then (λ t. field_on (looks (plain (validated s))) n t m) o ≡ Some f
            → IsComposite (judged (validated s)) n × IsOutputType (judged (validated s)) (named_in f.ty)
        by None there e = absurd (true≢false (sym (ap is_some e)))
        by (Some t) there e = at t there (t.field m) refl e

pub output_fields : (s : SchemaTree Place) → AreDistinct s → FieldsAreOfTheirKinds (judged s) → HasBuiltIn (judged s) → SchemaRules (judged s) → HasOutputFields (validated s)
output_fields s distinct kinds built_in rules = fields_out s distinct kinds built_in rules
