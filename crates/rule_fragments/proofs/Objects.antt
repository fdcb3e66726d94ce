-- What is noted of the types of a schema is which objects their values can be.
use Rattle.std.proofs.Common.{◌≡◌, ◌↔◌, inl, inr, ◌++◌, ◌∙◌, ℕ, Bool, true, false, List, [], ◌∷◌, map, Option, None, Some, refl, ap, sym, subst, true≢false, Contains, bytes_eq, if◌then◌else◌}
use Rattle.std.specs.List.{flat_map, IsDistinct}
use Rattle.std.specs.Map.{keys_of}
use Rattle.std.specs.Option.{option_map, option_map_or}
use Rattle.std.proofs.lemmas.List.Elements.{Contains-append_left, Contains-append_right, Contains-append_cases}
use Rattle.indexmap.specs.IndexSet.{IndexSet}
use Rattle.graphql_names.specs.NameValue.{NameValue}
use Rattle.graphql_names.specs.Placed.{Place}
use Rattle.schema_components.specs.Given.{given_name}
use Rattle.schema_components.specs.Lists.{is_among}
use Rattle.schema_types.specs.SchemaTree.{SchemaType, SchemaTree, same_kind}
use Rattle.schema_types.specs.Addresses.{under}
use Rattle.schema_types.specs.Looks.{TypeLooks}
use Rattle.schema_types.specs.declared.type_kind.TypeKind.{TypeKind}
use Rattle.schema_types.specs.declared.type_kind.TypeKind.TheVariants as kind
use Rattle.fault_data.proofs.Judgings.{type_seen, type_look, member_look, interface_look}
use Rattle.rule_definitions.specs.Judged.{judged}
use Rattle.rule_definitions.proofs.Lists.{not_in_nil, Contains-cons, Contains-first, only, found_in, given_in, mapped_some}
use Rattle.rule_definitions.proofs.Lookups.{text_found, text_given, under_found, under_given}
use Rattle.rule_document_definitions.specs.PossibleTypes.{CanBe}
use Rattle.rule_fragments.specs.Held.{noted_in, AddsEntries}
use Rattle.rule_fragments.proofs.Noted.{all_noted}
use Rattle.rule_fragments.specs.Noting.{interface_notes, object_notes, is_object, member_note, member_notes, type_notes}

object_kind : (k : TypeKind) → same_kind k kind.Object ≡ true → k ≡ kind.Object
object_kind kind.Scalar e = absurd (true≢false (sym e))
object_kind kind.Object e = refl
object_kind kind.Interface e = absurd (true≢false (sym e))
object_kind kind.Union e = absurd (true≢false (sym e))
object_kind kind.Enum e = absurd (true≢false (sym e))
object_kind kind.InputObject e = absurd (true≢false (sym e))

-- an element after the first
following : {X : Type 0} (x : X) (xs : List X) (y : X) → Contains xs y → Contains (x ∷ xs) y
following x xs y c = Contains-append_right (x ∷ []) xs y c

module _ (s : SchemaTree Place) (differ : IsDistinct bytes_eq (keys_of s.types)) where
  abbrev Entry : Type 0
  Entry = List ℕ × SchemaType Place

  -- ---- types by name

  seen : (e : Entry) → Contains s.types e → (judged s).type_named e.0 ≡ Some (type_seen e.1)
  seen e c = type_look s e.0 ∙ ap (option_map type_seen) (under_found s.types differ e c)

  stands : (n : List ℕ) (u : TypeLooks) → (judged s).type_named n ≡ Some u → (t : SchemaType Place) × ((under n s.types ≡ Some t) × (u ≡ type_seen t))
  stands n u is = mapped_some type_seen (under n s.types) u (sym (type_look s n) ∙ is)

  object_there : (n : List ℕ) → is_object s n ≡ true → (u : TypeLooks) × (((judged s).type_named n ≡ Some u) × (u.kind ≡ kind.Object))
  object_there n h = by (under n s.types) refl h
    where
      by : (o : Option (SchemaType Place)) → under n s.types ≡ o → option_map_or (λ (t : SchemaType Place). same_kind t.kind kind.Object) o false ≡ true → (u : TypeLooks) × (((judged s).type_named n ≡ Some u) × (u.kind ≡ kind.Object))
      by None is h = absurd (true≢false (sym h))
      by (Some t) is h = (type_seen t, (type_look s n ∙ ap (option_map type_seen) is, object_kind t.kind h))

  is_there : (n : List ℕ) (t : SchemaType Place) → under n s.types ≡ Some t → t.kind ≡ kind.Object → is_object s n ≡ true
  is_there n t is k = ap (λ (o : Option (SchemaType Place)). option_map_or (λ (t : SchemaType Place). same_kind t.kind kind.Object) o false) is ∙ ap (λ (k : TypeKind). same_kind k kind.Object) k

  -- ---- from notes

  module _ (n x : List ℕ) where
    from_object : (e : Entry) → Contains s.types e → e.1.kind ≡ kind.Object → Contains (object_notes e.0 (map given_name e.1.interfaces)) (n, x) → CanBe (judged s) n x
    from_object e c k h = elim (Contains-cons (e.0, e.0) (interface_notes e.0 (map given_name e.1.interfaces)) (n, x) h) [
      | inl same ↦
          let first : e.0 ≡ n = ap (λ (p : List ℕ × List ℕ). p.0) same in
          let second : e.0 ≡ x = ap (λ (p : List ℕ × List ℕ). p.1) same in
          (type_seen e.1, (ap (judged s).type_named (sym second) ∙ seen e c, (k, inl (sym second ∙ first))))
      | inr r ↦
          let i = found_in (λ i. (i, e.0) ∷ []) (n, x) (map given_name e.1.interfaces) r in
          let same = only (i.0, e.0) (n, x) i.1.1 in
          let first : n ≡ i.0 = ap (λ (p : List ℕ × List ℕ). p.0) same in
          let second : x ≡ e.0 = ap (λ (p : List ℕ × List ℕ). p.1) same in
          (type_seen e.1, (ap (judged s).type_named second ∙ seen e c, (k, inr (inl (interface_look e.1 n ∙ ap (λ m. is_among m (map given_name e.1.interfaces)) first ∙ text_found (map given_name e.1.interfaces) i.0 i.1.0)))))
    ]

    from_member : (e : Entry) → Contains s.types e → (m : List ℕ) → Contains (map given_name e.1.members) m → (b : Bool) → is_object s m ≡ b → Contains {X = List ℕ × List ℕ} (if b then (e.0, m) ∷ [] else []) (n, x) → CanBe (judged s) n x
    from_member e c m among true is h =
        let same = only (e.0, m) (n, x) h in
        let first : n ≡ e.0 = ap (λ (p : List ℕ × List ℕ). p.0) same in
        let second : x ≡ m = ap (λ (p : List ℕ × List ℕ). p.1) same in
        let u = object_there x (ap (is_object s) second ∙ is) in
        (u.0, (u.1.0, (u.1.1, inr (inr (type_seen e.1, (ap (judged s).type_named first ∙ seen e c, member_look e.1 x ∙ ap (λ k. is_among k (map given_name e.1.members)) second ∙ text_found (map given_name e.1.members) m among))))))
    from_member e c m among false is h = not_in_nil (n, x) h

    from_type : (e : Entry) → Contains s.types e → (b : Bool) → same_kind e.1.kind kind.Object ≡ b
        → Contains ((if b then object_notes e.0 (map given_name e.1.interfaces) else []) ++ member_notes s e.0 (map given_name e.1.members)) (n, x) → CanBe (judged s) n x
    from_type e c b is h = elim (Contains-append_cases (if b then object_notes e.0 (map given_name e.1.interfaces) else []) (member_notes s e.0 (map given_name e.1.members)) (n, x) h) [
      | inl l ↦ by b is l
      | inr r ↦ let m = found_in (member_note s e.0) (n, x) (map given_name e.1.members) r in from_member e c m.0 m.1.0 (is_object s m.0) refl m.1.1
    ]
      where
        by : (b : Bool) → same_kind e.1.kind kind.Object ≡ b → Contains (if b then object_notes e.0 (map given_name e.1.interfaces) else []) (n, x) → CanBe (judged s) n x
        by true is l = from_object e c (object_kind e.1.kind is) l
        by false is l = not_in_nil (n, x) l

    -- ---- to notes

    own_notes : (e : Entry) → e.1.kind ≡ kind.Object → Contains (object_notes e.0 (map given_name e.1.interfaces)) (n, x) → Contains (type_notes s e) (n, x)
    own_notes e k h =
        let object : same_kind e.1.kind kind.Object ≡ true = ap (λ (k : TypeKind). same_kind k kind.Object) k in
        Contains-append_left (if same_kind e.1.kind kind.Object then object_notes e.0 (map given_name e.1.interfaces) else []) (member_notes s e.0 (map given_name e.1.members)) (n, x)
        (subst (λ (b : Bool). Contains (if b then object_notes e.0 (map given_name e.1.interfaces) else []) (n, x)) (sym object) h)

    to_notes : CanBe (judged s) n x → Contains (flat_map (type_notes s) s.types) (n, x)
    to_notes (u, (is, (k, q))) =
        let t = stands x u is in
        let object : t.0.kind ≡ kind.Object = sym (ap (λ (v : TypeLooks). v.kind) t.1.1) ∙ k in
        let there = under_given x s.types t.0 t.1.0 in
        elim q [
          | inl same ↦ given_in (type_notes s) (n, x) s.types (x, t.0) there (own_notes (x, t.0) object (Contains-first (x, x) (interface_notes x (map given_name t.0.interfaces)) (n, x) (λ i. (same i, x))))
          | inr r ↦ elim r [
            | inl listed ↦
                let among : is_among n (map given_name t.0.interfaces) ≡ true = sym (interface_look t.0 n) ∙ sym (ap (λ (v : TypeLooks). v.implements n) t.1.1) ∙ listed in
                given_in (type_notes s) (n, x) s.types (x, t.0) there (own_notes (x, t.0) object (following (x, x) (interface_notes x (map given_name t.0.interfaces)) (n, x)
                (given_in (λ i. (i, x) ∷ []) (n, x) (map given_name t.0.interfaces) n (text_given (map given_name t.0.interfaces) n among) (Contains-first (n, x) [] (n, x) refl))))
            | inr (v, (is', member)) ↦
                let w = stands n v is' in
                let among : is_among x (map given_name w.0.members) ≡ true = sym (member_look w.0 x) ∙ sym (ap (λ (v : TypeLooks). v.has_member x) w.1.1) ∙ member in
                given_in (type_notes s) (n, x) s.types (n, w.0) (under_given n s.types w.0 w.1.0)
                (Contains-append_right (if same_kind w.0.kind kind.Object then object_notes n (map given_name w.0.interfaces) else []) (member_notes s n (map given_name w.0.members)) (n, x)
                (given_in (member_note s n) (n, x) (map given_name w.0.members) x (text_given (map given_name w.0.members) x among)
                (subst (λ (b : Bool). Contains {X = List ℕ × List ℕ} (if b then (n, x) ∷ [] else []) (n, x)) (sym (is_there x t.0 t.1.0 object)) (Contains-first (n, x) [] (n, x) refl))))
          ]
        ]

    pub noted_can_be : Contains (flat_map (type_notes s) s.types) (n, x) ↔ CanBe (judged s) n x
    noted_can_be = (
      λ h. let e = found_in (type_notes s) (n, x) s.types h in from_type e.0 e.1.0 (same_kind e.0.1.kind kind.Object) refl e.1.1,
      to_notes,
    )

  -- what is noted of all types
  pub are_possible : {S : Type 0} (es : List (NameValue × IndexSet NameValue S)) → AddsEntries [] es (flat_map (type_notes s) s.types) → (n x : List ℕ) → Contains (noted_in es n) x ↔ CanBe (judged s) n x
  are_possible es added n x =
      let all = all_noted es (flat_map (type_notes s) s.types) added n x in
      let is = noted_can_be n x in
      (λ c. is.0 (all.0 c), λ h. all.1 (is.1 h))
