-- What a set selects, its selections select.
use Rattle.std.proofs.Common.{◌≡◌, ◌⊎◌, ℕ, List, [], ◌∷◌, map, Contains, refl, sym, subst, inl, inr}
use Rattle.graphql_names.specs.Placed.{Text}
use Rattle.document_typed_selections.specs.TypedTree.{TypedSelection, TypedField, TypedSpread, TypedInline, TypedSet, typed_set, TypedSelections, no_typed, typed_then, typed_selections_list}
use Rattle.spec_document.specs.MeantTree.{MeantSet, meant, meant_of_set, meant_of_all}
use Rattle.document_typed_operations.specs.Left.{own_members}
use Rattle.rule_definitions.specs.Words.{Present}
use Rattle.rule_definitions.specs.in_schema_types.Addresses.{under}
use Rattle.rule_definitions.proofs.Lists.{not_in_nil, Contains-cons, Contains-first, only, found_in, given_in}
use Rattle.rule_document_definitions.specs.in_spec_document.in_components.Names.{Entries}
use Rattle.rule_document_definitions.specs.Reached.{first, next}
use Rattle.rule_document_definitions.specs.Written.{Written, written_at, written_in, written_along, spread_written}
use Rattle.rule_document_definitions.proofs.FieldsWritten.{field_written, fields_written}
use Rattle.rule_document_definitions.specs.ReadFields.{ReadField, ReadSet, nothing_read, fields_in, set_read, field_read, SpreadsRead, IsReadFrom, SelectsRead}
use Rattle.rule_document_definitions.proofs.Unplaced.{contains_map, contains_unmap}
use Rattle.rule_document_definitions.proofs.ReadFacts.{fields_of_read, spreads_of_read}
use Rattle.rule_reach.specs.Passed.{Selects, OneSelects}
use Rattle.std.proofs.lemmas.List.Elements.{Contains-append_cases, Contains-append_right}

module _ (fragments : Entries ReadSet) where
  -- ---- the set itself, and those that it spreads

  abbrev SpreadSelects : ReadSet → ReadField → Type 0
  SpreadSelects s x = (t : ReadSet) × (SpreadsRead fragments s t × SelectsRead fragments t x)

  from_front : (s t : ReadSet) → IsReadFrom fragments s t → (t ≡ s) ⊎ ((u : ReadSet) × (SpreadsRead fragments s u × IsReadFrom fragments u t))
  from_front s t (first e) = inl e
  from_front s v (next {x = t} r l) = elim (from_front s t r) [
    | inl e ↦ inr (v, (subst (λ u. SpreadsRead fragments u v) e l, first refl))
    | inr u ↦ inr (u.0, (u.1.0, next u.1.1 l))
  ]

  to_front : (s u t : ReadSet) → SpreadsRead fragments s u → IsReadFrom fragments u t → IsReadFrom fragments s t
  to_front s u t k (first e) = next (first refl) (subst (SpreadsRead fragments s) (sym e) k)
  to_front s u v k (next {x = t} r l) = next (to_front s u t k r) l

  selected_by : (s : ReadSet) (x : ReadField) → SelectsRead fragments s x → Contains (fields_in s) x ⊎ SpreadSelects s x
  selected_by s x (t, (r, c)) = elim (from_front s t r) [
    | inl e ↦ inl (subst (λ u. Contains (fields_in u) x) e c)
    | inr u ↦ inr (u.0, (u.1.0, (t, (u.1.1, c))))
  ]

  -- a set that is read as nothing selects nothing
  pub nothing_selected : {R : Type 0} (x : ReadField) → SelectsRead fragments nothing_read x → R
  nothing_selected x h = elim (selected_by nothing_read x h) [
    | inl c ↦ not_in_nil x c
    | inr t ↦ not_in_nil t.1.0.0 t.1.0.1.0
  ]

  module _ {P : Type 0} where
    -- ---- what is written in a set

    -- it is the field, or spreads what selects it
    abbrev WrittenSelects : Written P → ReadField → Type 0
    WrittenSelects w x = Contains (map field_read (field_written w)) x ⊎ ((n : List ℕ) × (Contains (spread_written w) n × Present (under n fragments) (λ t. SelectsRead fragments t x)))

    written_selects : (s : MeantSet P) (x : ReadField) → SelectsRead fragments (set_read s) x → (w : Written P) × (Contains (written_in s) w × WrittenSelects w x)
    written_selects s x h = elim (selected_by (set_read s) x h) [
      | inl c ↦
          let f = contains_unmap field_read (fields_written s) x (subst (λ l. Contains l x) (fields_of_read s) c) in
          let w = found_in field_written f.0 (written_in s) f.1.0 in
          (w.0, (w.1.0, inl (subst (Contains (map field_read (field_written w.0))) f.1.1 (contains_map field_read (field_written w.0) f.0 w.1.1))))
      | inr t ↦
          let n = t.1.0.0 in
          let w = found_in spread_written n (written_in s) (subst (λ l. Contains l n) (spreads_of_read s) t.1.0.1.0) in
          (w.0, (w.1.0, inr (n, (w.1.1, (t.0, (t.1.0.1.1, t.1.1))))))
    ]

    set_selects : (s : MeantSet P) (w : Written P) (x : ReadField) → Contains (written_in s) w → WrittenSelects w x → SelectsRead fragments (set_read s) x
    set_selects s w x c (inl h) =
        let f = contains_unmap field_read (field_written w) x h in
        let here : Contains (map field_read (fields_written s)) x = subst (Contains (map field_read (fields_written s))) f.1.1 (contains_map field_read (fields_written s) f.0 (given_in field_written f.0 (written_in s) w c f.1.0)) in
        (set_read s, (first refl, subst (λ l. Contains l x) (sym (fields_of_read s)) here))
    set_selects s w x c (inr (n, (k, (t, (e, (v, (r, d))))))) =
        (v, (to_front (set_read s) t v (n, (subst (λ l. Contains l n) (sym (spreads_of_read s)) (given_in spread_written n (written_in s) w c k), e)) r, d))

    -- ---- the selections of the set itself

    selected_at : (ty : Text P) (s : TypedSelection P) (w : Written P) (x : ReadField) → Contains (written_at ty.it (meant s)) w → WrittenSelects w x → Selects fragments (ty, s) x
    selected_at ty (TypedField p d h s) w x c k =
        elim (subst (λ v. WrittenSelects v x) (only (ty.it, meant (TypedField p d h s)) w c) k) [
          | inl f ↦ sym (only _ x f)
          | inr n ↦ not_in_nil n.0 n.1.0
        ]
    selected_at ty (TypedSpread p m ds) w x c k =
        elim (subst (λ v. WrittenSelects v x) (only (ty.it, meant (TypedSpread p m ds)) w c) k) [
          | inl f ↦ not_in_nil x f
          | inr n ↦ subst (λ l. Present (under l fragments) (λ t. SelectsRead fragments t x)) (only m.it n.0 n.1.0) n.1.1
        ]
    selected_at ty (TypedInline p m ds s) w x c k = elim (Contains-cons (ty.it, meant (TypedInline p m ds s)) (written_in (meant_of_set s)) w c) [
      | inl e ↦ elim (subst (λ v. WrittenSelects v x) (sym e) k) [
        | inl f ↦ not_in_nil x f
        | inr n ↦ not_in_nil n.0 n.1.0
      ]
      | inr r ↦ set_selects (meant_of_set s) w x r k
    ]

    written_of_one : (ty : Text P) (ss : TypedSelections P) (w : Written P) → Contains (written_along ty.it (meant_of_all ss)) w → (s : TypedSelection P) × (Contains (typed_selections_list ss) s × Contains (written_at ty.it (meant s)) w)
    written_of_one ty no_typed w c = not_in_nil w c
    written_of_one ty (typed_then s ss) w c = elim (Contains-append_cases (written_at ty.it (meant s)) (written_along ty.it (meant_of_all ss)) w c) [
      | inl a ↦ (s, (Contains-first s (typed_selections_list ss) s refl, a))
      | inr b ↦ let r = written_of_one ty ss w b in (r.0, (Contains-append_right (s ∷ []) (typed_selections_list ss) r.0 r.1.0, r.1.1))
    ]

    pub one_selects : (s : TypedSet P) (x : ReadField) → SelectsRead fragments (set_read (meant_of_set s)) x → OneSelects fragments (own_members s) x
    one_selects (typed_set ty ss) x h =
        let w = written_selects (meant_of_set (typed_set ty ss)) x h in
        let s = written_of_one ty ss w.0 w.1.0 in
        ((ty, s.0), (contains_map (λ (t : TypedSelection P). (ty, t)) (typed_selections_list ss) s.0 s.1.0, selected_at ty s.0 w.0 x s.1.1 w.1.1))
