-- The faults with data of a document: those of each operation, then those of all fragments.
use Rattle.std.proofs.Common.{◌≡◌, ◌≤◌, ◌<◌, ◌⊎◌, inl, inr, ◌++◌, ℕ, List, [], take, length, refl, sym, ap, subst, ◌∙◌, Contains, arith}
use Rattle.std.proofs.lemmas.Bool.{cases_lt}
use Rattle.std.proofs.lemmas.List.Elements.{Contains-append_left, Contains-append_right, Contains-append_cases}
use Rattle.graphql_names.specs.Placed.{Place}
use Rattle.rule_definitions.proofs.Lists.{not_in_nil}
use Rattle.spec_document.specs.MeantTree.{MeantOperation, MeantFragment, MeantDocument}
use Rattle.rule_definitions.specs.Room.{most_told, ◌⊕◌}
use Rattle.rule_definitions.proofs.Room.{room_both, room_first}
use Rattle.rule_definitions.specs.PlacedFaults.{PlacedFault}
use Rattle.rule_document_definitions.specs.Fragments.{ReachesItself, UnusedFragmentAt, RecursiveFragmentDefinitionAt}
use Rattle.rule_document_definitions.specs.Reached.{AtOperation}
use Rattle.rule_document_definitions.specs.PlacedDocumentFaults.{places_alone}
use Rattle.rule_fragments.specs.Used.{IsUsed, AreUsed}
use Rattle.rule_fragments.specs.FragmentCycles.{Answers}
use Rattle.rule_fragments.specs.UnlessFull.{IsFull, HasAll, AddsUnlessFull}
use Rattle.rule_fragments.proofs.UnlessFull.{first_tells, adds_first, adds_by}
use Rattle.graphql_validation.specs.Operations.{ReachesNamed, NotesNames, FragmentsTold, DataFails, DataTold}

module _ (d : MeantDocument Place) where
  -- the names that were noted are those of the fragments that some operation reaches
  are_used : (names : List (List ℕ)) → NotesNames [] names (λ n. AtOperation d (λ o. ReachesNamed d o n)) → AreUsed d names
  are_used names noted n = (
    λ c. elim ((noted n).0 c) [
      | inl none ↦ absurd (not_in_nil n none)
      | inr h ↦ (h.1.1.0, ((h.0, (h.1.0, h.1.1.1.0)), h.1.1.1.1))
    ],
    λ f. (noted n).1 (inr (f.1.0.0, (f.1.0.1.0, (f.0, (f.1.0.1.1, f.1.1))))),
  )

  -- unless the list is full
  pub used_unless_full : (faults : List PlacedFault) (old names : List (List ℕ)) → old ≡ [] → IsFull faults ⊎ NotesNames old names (λ n. AtOperation d (λ o. ReachesNamed d o n)) → (IsFull faults → ⊥) → AreUsed d names
  used_unless_full faults old names none (inl full) some = absurd (some full)
  used_unless_full faults old names none (inr noted) some = are_used names (subst (λ l. NotesNames l names (λ n. AtOperation d (λ o. ReachesNamed d o n))) none noted)

  module _ (All Beside : MeantOperation Place → PlacedFault → Type 0) (beside : (o : MeantOperation Place) (f : PlacedFault) → Beside o f → All o f)
      (recursive : (o : MeantOperation Place) (f : PlacedFault) → RecursiveFragmentDefinitionAt d f places_alone o → All o f) where
    -- those of the operations, then those of the fragments
    both : (old new ops : List PlacedFault) → old ≡ [] ⊕ ops → ((f : PlacedFault) → Contains ops f → AtOperation d (λ o. Beside o f)) → HasAll (λ f. AtOperation d (λ o. Beside o f)) ops
        → FragmentsTold d old new → DataTold d All Beside new
    both old new ops first right has (unused, (lists, cycles)) =
        first_tells new ((ops ++ unused) ++ cycles.added) is fails (inr (record { full = full; cycles = itself }))
      where
        is : new ≡ take most_told ((ops ++ unused) ++ cycles.added)
        is =
            cycles.is ∙ ap (λ l. (l ⊕ unused) ⊕ cycles.added) first ∙ ap (λ l. l ⊕ cycles.added) (room_both [] ops unused)
            ∙ room_both [] (ops ++ unused) cycles.added ∙ room_first ((ops ++ unused) ++ cycles.added)

        fails : (f : PlacedFault) → Contains ((ops ++ unused) ++ cycles.added) f → DataFails d All f
        fails f c = elim (Contains-append_cases (ops ++ unused) cycles.added f c) [
          | inl h ↦ elim (Contains-append_cases ops unused f h) [
            | inl k ↦ let o = right f k in inl (inl (o.0, (o.1.0, beside o.0 f o.1.1)))
            | inr k ↦ inl (inr ((lists f).0 k))
          ]
          | inr h ↦ elim (cycles.right f h) [
            | inl o ↦ inl (inl (o.0, (o.1.0, recursive o.0 f o.1.1)))
            | inr k ↦ inr k
          ]
        ]

        full : (f : PlacedFault) → AtOperation d (λ o. Beside o f) ⊎ UnusedFragmentAt d f → Contains ((ops ++ unused) ++ cycles.added) f
        full f (inl h) = Contains-append_left (ops ++ unused) cycles.added f (Contains-append_left ops unused f (has f h))
        full f (inr h) = Contains-append_left (ops ++ unused) cycles.added f (Contains-append_right ops unused f ((lists f).1 h))

        itself : (g : MeantFragment Place) → IsUsed d g → ReachesItself d g → (f : PlacedFault) × (Contains ((ops ++ unused) ++ cycles.added) f × Answers g f)
        itself g used reaches =
            let f = cycles.full g used reaches in
            (f.0, (Contains-append_right (ops ++ unused) cycles.added f.0 f.1.0, f.1.1))

    -- those of the operations alone, where these are as many as may be
    alone : (old : List PlacedFault) → AddsUnlessFull [] old (λ f. AtOperation d (λ o. Beside o f)) (HasAll (λ f. AtOperation d (λ o. Beside o f))) → IsFull old → DataTold d All Beside old
    alone old (ops, (first, (right, has))) full =
        let t = adds_first {Right = DataFails d All} {T = HasAll (λ f. AtOperation d (λ o. Beside o f))} [] old refl
        (adds_by {Right = λ f. AtOperation d (λ o. Beside o f)} {U = HasAll (λ f. AtOperation d (λ o. Beside o f))} [] old (λ f o. inl (inl (o.0, (o.1.0, beside o.0 f o.1.1)))) (λ l h. h) (ops, (first, (right, has)))) in
        record { right = t.right; most = t.most; full = inl full }

    pub tells_data : (old new : List PlacedFault) → AddsUnlessFull [] old (λ f. AtOperation d (λ o. Beside o f)) (HasAll (λ f. AtOperation d (λ o. Beside o f)))
        → (IsFull old → new ≡ old) → ((IsFull old → ⊥) → FragmentsTold d old new) → DataTold d All Beside new
    tells_data old new told same following = by (cases_lt (length old) most_told)
      where
        by : (length old < most_told) ⊎ (most_told ≤ length old) → DataTold d All Beside new
        by (inl room) =
            let not_full : IsFull old → ⊥ = λ full. omega (arith, room, full) in
            elim told.1.1.1 [
              | inl full ↦ absurd (not_full full)
              | inr has ↦ both old new told.0 told.1.0 told.1.1.0 has (following not_full)
            ]
        by (inr full) = subst (DataTold d All Beside) (sym (same full)) (alone old told full)
