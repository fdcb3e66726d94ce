-- Selections of a typed set, and where they are in the set that it means.
use Rattle.std.proofs.Common.{◌≡◌, ℕ, suc, List, refl, ap, sym, inl, inr, Contains}
use Rattle.schema_components.proofs.Places.{not_in_nil, Contains-cons, Contains-first, Contains-rest}
use Rattle.document_typed_selections.specs.TypedTree.{TypedSelection, TypedSet, typed_set, TypedSelections, no_typed, typed_then, set_type, typed_selections_list}
use Rattle.document_typed_operations.specs.Reached.{own_selections}
use Rattle.rule_document_definitions.specs.in_spec_document.MeantTree.{meant, meant_of_set, meant_of_all}
use Rattle.rule_document_definitions.specs.Selected.{Position, SelectionAt, Standing, stand, standing_in}

module _ {P : Type 0} where
  -- what the selection means, at that index of a set on that type
  abbrev pub standing_at : Position → List ℕ → ℕ → TypedSelection P → Standing P
  standing_at q n i s = record { position = SelectionAt q i; parent = n; it = meant s }

  -- it is what a selection of the typed set means
  abbrev pub StandsFor : TypedSet P → Standing P → Type 0
  StandsFor t x = (s : TypedSelection P) × (Contains (own_selections t) s × ((x.it ≡ meant s) × (x.parent ≡ (set_type t).it)))

  from_stand : (q : Position) (n : List ℕ) (i : ℕ) (ss : TypedSelections P) (x : Standing P) → Contains (stand q n i (meant_of_all ss)) x
      → (s : TypedSelection P) × (Contains (typed_selections_list ss) s × ((x.it ≡ meant s) × (x.parent ≡ n)))
  from_stand q n i no_typed x c = absurd (not_in_nil x c)
  from_stand q n i (typed_then s ss) x c = elim (Contains-cons (standing_at q n i s) (stand q n (suc i) (meant_of_all ss)) x c) [
    | inl e ↦ (s, (Contains-first s (typed_selections_list ss) s refl, (sym (ap (λ y. y.it) e), sym (ap (λ y. y.parent) e))))
    | inr r ↦ let p = from_stand q n (suc i) ss x r in (p.0, (Contains-rest s (typed_selections_list ss) p.0 p.1.0, p.1.1))
  ]

  to_stand : (q : Position) (n : List ℕ) (i : ℕ) (ss : TypedSelections P) (s : TypedSelection P) → Contains (typed_selections_list ss) s
      → (j : ℕ) × Contains (stand q n i (meant_of_all ss)) (standing_at q n j s)
  to_stand q n i no_typed s c = absurd (not_in_nil s c)
  to_stand q n i (typed_then z ss) s c = elim (Contains-cons z (typed_selections_list ss) s c) [
    | inl e ↦ (i, Contains-first (standing_at q n i z) (stand q n (suc i) (meant_of_all ss)) (standing_at q n i s) (ap (standing_at q n i) e))
    | inr r ↦ let p = to_stand q n (suc i) ss s r in (p.0, Contains-rest (standing_at q n i z) (stand q n (suc i) (meant_of_all ss)) (standing_at q n p.0 s) p.1)
  ]

  pub from_standing : (q : Position) (t : TypedSet P) (x : Standing P) → Contains (standing_in q (meant_of_set t)) x → StandsFor t x
  from_standing q (typed_set ty ss) x c = from_stand q ty.it 0 ss x c

  pub to_standing : (q : Position) (t : TypedSet P) (s : TypedSelection P) → Contains (own_selections t) s → (i : ℕ) × Contains (standing_in q (meant_of_set t)) (standing_at q (set_type t).it i s)
  to_standing q (typed_set ty ss) s c = to_stand q ty.it 0 ss s c
