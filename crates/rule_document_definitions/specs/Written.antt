-- What is written in a selection set: its selections and those of its inline fragments, at any depth, in the order of the text (GraphQL,
-- October 2021, sections 2.4 and 2.8). The selections of a fragment that is spread are not among them.
use Rattle.std.specs.Prelude.{ℕ, List, [], ◌∷◌, ◌++◌, flat_map, option_to_list}
use Rattle.spec_document.specs.MeantTree.{MeantSelection, MeantField, MeantSpread, MeantInline, MeantSet, meant_set, MeantSelections, no_meant, meant_then}
use Rattle.rule_document_definitions.specs.Selected.{spread_name}

-- a selection, and the name of the type of the set in which it is
abbrev pub Written : Type 0 → Type 0
Written P = List ℕ × MeantSelection P

abbrev mutual
  pub written_at : {P : Type 0} → List ℕ → MeantSelection P → List (Written P)
  written_at t (MeantField p d h s) = (t, MeantField p d h s) ∷ []
  written_at t (MeantSpread p n ds) = (t, MeantSpread p n ds) ∷ []
  written_at t (MeantInline p c ds s) = (t, MeantInline p c ds s) ∷ written_in s

  pub written_in : {P : Type 0} → MeantSet P → List (Written P)
  written_in (meant_set t ss) = written_along t ss

  pub written_along : {P : Type 0} → List ℕ → MeantSelections P → List (Written P)
  written_along t no_meant = []
  written_along t (meant_then s ss) = written_at t s ++ written_along t ss

module _ {P : Type 0} where
  -- the name of the fragment, if the selection is a spread
  abbrev pub spread_written : Written P → List (List ℕ)
  spread_written e = option_to_list (spread_name e.1)

  -- the names of the fragments that a set spreads
  abbrev pub spreads_written : MeantSet P → List (List ℕ)
  spreads_written s = flat_map spread_written (written_in s)
