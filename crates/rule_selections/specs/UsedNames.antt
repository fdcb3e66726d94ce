-- Private: leads to `UsesAll`. Names, extended by those of the variables in sets.
use Rattle.std.specs.Prelude.{ℕ, List, fold}
use Rattle.graphql_names.specs.Placed.{Place}
use Rattle.document_typed_selections.specs.TypedTree.{TypedSet, typed_set, TypedSelections, no_typed, typed_then}
use Rattle.spec_document.specs.MeantTree.{meant}
use Rattle.rule_reach.specs.UsedNames.{with_selection}

-- the names, then those of the variables in the selections of a set themselves, not in what these select
abbrev pub with_along : List (List ℕ) → TypedSelections Place → List (List ℕ)
with_along ns no_typed = ns
with_along ns (typed_then x xs) = with_along (with_selection ns (meant x)) xs

abbrev pub with_set : List (List ℕ) → TypedSet Place → List (List ℕ)
with_set ns (typed_set t ss) = with_along ns ss

abbrev pub with_sets : List (List ℕ) → List (TypedSet Place) → List (List ℕ)
with_sets = fold with_set
