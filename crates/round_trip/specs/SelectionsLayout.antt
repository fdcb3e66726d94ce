-- Selections (GraphQL, October 2021, section 2.4) by themselves: as in a selection set, without its braces.
use Rattle.std.specs.Prelude.{ℕ, List, [], ◌∷◌}
use Rattle.round_trip.specs.in_literals.Joined.{joined}
use Rattle.round_trip.specs.in_literals.LineLayout.{Prefix, start_text, members_text}
use Rattle.read_operations.specs.in_operations.OperationLayout.{selection_text, selection_texts}
use Rattle.read_operations.specs.in_operations.SelectionTree.{SelectionTrees, no_selections, selection_then}

-- each on a line of its own at the level, or, in a layout of one line, with a space between each two
abbrev pub selections_text : {P : Type 0} → Prefix → SelectionTrees P → ℕ → List ℕ
selections_text prefix no_selections level = joined []
selections_text prefix (selection_then t ts) level =
    joined (start_text prefix level ∷ selection_text prefix t level ∷ members_text prefix level (selection_texts prefix ts) ∷ [])
