use Rattle.std.proofs.Common.{◌≡◌, ◌+◌, ◌*◌, length}
use Rattle.std.specs.Prelude.{map}
use Rattle.tree_operations.specs.SelectionTree.{selection_tree}
use Rattle.read_grammar.specs.Begins as begins
use Rattle.read_grammar.specs.Reading as read
use Rattle.read_grammar.specs.OperationReading as reading
use Rattle.read_grammar.proofs.Steps.{with_front}
use Rattle.read_operations.specs.Meanings.{in_file}
use Rattle.read_operations.proofs.selection_list.+selection.Given as goal

abbrev pub decreases-selection_set : goal.decreases-selection_set
decreases-selection_set l = 5 * l.depth

abbrev pub decreases-optional_selection_set : goal.decreases-optional_selection_set
decreases-optional_selection_set l = 5 * l.depth + 1

abbrev pub decreases-placed_inline : goal.decreases-placed_inline
decreases-placed_inline l = 5 * l.depth + 1

abbrev pub decreases-placed_field : goal.decreases-placed_field
decreases-placed_field l = 5 * l.depth + 2

abbrev pub decreases-spread_or_inline : goal.decreases-spread_or_inline
decreases-spread_or_inline l = 5 * l.depth + 2

abbrev pub decreases-selection : goal.decreases-selection
decreases-selection l = 5 * l.depth + 3

abbrev pub decreases-some_selections : goal.decreases-some_selections
decreases-some_selections l = 5 * l.depth + 4

abbrev pub invariant-some_selections-turns : goal.invariant-some_selections-turns
invariant-some_selections-turns l =
    with_front (map selection_tree l.found.items) (read.many begins.begins_selection (reading.selection (in_file l.file) l.depth (reading.selection_set (in_file l.file) l.depth)) l.tokens)
    ≡ read.some begins.begins_selection (reading.selection (in_file l.file) l.depth (reading.selection_set (in_file l.file) l.depth)) l.initial.tokens

abbrev pub decreases-some_selections-turns : goal.decreases-some_selections-turns
decreases-some_selections-turns l = length l.tokens.ahead
