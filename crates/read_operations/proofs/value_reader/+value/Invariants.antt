use Rattle.std.proofs.Common.{◌≡◌, ℕ, ◌+◌, ◌*◌, length}
use Rattle.std.specs.Prelude.{map}
use Rattle.graphql_names.specs.Placed.{node_tree}
use Rattle.tree_literals.specs.ValueTree.{value_tree}
use Rattle.read_grammar.specs.Begins as begins
use Rattle.read_grammar.specs.Kinds as kinds
use Rattle.read_grammar.specs.Reading as read
use Rattle.read_grammar.specs.ValueReading as reading
use Rattle.read_grammar.proofs.Steps.{with_front}
use Rattle.read_operations.specs.Meanings.{in_file, entry_view}
use Rattle.read_operations.proofs.value_reader.+value.Given as goal

abbrev pub decreases-value : goal.decreases-value
decreases-value l = 5 * l.depth

abbrev pub decreases-placed_value : goal.decreases-placed_value
decreases-placed_value l = 5 * l.depth + 1

abbrev pub decreases-values : goal.decreases-values
decreases-values l = 5 * l.depth + 2

abbrev pub decreases-list_value : goal.decreases-list_value
decreases-list_value l = 5 * l.depth + 3

abbrev pub decreases-object_field : goal.decreases-object_field
decreases-object_field l = 5 * l.depth + 2

abbrev pub decreases-object_fields : goal.decreases-object_fields
decreases-object_fields l = 5 * l.depth + 3

abbrev pub decreases-object_value : goal.decreases-object_value
decreases-object_value l = 5 * l.depth + 4

abbrev pub invariant-values-turns : goal.invariant-values-turns
invariant-values-turns l =
    with_front (map (node_tree value_tree) l.found.items) (read.many begins.begins_value (read.placed (in_file l.file) (reading.value (in_file l.file) l.constant l.depth)) l.tokens)
    ≡ read.many begins.begins_value (read.placed (in_file l.file) (reading.value (in_file l.file) l.constant l.depth)) l.initial.tokens

abbrev pub decreases-values-turns : goal.decreases-values-turns
decreases-values-turns l = length l.tokens.ahead

abbrev pub invariant-object_fields-turns : goal.invariant-object_fields-turns
invariant-object_fields-turns l =
    with_front (map entry_view l.found.items) (read.many kinds.is_name (reading.object_field (in_file l.file) (reading.value (in_file l.file) l.constant l.depth)) l.tokens)
    ≡ read.many kinds.is_name (reading.object_field (in_file l.file) (reading.value (in_file l.file) l.constant l.depth)) l.initial.tokens

abbrev pub decreases-object_fields-turns : goal.decreases-object_fields-turns
decreases-object_fields-turns l = length l.tokens.ahead
