use Rattle.std.proofs.Common.{◌≡◌, length}
use Rattle.std.specs.Prelude.{map}
use Rattle.graphql_names.specs.Placed.{node_tree}
use Rattle.tree_operations.specs.OperationTree.{variable_definition_tree}
use Rattle.read_grammar.specs.Kinds as kinds
use Rattle.read_grammar.specs.Reading as read
use Rattle.read_grammar.specs.OperationReading as reading
use Rattle.read_grammar.proofs.Steps.{with_front}
use Rattle.read_operations.specs.Meanings.{in_file}
use Rattle.read_operations.proofs.variable_list.some_variable_definitions.Given as goal

abbrev pub invariant-turns : goal.invariant-turns
invariant-turns l =
    with_front (map (node_tree variable_definition_tree) l.found.items) (read.many kinds.is_dollar (read.placed (in_file l.file) (reading.variable_definition (in_file l.file) l.depth)) l.tokens)
    ≡ read.some kinds.is_dollar (read.placed (in_file l.file) (reading.variable_definition (in_file l.file) l.depth)) l.initial.tokens

abbrev pub decreases-turns : goal.decreases-turns
decreases-turns l = length l.tokens.ahead
