use Rattle.std.proofs.Common.{◌≡◌, ℕ, length}
use Rattle.std.specs.Prelude.{map}
use Rattle.graphql_names.specs.Placed.{node_tree}
use Rattle.tree_directives.specs.DirectiveTree.{argument_tree}
use Rattle.read_grammar.specs.Kinds as kinds
use Rattle.read_grammar.specs.Reading as read
use Rattle.read_grammar.specs.ValueReading as reading
use Rattle.read_grammar.proofs.Steps.{with_front}
use Rattle.read_operations.specs.Meanings.{in_file}
use Rattle.read_operations.proofs.argument_list.some_arguments.Given as goal

abbrev pub invariant-turns : goal.invariant-turns
invariant-turns l =
    with_front (map (node_tree argument_tree) l.found.items) (read.many kinds.is_name (read.placed (in_file l.file) (reading.argument (in_file l.file) l.constant l.depth)) l.tokens)
    ≡ read.some kinds.is_name (read.placed (in_file l.file) (reading.argument (in_file l.file) l.constant l.depth)) l.initial.tokens

abbrev pub decreases-turns : goal.decreases-turns
decreases-turns l = length l.tokens.ahead
