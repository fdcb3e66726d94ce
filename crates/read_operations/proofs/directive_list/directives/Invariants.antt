use Rattle.std.proofs.Common.{◌≡◌, ℕ, length}
use Rattle.std.specs.Prelude.{map}
use Rattle.graphql_names.specs.Placed.{node_tree}
use Rattle.tree_directives.specs.DirectiveTree.{directive_tree}
use Rattle.read_grammar.specs.Kinds as kinds
use Rattle.read_grammar.specs.Reading as read
use Rattle.read_grammar.specs.ValueReading as reading
use Rattle.read_grammar.proofs.Steps.{with_front}
use Rattle.read_operations.specs.Meanings.{in_file}
use Rattle.read_operations.proofs.directive_list.directives.Given as goal

abbrev pub invariant-turns : goal.invariant-turns
invariant-turns l =
    with_front (map (node_tree directive_tree) l.found.items) (read.many kinds.is_at (read.placed (in_file l.file) (reading.directive (in_file l.file) l.constant l.depth)) l.tokens)
    ≡ reading.directives (in_file l.file) l.constant l.depth l.initial.tokens

abbrev pub decreases-turns : goal.decreases-turns
decreases-turns l = length l.tokens.ahead
