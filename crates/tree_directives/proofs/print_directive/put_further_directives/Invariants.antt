use Rattle.std.proofs.Common.{map, take}
use Rattle.tree_literals.specs.in_names.Placed.{node_tree}
use Rattle.tree_directives.specs.DirectiveTree.{directive_tree}
use Rattle.tree_directives.specs.DirectiveLayout.{directives_text}
use Rattle.tree_directives.proofs.print_directive.put_further_directives.Given as goal

abbrev pub invariant-loop-directive : goal.invariant-loop-directive
invariant-loop-directive g l =
    g.S.Sink.puts l.fn.sink (directives_text (map (node_tree directive_tree) (take l.directive-index l.directives))) l.sink
