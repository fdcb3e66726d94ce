use Rattle.std.proofs.Common.{map, take, codes}
use Rattle.tree_literals.specs.in_names.Placed.{node_tree}
use Rattle.tree_directives.specs.DirectiveTree.{argument_tree}
use Rattle.tree_literals.specs.Joined.{further_text}
use Rattle.tree_directives.specs.DirectiveLayout.{argument_text}
use Rattle.tree_literals.specs.LineLayout.{texts_of}
use Rattle.tree_directives.proofs.print_directive.put_further_arguments.Given as goal

abbrev pub invariant-loop-argument : goal.invariant-loop-argument
invariant-loop-argument g l =
    g.S.Sink.puts l.fn.sink (further_text (codes ", ") (texts_of argument_text (map (node_tree argument_tree) (take l.argument-index l.arguments)))) l.sink
