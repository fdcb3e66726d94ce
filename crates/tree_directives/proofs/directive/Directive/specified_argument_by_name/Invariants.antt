use Rattle.std.proofs.Common.{◌≡◌, drop, map}
use Rattle.std.specs.Prelude.{find}
use Rattle.tree_literals.specs.in_names.Placed.{node_tree}
use Rattle.tree_directives.specs.DirectiveTree.{argument_tree, directive_tree}
use Rattle.tree_directives.specs.DirectiveQueries.{argument_has_name}
use Rattle.tree_directives.proofs.directive.Directive.specified_argument_by_name.Given as goal

abbrev pub invariant-loop-argument : goal.invariant-loop-argument
invariant-loop-argument l = find (argument_has_name l.name) (directive_tree l.self).arguments ≡ find (argument_has_name l.name) (map (node_tree argument_tree) (drop l.argument-index l.argument-items))
