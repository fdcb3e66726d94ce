use Rattle.std.proofs.Common.{◌≡◌, drop, map}
use Rattle.std.specs.Prelude.{find}
use Rattle.tree_literals.specs.in_names.Placed.{node_tree}
use Rattle.tree_directives.specs.DirectiveTree.{input_value_tree, directive_definition_tree}
use Rattle.tree_directives.specs.DirectiveQueries.{input_value_has_name}
use Rattle.tree_directives.proofs.directive.DirectiveDefinition.argument_by_name.Given as goal

abbrev pub invariant-loop-argument : goal.invariant-loop-argument
invariant-loop-argument l = find (input_value_has_name l.name) (directive_definition_tree l.self).arguments ≡ find (input_value_has_name l.name) (map (node_tree input_value_tree) (drop l.argument-index l.argument-items))
