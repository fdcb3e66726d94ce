use Rattle.std.proofs.Common.{◌≡◌, drop, map}
use Rattle.graphql_names.specs.Placed.{node_tree}
use Rattle.tree_directives.specs.DirectiveTree.{input_value_tree}
use Rattle.rule_definitions.specs.Kept.{is_inside_arguments}
use Rattle.graphql_rules.proofs.references.is_inside_arguments.Given as goal

abbrev pub invariant-loop-argument : goal.invariant-loop-argument
invariant-loop-argument l = is_inside_arguments l.name (map (node_tree input_value_tree) l.arguments) ≡ is_inside_arguments l.name (map (node_tree input_value_tree) (drop l.argument-index l.arguments))
