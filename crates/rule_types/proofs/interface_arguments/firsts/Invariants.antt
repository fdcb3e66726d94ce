use Rattle.std.proofs.Common.{map, take}
use Rattle.graphql_names.specs.Placed.{node_tree}
use Rattle.tree_directives.specs.DirectiveTree.{input_value_tree}
use Rattle.rule_types.specs.Firsts.{AreFirsts}
use Rattle.rule_types.proofs.interface_arguments.firsts.Given as goal

abbrev pub invariant-loop-argument : goal.invariant-loop-argument
invariant-loop-argument l = AreFirsts l.firsts (map (node_tree input_value_tree) (take l.argument-index l.arguments))
