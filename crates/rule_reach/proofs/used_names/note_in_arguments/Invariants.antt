use Rattle.std.proofs.Common.{◌≡◌, drop, map}
use Rattle.graphql_names.specs.Placed.{node_tree}
use Rattle.tree_operations.specs.DirectiveTree.{argument_tree}
use Rattle.rule_reach.specs.NotedNames.{noted_names}
use Rattle.rule_reach.specs.UsedNames.{with_arguments}
use Rattle.rule_reach.proofs.used_names.note_in_arguments.Given as goal

abbrev pub invariant-loop-argument : goal.invariant-loop-argument
invariant-loop-argument l = with_arguments (noted_names l.fn.names) (map (node_tree argument_tree) l.given) ≡ with_arguments (noted_names l.names) (map (node_tree argument_tree) (drop l.argument-index l.given))
