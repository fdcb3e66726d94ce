use Rattle.std.proofs.Common.{arith}
use Rattle.graphql_names.specs.Placed.{node_tree}
use Rattle.tree_directives.specs.DirectiveTree.{input_value_tree}
use Rattle.fault_data.specs.FaultView.{faults_of}
use Rattle.rule_types.specs.FaultLists.{argument_faults}
use Rattle.rule_types.specs.Trees.{schema_of}
use Rattle.rule_types.proofs.Telling.{tells_item}
use Rattle.rule_types.proofs.arguments.check_each_argument.Goals as goal

pub loop-argument-preserved : goal.loop-argument-preserved
loop-argument-preserved c =
    tells_item (node_tree input_value_tree) (argument_faults (schema_of c.args.judging.now)) (faults_of c.args.faults.now) _ _ c.args.arguments.now c.loop-argument.argument-index c.argument-item.result (omega arith) c.argument-item.is
    c.loop-argument.invariant c.in_ok-check_argument.ensures
