use Rattle.std.proofs.Common.{◌≡◌, map, take}
use Rattle.graphql_names.specs.Placed.{node_tree}
use Rattle.tree_directives.specs.DirectiveTree.{input_value_tree}
use Rattle.schema_components.specs.Lists.{each_place}
use Rattle.fault_data.specs.FaultView.{faults_of}
use Rattle.fault_data.specs.Room.{◌⊕◌}
use Rattle.rule_types.specs.FaultLists.{unique_input_value}
use Rattle.rule_types.specs.Seen.{AreSeen}
use Rattle.rule_types.proofs.arguments.check_repeats.Given as goal

abbrev pub invariant-loop-argument : goal.invariant-loop-argument
invariant-loop-argument l = record {
  told : faults_of l.faults ≡ faults_of l.fn.faults ⊕ each_place unique_input_value (map (node_tree input_value_tree) (take l.argument-index l.arguments));
  seen : AreSeen l.seen (map (node_tree input_value_tree) (take l.argument-index l.arguments));
}
