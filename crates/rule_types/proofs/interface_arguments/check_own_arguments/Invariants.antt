use Rattle.std.proofs.Common.{◌≡◌, map, take}
use Rattle.std.specs.List.{flat_map}
use Rattle.graphql_names.specs.Placed.{Place, node_tree}
use Rattle.tree_directives.specs.DirectiveTree.{InputValues, input_value_tree}
use Rattle.tree_type_members.specs.TypeSystemTree.{field_definition_tree}
use Rattle.fault_data.specs.FaultView.{faults_of}
use Rattle.fault_data.specs.Room.{◌⊕◌}
use Rattle.rule_types.specs.InterfaceFaults.{own_fault}
use Rattle.rule_types.specs.Firsts.{AreFirsts}
use Rattle.rule_types.proofs.interface_arguments.check_own_arguments.Given as goal

abbrev pub invariant-loop-argument : goal.invariant-loop-argument
invariant-loop-argument l =
    (vs : InputValues Place) → AreFirsts l.of_interface vs
    → faults_of l.faults ≡ faults_of l.fn.faults ⊕ flat_map (own_fault l.implementation.name.now.text l.implementation.interface.now.text l.implementation.field_name.now.text (node_tree field_definition_tree l.implementation.wanted.now) (node_tree field_definition_tree l.implementation.field.now) vs) (map (node_tree input_value_tree) (take l.argument-index l.arguments))
