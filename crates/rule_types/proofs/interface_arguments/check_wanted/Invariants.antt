use Rattle.std.proofs.Common.{◌≡◌, map, take}
use Rattle.std.specs.List.{flat_map}
use Rattle.graphql_names.specs.Placed.{node_tree}
use Rattle.tree_directives.specs.DirectiveTree.{input_value_tree, input_value_trees}
use Rattle.tree_type_members.specs.TypeSystemTree.{field_definition_tree}
use Rattle.fault_data.specs.FaultView.{faults_of}
use Rattle.fault_data.specs.Room.{◌⊕◌}
use Rattle.rule_types.specs.InterfaceFaults.{wanted_fault}
use Rattle.rule_types.proofs.interface_arguments.check_wanted.Given as goal

abbrev pub invariant-loop-argument : goal.invariant-loop-argument
invariant-loop-argument l =
    faults_of l.faults ≡ faults_of l.fn.faults ⊕ flat_map (wanted_fault l.implementation.name.now.text l.implementation.interface.now.text l.implementation.field_name.now.text (node_tree field_definition_tree l.implementation.wanted.now) (node_tree field_definition_tree l.implementation.field.now) (input_value_trees l.own)) (map (node_tree input_value_tree) (take l.argument-index l.argument-items))
