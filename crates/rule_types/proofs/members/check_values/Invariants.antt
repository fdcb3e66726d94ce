use Rattle.std.proofs.Common.{◌≡◌, map}
use Rattle.std.specs.List.{flat_map}
use Rattle.tree_type_members.specs.TypeSystemTree.{enum_value_tree}
use Rattle.graphql_names.specs.NameValue.{NameValue}
use Rattle.graphql_names.specs.Placed.{node_tree}
use Rattle.schema_components.specs.declared.component.Component.{Component}
use Rattle.tree_type_members.specs.declared.enum_value.EnumValueDefinition.{EnumValueDefinition}
use Rattle.schema_types.specs.TypeView.{name_text, extended_type}
use Rattle.fault_data.specs.FaultView.{faults_of}
use Rattle.fault_data.specs.Room.{◌⊕◌}
use Rattle.rule_types.specs.FaultLists.{empty_value_set, value_faults}
use Rattle.rule_types.proofs.members.check_values.Given as goal

abbrev pub invariant-loop-value_name : goal.invariant-loop-value_name
invariant-loop-value_name l = faults_of l.faults ≡ (faults_of l.fn.faults ⊕ empty_value_set l.name.text (extended_type l.ty) l.values.entries) ⊕ flat_map (λ (e : NameValue × Component EnumValueDefinition). value_faults (name_text e.0) (node_tree enum_value_tree e.1.node)) (map (λ e. (e.0.now, e.1.now)) l.yielded)
