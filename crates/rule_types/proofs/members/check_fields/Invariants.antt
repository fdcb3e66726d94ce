use Rattle.std.proofs.Common.{◌≡◌, map}
use Rattle.std.specs.List.{flat_map}
use Rattle.tree_type_members.specs.TypeSystemTree.{field_definition_tree}
use Rattle.graphql_names.specs.NameValue.{NameValue}
use Rattle.graphql_names.specs.Placed.{node_tree}
use Rattle.schema_components.specs.declared.component.Component.{Component}
use Rattle.tree_type_members.specs.declared.field_definition.FieldDefinition.{FieldDefinition}
use Rattle.schema_types.specs.TypeView.{name_text, extended_type}
use Rattle.fault_data.specs.FaultView.{faults_of}
use Rattle.fault_data.specs.Room.{◌⊕◌}
use Rattle.rule_types.specs.FaultLists.{empty_field_set, field_faults}
use Rattle.rule_types.specs.Trees.{schema_of}
use Rattle.rule_types.proofs.members.check_fields.Given as goal

abbrev pub invariant-loop-field_name : goal.invariant-loop-field_name
invariant-loop-field_name l = faults_of l.faults ≡ (faults_of l.fn.faults ⊕ empty_field_set l.name.text (extended_type l.ty) l.fields.entries) ⊕ flat_map (λ (e : NameValue × Component FieldDefinition). field_faults (schema_of l.judging) (name_text e.0) (node_tree field_definition_tree e.1.node)) (map (λ e. (e.0.now, e.1.now)) l.yielded)
