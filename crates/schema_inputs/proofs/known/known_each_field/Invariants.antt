use Rattle.std.proofs.Common.{◌≡◌, ℕ, List, map, length}
use Rattle.graphql_names.specs.NameValue.{NameValue}
use Rattle.graphql_names.specs.Placed.{Placed, Place}
use Rattle.schema_components.specs.declared.component.Component.{Component}
use Rattle.tree_type_members.specs.declared.field_definition.FieldDefinition.{FieldDefinition}
use Rattle.tree_directives.specs.DirectiveTree.{InputValues, input_value_trees}
use Rattle.tree_type_members.specs.TypeSystemTree.{FieldDefinitionTree, field_definition_tree}
use Rattle.schema_components.specs.Given.{Given, component_tree}
use Rattle.schema_types.specs.TypeView.{name_text}
use Rattle.schema_inputs.specs.Inputs.{AreEach, AreKnownIfMany}
use Rattle.schema_inputs.proofs.known.known_each_field.Given as goal

abbrev pub invariant-loop-field : goal.invariant-loop-field
invariant-loop-field l = record {
  each : AreEach (λ (e : List ℕ × Given Place (Placed Place (FieldDefinitionTree Place))) kept. AreKnownIfMany e.1.it.it.arguments kept) (map (λ (e : NameValue × Component FieldDefinition). (name_text e.0, component_tree field_definition_tree e.1)) (map (λ e. (e.0.now, e.1.now)) l.yielded)) l.known.items;
  long : length l.known.items ≡ length l.yielded;
}
