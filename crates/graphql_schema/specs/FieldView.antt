-- Private: leads to `LookUps.antt`. What contracts see of a borrowed field.
use Rattle.std.specs.Prelude.{Option}
use Rattle.std.specs.Borrow.{Bor}
use Rattle.std.specs.Option.{option_map}
use Rattle.graphql_names.specs.Placed.{Placed, Place}
use Rattle.tree_type_members.specs.TypeSystemTree.{FieldDefinitionTree, field_definition_tree}
use Rattle.tree_type_members.specs.declared.field_definition.FieldDefinition.{FieldDefinition}
use Rattle.schema_components.specs.Given.{Given, component_tree}
use Rattle.schema_components.specs.declared.component.Component.{Component}

abbrev pub lent_field : Option (Bor (Component FieldDefinition)) → Option (Given Place (Placed Place (FieldDefinitionTree Place)))
lent_field field = option_map (λ f. component_tree field_definition_tree f.now) field
