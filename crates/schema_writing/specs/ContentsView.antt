-- Private: leads to `specs/Out.antt` of `schema_types`. What contracts see of a type's contents, as they are filed and taken out.
use Rattle.std.specs.Prelude.{◌≡◌, List, [], map, Option}
use Rattle.graphql_names.specs.Placed.{Place, name_tree, node_tree}
use Rattle.tree_directives.specs.DirectiveTree.{directive_tree, directives_tree, input_value_tree}
use Rattle.tree_type_members.specs.TypeSystemTree.{field_definition_tree, enum_value_tree}
use Rattle.schema_components.specs.Given.{ExtensionTree, component_name_tree}
use Rattle.schema_components.specs.declared.component.Component.{Component}
use Rattle.schema_components.specs.declared.component_name.ComponentName.{ComponentName}
use Rattle.tree_type_members.specs.declared.field_definition.FieldDefinition.{FieldDefinition}
use Rattle.schema_types.specs.Out.{given_by}
use Rattle.schema_writing.specs.Filed.{filed_under, given_contents, itself}
use Rattle.schema_writing.specs.Contents.{GivenParts}
use Rattle.schema_writing.specs.declared.parts.FiledType.{FiledType}
use Rattle.schema_writing.specs.declared.parts.Parts.{Parts}

-- what is filed under this giver
abbrev pub filed_parts : Option (ExtensionTree Place) → FiledType → GivenParts
filed_parts giver f = record {
  directives = map (node_tree directive_tree) (filed_under giver f.directives.entries);
  interfaces = map name_tree (filed_under giver f.interfaces.entries);
  fields = map (node_tree field_definition_tree) (filed_under giver f.fields.entries);
  members = map name_tree (filed_under giver f.members.entries);
  values = map (node_tree enum_value_tree) (filed_under giver f.values.entries);
  inputs = map (node_tree input_value_tree) (filed_under giver f.inputs.entries);
}

-- the interfaces and fields of a type are filed, and nothing else
pub record FilesFields (names : List ComponentName) (components : List (Component FieldDefinition)) (old new : FiledType) : Type 0 where
  pub interfaces : (giver : Option (ExtensionTree Place)) → map name_tree (filed_under giver new.interfaces.entries) ≡ given_by giver (map component_name_tree names)
  pub fields : (giver : Option (ExtensionTree Place)) → map (node_tree itself) (filed_under giver new.fields.entries) ≡ given_by giver (given_contents components)
  pub others : new ≡ record old { interfaces = new.interfaces; fields = new.fields }

abbrev pub parts_view : Parts → GivenParts
parts_view p = record {
  directives = directives_tree p.directives;
  interfaces = map name_tree p.interfaces.items;
  fields = map (node_tree field_definition_tree) p.fields.items;
  members = map name_tree p.members.items;
  values = map (node_tree enum_value_tree) p.values.items;
  inputs = map (node_tree input_value_tree) p.inputs.items;
}

-- nothing is filed
pub record HoldsNothing (f : FiledType) : Type 0 where
  pub directives : f.directives.entries ≡ []
  pub interfaces : f.interfaces.entries ≡ []
  pub fields : f.fields.entries ≡ []
  pub members : f.members.entries ≡ []
  pub values : f.values.entries ≡ []
  pub inputs : f.inputs.entries ≡ []

-- no part is taken out yet
pub record GivesNothing (p : Parts) : Type 0 where
  pub directives : p.directives.0.items ≡ []
  pub interfaces : p.interfaces.items ≡ []
  pub fields : p.fields.items ≡ []
  pub members : p.members.items ≡ []
  pub values : p.values.items ≡ []
  pub inputs : p.inputs.items ≡ []
