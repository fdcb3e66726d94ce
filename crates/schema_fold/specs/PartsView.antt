-- Private: leads to `folded_type`. What contracts see of the parts of a type, of what is collected and of what is kept.
use Rattle.std.specs.Prelude.{List, map}
use Rattle.graphql_names.specs.Placed.{Placed, Place, name_tree, node_tree}
use Rattle.tree_directives.specs.DirectiveTree.{directives_tree, input_value_tree}
use Rattle.schema_types.specs.in_type_members.TypeSystemTree.{field_definition_tree, enum_value_tree}
use Rattle.schema_types.specs.in_components.Given.{Given, component_tree}
use Rattle.schema_types.specs.in_components.declared.component.Component.{Component}
use Rattle.schema_types.specs.TypeParts.{TypeParts}
use Rattle.schema_fold.specs.declared.parts.Parts.{Parts}

abbrev pub parts_view : Parts → TypeParts Place
parts_view p = record {
  kind = p.kind;
  name = name_tree p.name.now;
  directives = directives_tree p.directives.now;
  interfaces = map name_tree p.interfaces.now;
  fields = map (node_tree field_definition_tree) p.fields.now;
  members = map name_tree p.members.now;
  values = map (node_tree enum_value_tree) p.values.now;
  inputs = map (node_tree input_value_tree) p.inputs.now;
}

-- the content, unchanged
abbrev pub itself : {A : Type 0} → A → A
itself x = x

-- components as contracts see them, with the contents of their nodes unchanged
abbrev pub given_contents : {A : Type 0} → List (Component A) → List (Given Place (Placed Place A))
given_contents cs = map (component_tree itself) cs
