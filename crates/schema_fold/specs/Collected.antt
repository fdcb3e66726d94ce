-- Private: leads to `specs/Fold.antt`. All components of a type, class by class, repeated ones too.
use Rattle.std.specs.Prelude.{◌≡◌, List, ◌++◌, map}
use Rattle.std.specs.List.{flat_map}
use Rattle.graphql_names.specs.Placed.{Placed, Place, Text}
use Rattle.tree_directives.specs.DirectiveTree.{DirectiveTree, InputValueTree, directive_tree, input_value_tree}
use Rattle.schema_types.specs.in_type_members.TypeSystemTree.{FieldDefinitionTree, EnumValueTree, field_definition_tree, enum_value_tree}
use Rattle.schema_types.specs.in_components.Given.{Given, component_tree, component_name_tree}
use Rattle.schema_types.specs.TypeParts.{TypeParts}
use Rattle.schema_fold.specs.Components.{all_given}
use Rattle.schema_fold.specs.declared.collected.Collected.{Collected}

pub record AllComponents : Type 0 where
  pub directives : List (Given Place (Placed Place (DirectiveTree Place)))
  pub interfaces : List (Given Place (Text Place))
  pub fields : List (Given Place (Placed Place (FieldDefinitionTree Place)))
  pub members : List (Given Place (Text Place))
  pub values : List (Given Place (Placed Place (EnumValueTree Place)))
  pub inputs : List (Given Place (Placed Place (InputValueTree Place)))

abbrev pub collected : Collected → AllComponents
collected c = record {
  directives = map (component_tree directive_tree) c.directives.items;
  interfaces = map component_name_tree c.interfaces.items;
  fields = map (component_tree field_definition_tree) c.fields.items;
  members = map component_name_tree c.members.items;
  values = map (component_tree enum_value_tree) c.values.items;
  inputs = map (component_tree input_value_tree) c.inputs.items;
}

-- the components of one class
abbrev pub class_from : {A : Type 0} → (TypeParts Place → List A) → List (Given Place (TypeParts Place)) → List (Given Place A)
class_from of gs = flat_map (λ g. all_given g.extension (of g.it)) gs

-- the components that these parts give, in order
abbrev pub collected_from : List (Given Place (TypeParts Place)) → AllComponents
collected_from gs = record {
  directives = class_from (λ p. p.directives) gs;
  interfaces = class_from (λ p. p.interfaces) gs;
  fields = class_from (λ p. p.fields) gs;
  members = class_from (λ p. p.members) gs;
  values = class_from (λ p. p.values) gs;
  inputs = class_from (λ p. p.inputs) gs;
}

-- these components, each class followed by those of the parts
abbrev pub collected_and : AllComponents → Given Place (TypeParts Place) → AllComponents
collected_and all g = record {
  directives = all.directives ++ all_given g.extension g.it.directives;
  interfaces = all.interfaces ++ all_given g.extension g.it.interfaces;
  fields = all.fields ++ all_given g.extension g.it.fields;
  members = all.members ++ all_given g.extension g.it.members;
  values = all.values ++ all_given g.extension g.it.values;
  inputs = all.inputs ++ all_given g.extension g.it.inputs;
}
