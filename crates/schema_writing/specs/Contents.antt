-- Private: leads to `written_type` of `schema_types`. What a type has, class by class and without the keys of its maps,
-- and what of it its definition or one extension gave.
use Rattle.std.specs.Prelude.{List, [], ◌∷◌, ◌++◌, map, Option, None, Some, if◌then◌else◌}
use Rattle.std.specs.Option.{option_map}
use Rattle.indexmap.specs.IndexMap.{values}
use Rattle.graphql_names.specs.Node.{content, place}
use Rattle.graphql_names.specs.Places.{is_built_in}
use Rattle.graphql_names.specs.Placed.{Placed, Place, Text, name_tree, text_tree}
use Rattle.tree_directives.specs.DirectiveTree.{Directives, InputValues, InputValueTree, input_value_tree}
use Rattle.tree_type_members.specs.TypeSystemTree.{FieldDefinitionTree, EnumValueTree, field_definition_tree, enum_value_tree}
use Rattle.tree_definitions.specs.DefinitionTree.{DefinitionTree}
use Rattle.schema_components.specs.Applied.{Applied, applied_tree}
use Rattle.schema_components.specs.Given.{Given, ExtensionTree, component_tree, component_name_tree}
use Rattle.schema_types.specs.Out.{given_by, givers, each_once}
use Rattle.schema_types.specs.TypeParts.{TypeParts, definition_by, extension_by}
use Rattle.schema_writing.specs.Filed.{without_givers}
use Rattle.schema_types.specs.declared.type_kind.TypeKind.{TypeKind}
use Rattle.schema_types.specs.declared.type_kind.TypeKind.TheVariants as kind
use Rattle.schema_types.specs.declared.extended_type.ExtendedType.{ExtendedType}
use Rattle.schema_types.specs.declared.extended_type.ExtendedType.TheVariants as rust

pub record TypeContents : Type 0 where
  pub kind : TypeKind
  pub place : Place
  pub description : Option (Text Place)
  pub name : Text Place
  pub directives : Applied Place
  pub interfaces : List (Given Place (Text Place))
  pub fields : List (Given Place (Placed Place (FieldDefinitionTree Place)))
  pub members : List (Given Place (Text Place))
  pub values : List (Given Place (Placed Place (EnumValueTree Place)))
  pub inputs : List (Given Place (Placed Place (InputValueTree Place)))

-- a type that has directives alone
abbrev pub bare_contents : TypeKind → Place → Option (Text Place) → Text Place → Applied Place → TypeContents
bare_contents kind place description name directives = record {
  kind = kind;
  place = place;
  description = description;
  name = name;
  directives = directives;
  interfaces = [];
  fields = [];
  members = [];
  values = [];
  inputs = [];
}

-- what a type has
abbrev pub type_contents : ExtendedType → TypeContents
type_contents (rust.Scalar n) = let t = content n in bare_contents kind.Scalar (place n) (option_map text_tree t.description) (name_tree t.name) (applied_tree t.directives)
type_contents (rust.Object n) = let t = content n in
    record (bare_contents kind.Object (place n) (option_map text_tree t.description) (name_tree t.name) (applied_tree t.directives)) {
      interfaces = map component_name_tree t.implements_interfaces.keys;
      fields = map (component_tree field_definition_tree) (values t.fields);
    }
type_contents (rust.Interface n) = let t = content n in
    record (bare_contents kind.Interface (place n) (option_map text_tree t.description) (name_tree t.name) (applied_tree t.directives)) {
      interfaces = map component_name_tree t.implements_interfaces.keys;
      fields = map (component_tree field_definition_tree) (values t.fields);
    }
type_contents (rust.Union n) = let t = content n in
    record (bare_contents kind.Union (place n) (option_map text_tree t.description) (name_tree t.name) (applied_tree t.directives)) {
      members = map component_name_tree t.members.keys;
    }
type_contents (rust.Enum n) = let t = content n in
    record (bare_contents kind.Enum (place n) (option_map text_tree t.description) (name_tree t.name) (applied_tree t.directives)) {
      values = map (component_tree enum_value_tree) (values t.values);
    }
type_contents (rust.InputObject n) = let t = content n in
    record (bare_contents kind.InputObject (place n) (option_map text_tree t.description) (name_tree t.name) (applied_tree t.directives)) {
      inputs = map (component_tree input_value_tree) (values t.fields);
    }

-- components of all classes
pub record GivenParts : Type 0 where
  pub directives : Directives Place
  pub interfaces : List (Text Place)
  pub fields : List (Placed Place (FieldDefinitionTree Place))
  pub members : List (Text Place)
  pub values : List (Placed Place (EnumValueTree Place))
  pub inputs : InputValues Place

-- what this giver gave
abbrev pub parts_given_by : Option (ExtensionTree Place) → TypeContents → GivenParts
parts_given_by giver t = record {
  directives = given_by giver t.directives;
  interfaces = given_by giver t.interfaces;
  fields = given_by giver t.fields;
  members = given_by giver t.members;
  values = given_by giver t.values;
  inputs = given_by giver t.inputs;
}

-- all that a type has, from its definition and its extensions
abbrev pub all_parts : TypeContents → GivenParts
all_parts t = record {
  directives = without_givers t.directives;
  interfaces = without_givers t.interfaces;
  fields = without_givers t.fields;
  members = without_givers t.members;
  values = without_givers t.values;
  inputs = without_givers t.inputs;
}

-- the parts of a type with that name
abbrev pub named_parts : TypeKind → Text Place → GivenParts → TypeParts Place
named_parts kind name parts = record {
  kind = kind;
  name = name;
  directives = parts.directives;
  interfaces = parts.interfaces;
  fields = parts.fields;
  members = parts.members;
  values = parts.values;
  inputs = parts.inputs;
}

-- the extensions of a type, in the order of first appearance
abbrev pub extensions_of_contents : TypeContents → List (ExtensionTree Place)
extensions_of_contents t = each_once (givers t.directives ++ (givers t.interfaces ++ (givers t.fields ++ (givers t.members ++ (givers t.values ++ givers t.inputs)))))

-- what is written of a giver that gave these parts: the definition of a type, or an extension
abbrev pub defined_from : TypeContents → GivenParts → DefinitionTree Place
defined_from t parts = definition_by t.kind t.place t.description (named_parts t.kind t.name parts)

abbrev pub extended_from : TypeContents → Place → GivenParts → DefinitionTree Place
extended_from t place parts = extension_by t.kind place (named_parts t.kind t.name parts)

-- the definition of a type, if it is not built in, that says all that the type has
abbrev pub whole_definition : TypeContents → List (DefinitionTree Place)
whole_definition t = if is_built_in t.place then [] else defined_from t (all_parts t) ∷ []

-- the definition of a type, if it is not built in, and then its extensions
abbrev pub written_contents : TypeContents → List (DefinitionTree Place)
written_contents t = (if is_built_in t.place then [] else defined_from t (parts_given_by None t) ∷ []) ++ map (λ e. extended_from t e.place (parts_given_by (Some e) t)) (extensions_of_contents t)
