-- The origins of the components of a type or of a schema, in order: of applied directives, then interfaces, then fields, members, values
-- or roots.
use Rattle.std.specs.Prelude.{List, [], ◌∷◌, ◌++◌, map, Option, None, option_to_list}
use Rattle.std.specs.List.{flat_map}
use Rattle.std.specs.Option.{option_map}
use Rattle.indexmap.specs.IndexMap.{values}
use Rattle.graphql_names.specs.Node.{content}
use Rattle.schema_components.specs.in_directives.declared.directive.Directive.{Directive}
use Rattle.schema_components.specs.in_directives.declared.input_value.InputValueDefinition.{InputValueDefinition}
use Rattle.spec_tree.specs.in_type_members.declared.field_definition.FieldDefinition.{FieldDefinition}
use Rattle.spec_tree.specs.in_type_members.declared.enum_value.EnumValueDefinition.{EnumValueDefinition}
use Rattle.schema_components.specs.Lists.{firsts}
use Rattle.schema_components.specs.Given.{extension_id, number_of}
use Rattle.schema_components.specs.declared.extension.ExtensionId.{ExtensionId}
use Rattle.schema_components.specs.declared.component.Component.{Component}
use Rattle.schema_components.specs.declared.component.ComponentOrigin.{ComponentOrigin}
use Rattle.schema_components.specs.declared.component_name.ComponentName.{ComponentName}
use Rattle.schema_types.specs.declared.kinds.ScalarType.{ScalarType}
use Rattle.schema_types.specs.declared.kinds.ObjectType.{ObjectType}
use Rattle.schema_types.specs.declared.kinds.InterfaceType.{InterfaceType}
use Rattle.schema_types.specs.declared.kinds.UnionType.{UnionType}
use Rattle.schema_types.specs.declared.kinds.EnumType.{EnumType}
use Rattle.schema_types.specs.declared.kinds.InputObjectType.{InputObjectType}
use Rattle.schema_types.specs.declared.extended_type.ExtendedType.{ExtendedType}
use Rattle.schema_types.specs.declared.extended_type.ExtendedType.TheVariants as rust
use Rattle.schema_types.specs.declared.schema_definition.SchemaDefinition.{SchemaDefinition}

abbrev pub component_origins : {A : Type 0} → List (Component A) → List ComponentOrigin
component_origins cs = map (λ c. c.origin) cs

abbrev pub origin_of : ComponentName → ComponentOrigin
origin_of c = c.origin

abbrev pub name_origins : List ComponentName → List ComponentOrigin
name_origins cs = map origin_of cs

-- the origins of applied directives, of roots, and of the components that types of a kind have
abbrev pub origins_of : List (Component Directive) → Option ComponentOrigin → Option ComponentOrigin → Option ComponentOrigin → List ComponentName → List (Component FieldDefinition) → List (Component EnumValueDefinition) → List (Component InputValueDefinition) → List ComponentOrigin
origins_of directives query mutation subscription names fields values inputs =
    component_origins directives ++ (option_to_list query ++ (option_to_list mutation ++ (option_to_list subscription
    ++ (name_origins names ++ (component_origins fields ++ (component_origins values ++ component_origins inputs))))))

abbrev pub scalar_origins : ScalarType → List ComponentOrigin
scalar_origins t = origins_of t.directives.0.items None None None [] [] [] []

abbrev pub object_origins : ObjectType → List ComponentOrigin
object_origins t = origins_of t.directives.0.items None None None t.implements_interfaces.keys (values t.fields) [] []

abbrev pub interface_origins : InterfaceType → List ComponentOrigin
interface_origins t = origins_of t.directives.0.items None None None t.implements_interfaces.keys (values t.fields) [] []

abbrev pub union_origins : UnionType → List ComponentOrigin
union_origins t = origins_of t.directives.0.items None None None t.members.keys [] [] []

abbrev pub enum_origins : EnumType → List ComponentOrigin
enum_origins t = origins_of t.directives.0.items None None None [] [] (values t.values) []

abbrev pub input_object_origins : InputObjectType → List ComponentOrigin
input_object_origins t = origins_of t.directives.0.items None None None [] [] [] (values t.fields)

abbrev pub type_origins : ExtendedType → List ComponentOrigin
type_origins (rust.Scalar t) = scalar_origins (content t)
type_origins (rust.Object t) = object_origins (content t)
type_origins (rust.Interface t) = interface_origins (content t)
type_origins (rust.Union t) = union_origins (content t)
type_origins (rust.Enum t) = enum_origins (content t)
type_origins (rust.InputObject t) = input_object_origins (content t)

abbrev pub schema_origins : SchemaDefinition → List ComponentOrigin
schema_origins s = origins_of s.directives.0.items (option_map origin_of s.query) (option_map origin_of s.mutation) (option_map origin_of s.subscription) [] [] [] []

-- the extensions among these origins, each once, in the order of first appearance
abbrev pub extensions_in : List ComponentOrigin → List ExtensionId
extensions_in os = firsts (λ e. number_of e ∷ []) (flat_map (λ o. option_to_list (extension_id o)) os)
