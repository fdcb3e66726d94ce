-- Names of directive locations (GraphQL, October 2021, section 3.13; DIRECTIVE_DEFINITION is not in it).
use Rattle.std.specs.Prelude.{ℕ, List, codes}
use Rattle.tree_directives.specs.declared.directive_location.DirectiveLocation.{DirectiveLocation}
use Rattle.tree_directives.specs.declared.directive_location.DirectiveLocation.TheVariants as location

-- a directive location as it is written
abbrev pub location_keyword : DirectiveLocation → List ℕ
location_keyword location.Query = codes "QUERY"
location_keyword location.Mutation = codes "MUTATION"
location_keyword location.Subscription = codes "SUBSCRIPTION"
location_keyword location.Field = codes "FIELD"
location_keyword location.FragmentDefinition = codes "FRAGMENT_DEFINITION"
location_keyword location.FragmentSpread = codes "FRAGMENT_SPREAD"
location_keyword location.InlineFragment = codes "INLINE_FRAGMENT"
location_keyword location.VariableDefinition = codes "VARIABLE_DEFINITION"
location_keyword location.Schema = codes "SCHEMA"
location_keyword location.Scalar = codes "SCALAR"
location_keyword location.Object = codes "OBJECT"
location_keyword location.FieldDefinition = codes "FIELD_DEFINITION"
location_keyword location.ArgumentDefinition = codes "ARGUMENT_DEFINITION"
location_keyword location.Interface = codes "INTERFACE"
location_keyword location.Union = codes "UNION"
location_keyword location.Enum = codes "ENUM"
location_keyword location.EnumValue = codes "ENUM_VALUE"
location_keyword location.InputObject = codes "INPUT_OBJECT"
location_keyword location.InputFieldDefinition = codes "INPUT_FIELD_DEFINITION"
location_keyword location.DirectiveDefinition = codes "DIRECTIVE_DEFINITION"
