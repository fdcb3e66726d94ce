-- The definitions that each schema has (GraphQL, October 2021, sections 3.5, 3.13 and 4.2), in the order in which a schema has them.
use Rattle.std.specs.Prelude.{ℕ, false, List, [], ◌∷◌, ◌++◌, map, codes, Option, None, Some}
use Rattle.std.specs.Option.{option_map}
use Rattle.std.proofs.Common.{lit<}
use Rattle.graphql_names.specs.Placed.{Placed, Place, Text}
use Rattle.schema_components.specs.in_literals.TypeTree.{TypeTree, NamedTree, NonNullNamedTree, ListTree, NonNullListTree}
use Rattle.schema_components.specs.in_literals.ValueTree.{ValueTree, StringTree, BooleanTree}
use Rattle.schema_components.specs.in_directives.DirectiveTree.{InputValueTree}
use Rattle.schema_components.specs.in_directives.declared.directive_location.DirectiveLocation.{DirectiveLocation}
use Rattle.schema_components.specs.in_directives.declared.directive_location.DirectiveLocation.TheVariants as at
use Rattle.schema_types.specs.in_type_members.TypeSystemTree.{FieldDefinitionTree, EnumValueTree}
use Rattle.spec_tree.specs.DefinitionTree.{DefinitionTree, DirectiveDefinition, ScalarType, ObjectType, EnumType}

-- the place of what is built in: file 0, offset 0, length 0
abbrev pub built_in : Place
built_in = Some (record { file_id = record { 0 = 0 }; offset = 0; length = 0; fits = lit< tt })

-- a value at that place
abbrev pub here : {A : Type 0} → A → Placed Place A
here x = record { it = x; place = built_in }

-- a name: it has no place, since a name's place is as long as the name
abbrev pub name : List ℕ → Text Place
name n = record { it = n; place = None }

-- ---- references to types

-- N
abbrev pub a : List ℕ → TypeTree Place
a n = NamedTree (name n)

-- N!
abbrev pub one : List ℕ → TypeTree Place
one n = NonNullNamedTree (name n)

-- [N!]
abbrev pub some : List ℕ → TypeTree Place
some n = ListTree (one n)

-- [N!]!
abbrev pub all : List ℕ → TypeTree Place
all n = NonNullListTree (one n)

-- ---- parts

abbrev pub argument : List ℕ → TypeTree Place → Option (ValueTree Place) → Placed Place (InputValueTree Place)
argument n ty default = here (record { description = None; name = name n; ty = here ty; default_value = option_map here default; directives = [] })

abbrev pub field_with : List (Placed Place (InputValueTree Place)) → List ℕ → TypeTree Place → Placed Place (FieldDefinitionTree Place)
field_with arguments n ty = here (record { description = None; name = name n; arguments = arguments; ty = ty; directives = [] })

abbrev pub field : List ℕ → TypeTree Place → Placed Place (FieldDefinitionTree Place)
field = field_with []

-- a field with the argument includeDeprecated: Boolean = false
abbrev pub field_deprecated : List ℕ → TypeTree Place → Placed Place (FieldDefinitionTree Place)
field_deprecated = field_with (argument (codes "includeDeprecated") (a (codes "Boolean")) (Some (BooleanTree false)) ∷ [])

abbrev pub value : List ℕ → Placed Place (EnumValueTree Place)
value n = here (record { description = None; value = name n; directives = [] })

-- ---- definitions

abbrev pub directive : List ℕ → List (Placed Place (InputValueTree Place)) → List DirectiveLocation → DefinitionTree Place
directive n arguments locations = DirectiveDefinition built_in (record { description = None; name = name n; arguments = arguments; directives = []; repeatable = false; locations = locations })

abbrev pub scalar : List ℕ → DefinitionTree Place
scalar n = ScalarType built_in None (record { name = name n; directives = [] })

abbrev pub object : List ℕ → List (Placed Place (FieldDefinitionTree Place)) → DefinitionTree Place
object n fields = ObjectType built_in None (record { name = name n; interfaces = []; directives = []; fields = fields })

abbrev pub enum : List ℕ → List (List ℕ) → DefinitionTree Place
enum n values = EnumType built_in None (record { name = name n; directives = []; values = map value values })

-- ---- the table

-- Laxer: the last two locations of `@deprecated`, also on what is required, are not in October 2021
-- `@skip`, `@include`, `@deprecated` and `@specifiedBy` (section 3.13)
abbrev pub built_in_directives : List (DefinitionTree Place)
built_in_directives =
    directive (codes "skip") (argument (codes "if") (one (codes "Boolean")) None ∷ []) (at.Field ∷ at.FragmentSpread ∷ at.InlineFragment ∷ [])
    ∷ directive (codes "include") (argument (codes "if") (one (codes "Boolean")) None ∷ []) (at.Field ∷ at.FragmentSpread ∷ at.InlineFragment ∷ [])
    ∷ directive (codes "deprecated") (argument (codes "reason") (a (codes "String")) (Some (StringTree (codes "No longer supported"))) ∷ [])
    (at.FieldDefinition ∷ at.EnumValue ∷ at.ArgumentDefinition ∷ at.InputFieldDefinition ∷ [])
    ∷ directive (codes "specifiedBy") (argument (codes "url") (one (codes "String")) None ∷ []) (at.Scalar ∷ [])
    ∷ []

-- the five scalars (section 3.5)
abbrev pub built_in_scalars : List (DefinitionTree Place)
built_in_scalars = scalar (codes "Int") ∷ scalar (codes "Float") ∷ scalar (codes "String") ∷ scalar (codes "Boolean") ∷ scalar (codes "ID") ∷ []

-- ---- the types of introspection (section 4.2)

abbrev pub schema_object : DefinitionTree Place
schema_object = object (codes "__Schema") (
    field (codes "description") (a (codes "String"))
    ∷ field (codes "types") (all (codes "__Type"))
    ∷ field (codes "queryType") (one (codes "__Type"))
    ∷ field (codes "mutationType") (a (codes "__Type"))
    ∷ field (codes "subscriptionType") (a (codes "__Type"))
    ∷ field (codes "directives") (all (codes "__Directive"))
    ∷ [])

-- Laxer: `includeDeprecated` of `inputFields` is not in October 2021
abbrev pub type_object : DefinitionTree Place
type_object = object (codes "__Type") (
    field (codes "kind") (one (codes "__TypeKind"))
    ∷ field (codes "name") (a (codes "String"))
    ∷ field (codes "description") (a (codes "String"))
    ∷ field (codes "specifiedByURL") (a (codes "String"))
    ∷ field_deprecated (codes "fields") (some (codes "__Field"))
    ∷ field (codes "interfaces") (some (codes "__Type"))
    ∷ field (codes "possibleTypes") (some (codes "__Type"))
    ∷ field_deprecated (codes "enumValues") (some (codes "__EnumValue"))
    ∷ field_deprecated (codes "inputFields") (some (codes "__InputValue"))
    ∷ field (codes "ofType") (a (codes "__Type"))
    ∷ [])

abbrev pub type_kind_enum : DefinitionTree Place
type_kind_enum = enum (codes "__TypeKind") (
    codes "SCALAR" ∷ codes "OBJECT" ∷ codes "INTERFACE" ∷ codes "UNION" ∷ codes "ENUM" ∷ codes "INPUT_OBJECT"
    ∷ codes "LIST" ∷ codes "NON_NULL" ∷ [])

-- Laxer: `includeDeprecated` is not in October 2021
abbrev pub field_object : DefinitionTree Place
field_object = object (codes "__Field") (
    field (codes "name") (one (codes "String"))
    ∷ field (codes "description") (a (codes "String"))
    ∷ field_deprecated (codes "args") (all (codes "__InputValue"))
    ∷ field (codes "type") (one (codes "__Type"))
    ∷ field (codes "isDeprecated") (one (codes "Boolean"))
    ∷ field (codes "deprecationReason") (a (codes "String"))
    ∷ [])

-- Laxer: the last two fields are not in October 2021
abbrev pub input_value_object : DefinitionTree Place
input_value_object = object (codes "__InputValue") (
    field (codes "name") (one (codes "String"))
    ∷ field (codes "description") (a (codes "String"))
    ∷ field (codes "type") (one (codes "__Type"))
    ∷ field (codes "defaultValue") (a (codes "String"))
    ∷ field (codes "isDeprecated") (one (codes "Boolean"))
    ∷ field (codes "deprecationReason") (a (codes "String"))
    ∷ [])

abbrev pub enum_value_object : DefinitionTree Place
enum_value_object = object (codes "__EnumValue") (
    field (codes "name") (one (codes "String"))
    ∷ field (codes "description") (a (codes "String"))
    ∷ field (codes "isDeprecated") (one (codes "Boolean"))
    ∷ field (codes "deprecationReason") (a (codes "String"))
    ∷ [])

-- Laxer: `includeDeprecated` is not in October 2021
abbrev pub directive_object : DefinitionTree Place
directive_object = object (codes "__Directive") (
    field (codes "name") (one (codes "String"))
    ∷ field (codes "description") (a (codes "String"))
    ∷ field (codes "locations") (all (codes "__DirectiveLocation"))
    ∷ field_deprecated (codes "args") (all (codes "__InputValue"))
    ∷ field (codes "isRepeatable") (one (codes "Boolean"))
    ∷ [])

-- Laxer: the last value is not in October 2021
abbrev pub directive_location_enum : DefinitionTree Place
directive_location_enum = enum (codes "__DirectiveLocation") (
    codes "QUERY" ∷ codes "MUTATION" ∷ codes "SUBSCRIPTION" ∷ codes "FIELD" ∷ codes "FRAGMENT_DEFINITION" ∷ codes "FRAGMENT_SPREAD"
    ∷ codes "INLINE_FRAGMENT" ∷ codes "VARIABLE_DEFINITION" ∷ codes "SCHEMA" ∷ codes "SCALAR" ∷ codes "OBJECT" ∷ codes "FIELD_DEFINITION"
    ∷ codes "ARGUMENT_DEFINITION" ∷ codes "INTERFACE" ∷ codes "UNION" ∷ codes "ENUM" ∷ codes "ENUM_VALUE" ∷ codes "INPUT_OBJECT"
    ∷ codes "INPUT_FIELD_DEFINITION" ∷ codes "DIRECTIVE_DEFINITION" ∷ [])

abbrev pub introspection_types : List (DefinitionTree Place)
introspection_types = schema_object ∷ type_object ∷ type_kind_enum ∷ field_object ∷ input_value_object ∷ enum_value_object ∷ directive_object ∷ directive_location_enum ∷ []

-- ---- all of it, in the order in which a schema has them
unfoldable pub built_in_definitions : List (DefinitionTree Place)
built_in_definitions = built_in_directives ++ (built_in_scalars ++ introspection_types)
