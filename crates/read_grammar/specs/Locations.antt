-- The names of directive locations (GraphQL, October 2021, section 3.13; the last is not in it).
use Rattle.std.specs.Prelude.{ℕ, List, [], ◌∷◌, if◌then◌else◌, bytes_eq}
use Rattle.graphql_ast.specs.in_values.OperationQueries.{location_keyword}
use Rattle.graphql_ast.specs.in_directives.declared.directive_location.DirectiveLocation.{DirectiveLocation}
use Rattle.graphql_ast.specs.in_directives.declared.directive_location.DirectiveLocation.TheVariants as location

abbrev pub locations : List DirectiveLocation
locations =
    location.Query
    ∷ location.Mutation
    ∷ location.Subscription
    ∷ location.Field
    ∷ location.FragmentDefinition
    ∷ location.FragmentSpread
    ∷ location.InlineFragment
    ∷ location.VariableDefinition
    ∷ location.Schema
    ∷ location.Scalar
    ∷ location.Object
    ∷ location.FieldDefinition
    ∷ location.ArgumentDefinition
    ∷ location.Interface
    ∷ location.Union
    ∷ location.Enum
    ∷ location.EnumValue
    ∷ location.InputObject
    ∷ location.InputFieldDefinition
    ∷ []

-- the first of these with this name; if none has it, the last of the twenty
abbrev pub named_among : List DirectiveLocation → List ℕ → DirectiveLocation
named_among [] text = location.DirectiveDefinition
named_among (x ∷ xs) text = if bytes_eq (location_keyword x) text then x else named_among xs text

-- Laxer: the last of the twenty is not in October 2021
-- the location with this name; a token of the class Location has the name of one of the twenty
unfoldable pub location_of : List ℕ → DirectiveLocation
location_of text = named_among locations text
