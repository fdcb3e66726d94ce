-- Private: leads to `built_in_definitions`. What is built in, as GraphQL: a text for each definition, and one for the five scalars.
use Rattle.std.specs.Prelude.{ℕ, List, [], ◌∷◌, codes}
use Rattle.std.specs.List.{concat}

abbrev pub skip_text : List ℕ
skip_text = codes "directive @skip(if: Boolean!) on FIELD | FRAGMENT_SPREAD | INLINE_FRAGMENT "

abbrev pub include_text : List ℕ
include_text = codes "directive @include(if: Boolean!) on FIELD | FRAGMENT_SPREAD | INLINE_FRAGMENT "

abbrev pub deprecated_text : List ℕ
deprecated_text = codes "directive @deprecated(reason: String = \"No longer supported\") on FIELD_DEFINITION | ENUM_VALUE | ARGUMENT_DEFINITION | INPUT_FIELD_DEFINITION "

abbrev pub specified_by_text : List ℕ
specified_by_text = codes "directive @specifiedBy(url: String!) on SCALAR "

abbrev pub scalars_text : List ℕ
scalars_text = codes "scalar Int scalar Float scalar String scalar Boolean scalar ID "

abbrev pub schema_text : List ℕ
schema_text = codes "type __Schema { description: String types: [__Type!]! queryType: __Type! mutationType: __Type subscriptionType: __Type directives: [__Directive!]! } "

abbrev pub type_text : List ℕ
type_text = codes "type __Type { kind: __TypeKind! name: String description: String specifiedByURL: String fields(includeDeprecated: Boolean = false): [__Field!] interfaces: [__Type!] possibleTypes: [__Type!] enumValues(includeDeprecated: Boolean = false): [__EnumValue!] inputFields(includeDeprecated: Boolean = false): [__InputValue!] ofType: __Type } "

abbrev pub type_kind_text : List ℕ
type_kind_text = codes "enum __TypeKind { SCALAR OBJECT INTERFACE UNION ENUM INPUT_OBJECT LIST NON_NULL } "

abbrev pub field_text : List ℕ
field_text = codes "type __Field { name: String! description: String args(includeDeprecated: Boolean = false): [__InputValue!]! type: __Type! isDeprecated: Boolean! deprecationReason: String } "

abbrev pub input_value_text : List ℕ
input_value_text = codes "type __InputValue { name: String! description: String type: __Type! defaultValue: String isDeprecated: Boolean! deprecationReason: String } "

abbrev pub enum_value_text : List ℕ
enum_value_text = codes "type __EnumValue { name: String! description: String isDeprecated: Boolean! deprecationReason: String } "

abbrev pub directive_text : List ℕ
directive_text = codes "type __Directive { name: String! description: String locations: [__DirectiveLocation!]! args(includeDeprecated: Boolean = false): [__InputValue!]! isRepeatable: Boolean! } "

abbrev pub directive_location_text : List ℕ
directive_location_text = codes "enum __DirectiveLocation { QUERY MUTATION SUBSCRIPTION FIELD FRAGMENT_DEFINITION FRAGMENT_SPREAD INLINE_FRAGMENT VARIABLE_DEFINITION SCHEMA SCALAR OBJECT FIELD_DEFINITION ARGUMENT_DEFINITION INTERFACE UNION ENUM ENUM_VALUE INPUT_OBJECT INPUT_FIELD_DEFINITION DIRECTIVE_DEFINITION } "

-- the whole text
abbrev pub built_in_text : List ℕ
built_in_text = concat (
    skip_text
    ∷ include_text
    ∷ deprecated_text
    ∷ specified_by_text
    ∷ scalars_text
    ∷ schema_text
    ∷ type_text
    ∷ type_kind_text
    ∷ field_text
    ∷ input_value_text
    ∷ enum_value_text
    ∷ directive_text
    ∷ directive_location_text
    ∷ [])
