-- New fields for a selection set: a name, and its definition on the type of the set (GraphQL, October 2021, sections 2.5 and 5.3.1).
use Rattle.std.specs.Prelude.{ℕ, List, Option}
use Rattle.std.specs.Option.{option_map}
use Rattle.graphql_names.specs.Placed.{Placed, Place, Text}
use Rattle.schema_types.specs.in_type_members.TypeSystemTree.{FieldDefinitionTree}
use Rattle.schema_components.specs.Given.{Given}
use Rattle.schema_types.specs.SchemaTree.{SchemaTree}
use Rattle.document_typing.specs.in_schema.LookUps.{FieldIsMissing}
use Rattle.document_typed_selections.specs.TypedTree.{TypedSelection}
use Rattle.document_typed_selections.specs.TypedParts.{bare_field}
use Rattle.graphql_documents.specs.declared.new_field_error.NewFieldError.{NewFieldError}
use Rattle.graphql_documents.specs.declared.new_field_error.NewFieldError.TheVariants.{Lookup, Memory}

-- a bare field of this name with the definition that was found, if one was found
abbrev pub bare_field_of : Text Place → Option (Given Place (Placed Place (FieldDefinitionTree Place))) → Option (TypedSelection Place)
bare_field_of n found = option_map (λ d. bare_field n d.it) found

-- why no field named n is made on the type named t: the lookup of the field fails with e, or memory ran out
abbrev pub IsNewFieldError : SchemaTree Place → List ℕ → List ℕ → NewFieldError → Type 0
IsNewFieldError s t n (Lookup e) = FieldIsMissing s t n e
IsNewFieldError s t n Memory = Unit {0}
