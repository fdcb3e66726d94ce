-- The definitions of typing, evaluated on small documents.
use Rattle.std.proofs.Common.{◌≡◌, ℕ, List, [], ◌∷◌, map, refl, codes, None, Some}
use Rattle.tree_literals.specs.TypeTree.{NamedTree, ListTree}
use Rattle.tree_directives.specs.declared.operation_type.OperationType.TheVariants.{Query, Mutation}
use Rattle.tree_type_members.specs.TypeSystemTree.{unplaced_field_definition}
use Rattle.tree_definitions.specs.DefinitionTree.{DefinitionTree}
use Rattle.graphql_schema.specs.MetaFields.{typename_field}
use Rattle.schema_types.specs.declared.type_kind.TypeKind.TheVariants as kind
use Rattle.document_typing.specs.MeantTree.{MeantField, MeantInline, set_on}
use Rattle.document_typing.specs.Meanings.{Meanings, meanings_in, meanings_without_schema, bare_name, plain_field}
use Rattle.document_typing.specs.KeptSelections.{kept_all}
use Rattle.document_typing.specs.KeptDocument.{kept_document}
use Rattle.document_typing.specs.TypingFaults.{typing_fault_at, UndefinedField, SubselectionOnScalarType, SubselectionOnEnumType, UndefinedTypeInInlineFragmentTypeCondition}
use Rattle.document_typing.specs.SetFaults.{set_faults}
use Rattle.document_typing.specs.OutDoc.{out_doc, written_document}
use Rattle.document_typing.proofs.Samples.{field_type, type_with, schema_of, set_of, field, head, inline_on, operation, fragment_on, name_at}

-- type Query { a: Int e: E u: U } type T { a: Int } union U = Query enum E { .. }
abbrev sample : Meanings
sample = meanings_in (schema_of (codes "Query")
    (type_with kind.Scalar (codes "Int") [] []
    ∷ type_with kind.Object (codes "Query") ((codes "a", NamedTree (bare_name (codes "Int"))) ∷ (codes "e", NamedTree (bare_name (codes "E"))) ∷ (codes "u", ListTree (NamedTree (bare_name (codes "U")))) ∷ []) []
    ∷ type_with kind.Object (codes "T") ((codes "a", NamedTree (bare_name (codes "Int"))) ∷ []) []
    ∷ type_with kind.Union (codes "U") [] (codes "Query" ∷ [])
    ∷ type_with kind.Enum (codes "E") [] []
    ∷ []))

-- { missing }: nothing is kept
missing-kept : kept_all sample (set_of (field 2 (codes "missing") [] ∷ [])) (codes "Query") ≡ []
missing-kept = refl

missing-faults : set_faults sample (set_of (field 2 (codes "missing") [] ∷ [])) (codes "Query") ≡ typing_fault_at 2 (UndefinedField (codes "Query") (codes "missing")) ∷ []
missing-faults = refl

-- { __typename }: its type is String!
typename-kept : kept_all sample (set_of (field 2 (codes "__typename") [] ∷ [])) (codes "Query") ≡ MeantField 2 (unplaced_field_definition typename_field.it) (head 2 (codes "__typename")) (set_on (codes "String") []) ∷ []
typename-kept = refl

-- a union has `__typename` alone, whatever its members have; a field of an object type may have no set
union-faults : set_faults sample (set_of (field 2 (codes "u") (field 6 (codes "__typename") [] ∷ field 20 (codes "a") [] ∷ []) ∷ field 30 (codes "u") [] ∷ [])) (codes "Query") ≡ typing_fault_at 20 (UndefinedField (codes "U") (codes "a")) ∷ []
union-faults = refl

-- `__schema` on the query root, and on another type
schema-faults : set_faults sample (set_of (field 2 (codes "__schema") [] ∷ inline_on 12 (codes "T") (field 20 (codes "__schema") [] ∷ []) ∷ [])) (codes "Query") ≡ typing_fault_at 20 (UndefinedField (codes "T") (codes "__schema")) ∷ []
schema-faults = refl

-- a condition on a scalar is there, and what it selects is not; a condition on what is not there
condition-faults : set_faults sample (set_of (inline_on 2 (codes "Int") (field 12 (codes "__typename") [] ∷ []) ∷ inline_on 30 (codes "N") (field 40 (codes "a") [] ∷ []) ∷ [])) (codes "Query")
    ≡ typing_fault_at 12 (UndefinedField (codes "Int") (codes "__typename")) ∷ typing_fault_at 30 (UndefinedTypeInInlineFragmentTypeCondition (codes "N")) ∷ []
condition-faults = refl

condition-kept : kept_all sample (set_of (inline_on 2 (codes "Int") (field 12 (codes "__typename") [] ∷ []) ∷ [])) (codes "Query") ≡ MeantInline 2 (Some (name_at 2 (codes "Int"))) [] (set_on (codes "Int") []) ∷ []
condition-kept = refl

-- leaves with sets
leaf-faults : set_faults sample (set_of (field 2 (codes "a") (field 6 (codes "x") [] ∷ []) ∷ field 12 (codes "e") (field 16 (codes "x") [] ∷ []) ∷ [])) (codes "Query")
    ≡ typing_fault_at 2 (SubselectionOnScalarType (codes "Int")) ∷ typing_fault_at 12 (SubselectionOnEnumType (codes "E")) ∷ []
leaf-faults = refl

-- { a } query Q { a } { a } mutation M { a } query Q { e } fragment F on T { a }: the first without a name is kept, the first Q, and F
abbrev several : List (DefinitionTree ℕ)
several = operation 0 Query None (field 2 (codes "a") [] ∷ []) ∷ operation 6 Query (Some (codes "Q")) (field 16 (codes "a") [] ∷ [])
    ∷ operation 20 Query None (field 22 (codes "a") [] ∷ []) ∷ operation 26 Mutation (Some (codes "M")) (field 39 (codes "a") [] ∷ [])
    ∷ operation 43 Query (Some (codes "Q")) (field 53 (codes "e") [] ∷ []) ∷ fragment_on 57 (codes "F") (codes "T") (field 73 (codes "a") [] ∷ []) ∷ []

several-kept : written_document (kept_document sample several)
    ≡ operation 0 Query None (field 2 (codes "a") [] ∷ []) ∷ operation 6 Query (Some (codes "Q")) (field 16 (codes "a") [] ∷ [])
    ∷ fragment_on 57 (codes "F") (codes "T") (field 73 (codes "a") [] ∷ []) ∷ []
several-kept = refl

-- fragment F on N { a } query Q { x { y } }, without a schema: all is kept, and written with the operation first
abbrev apart : List (DefinitionTree ℕ)
apart = fragment_on 0 (codes "F") (codes "N") (field 16 (codes "a") [] ∷ []) ∷ operation 20 Query (Some (codes "Q")) (field 30 (codes "x") (field 34 (codes "y") [] ∷ []) ∷ []) ∷ []

apart-kept : written_document (kept_document meanings_without_schema apart) ≡ out_doc apart
apart-kept = refl

unknown-kept : kept_all meanings_without_schema (set_of (field 2 (codes "a") [] ∷ [])) (codes "Query") ≡ MeantField 2 (plain_field (codes "a") [] (NamedTree (bare_name (codes "UNKNOWN")))) (head 2 (codes "a")) (set_on (codes "UNKNOWN") []) ∷ []
unknown-kept = refl

-- type User { id: ID name: String profilePic: URL } schema { query: User } scalar URL, and the fields of a fragment on User
abbrev users : Meanings
users = meanings_in (schema_of (codes "User")
    (type_with kind.Object (codes "User") ((codes "id", NamedTree (bare_name (codes "ID"))) ∷ (codes "name", NamedTree (bare_name (codes "String"))) ∷ (codes "profilePic", NamedTree (bare_name (codes "URL"))) ∷ []) []
    ∷ type_with kind.Scalar (codes "URL") [] []
    ∷ []))

inner-types : map field_type (kept_all users (set_of (field 2 (codes "id") [] ∷ field 5 (codes "name") [] ∷ field 10 (codes "profilePic") [] ∷ [])) (codes "User")) ≡ codes "ID" ∷ codes "String" ∷ codes "URL" ∷ []
inner-types = refl
