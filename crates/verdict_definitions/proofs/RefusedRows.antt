-- More rows that are refused by a folding rule, a rule of typing or a rule on schemas.
use Rattle.std.proofs.Common.{[], ◌∷◌, codes, None, refl, inl, inr, arith}
use Rattle.graphql_names.specs.Placed.{Place}
use Rattle.schema_built_in.specs.Table.{built_in_definitions}
use Rattle.tree_definitions.specs.DefinitionTree.{DefinitionTree, Operation, ScalarType, ObjectType}
use Rattle.graphql_faults.specs.in_grammar.Places.{place_in}
use Rattle.schema_fold.specs.in_directives.declared.operation_type.OperationType.TheVariants.{Query}
use Rattle.schema_fold.specs.in_literals.TypeTree.{NamedTree}
use Rattle.tree_definitions.specs.in_operations.SelectionTree.{FieldTree, no_selections, selection_then}
use Rattle.schema_fold.specs.BuildErrors as folding
use Rattle.schema_types.specs.Addresses.{SchemaAt}
use Rattle.schema_types.specs.TypeParts.{with_fields}
use Rattle.schema_types.specs.declared.type_kind.TypeKind.TheVariants as kind
use Rattle.rule_definitions.specs.Diagnostics.{QueryRootOperationType}
use Rattle.rule_definitions.specs.Faults.{told, wrong}
use Rattle.rule_definitions.specs.Judged.{judged}
use Rattle.rule_definitions.specs.Rules.{Breaks}
use Rattle.graphql_faults.specs.DetailsTree.{of_rule, of_folding, of_typing}
use Rattle.document_typing.specs.TypingFaults as typing
use Rattle.verdict_definitions.specs.Texts.{SourceText, Tree, ReadsText}
use Rattle.verdict_definitions.specs.Meaning.{schema_of, document_schema}
use Rattle.verdict_definitions.specs.Judge.{IsAccepted}
use Rattle.verdict_definitions.specs.Says.{FoldingFails, TypingFailsOver, SaysSchema, SaysDocument}
use Rattle.verdict_definitions.proofs.RowReading.{reader, reads}
use Rattle.verdict_definitions.proofs.RowTrees.{terms, named, node, field_definition, fields_of, object}
use Rattle.verdict_definitions.proofs.RowJudging.{folding_refused, schema_refused, typing_refused}
use Rattle.verdict_definitions.proofs.TextRows.{query_field, query_field_tree, query_field_reads}

-- ---- S `{ a }`: `ExecutableDefinition` at 1:0

abbrev operation : SourceText
operation = codes "{ a }"

abbrev operation_tree : DefinitionTree Place
operation_tree = Operation (place_in 1 0 5) (record {
  operation_type = Query;
  name = None;
  variables = [];
  directives = [];
  selections = selection_then (FieldTree (place_in 1 2 3) (record { alias = None; name = named (codes "a") (place_in 1 2 3); arguments = []; directives = [] }) no_selections) no_selections;
})

operation_reads : ReadsText 1 operation (operation_tree ∷ [])
unfolding reader
operation_reads = reads 500 1 operation (operation_tree ∷ []) refl

abbrev operation_fault : folding.BuildFault
operation_fault = record { place = place_in 1 0 5; breach = folding.ExecutableDefinition }

operation_fails : FoldingFails terms ((operation_tree ∷ []) ∷ []) operation_fault
operation_fails = folding.executable_definition ([], (operation_tree, (([], refl), (refl, refl))))

operation_refused : (document : SourceText) → IsAccepted terms (operation ∷ []) document → ⊥
operation_refused document = folding_refused terms operation document (operation_tree ∷ []) operation_reads operation_fault operation_fails

operation_said : SaysSchema terms (operation ∷ []) (of_folding operation_fault)
operation_said = inr ((operation_tree ∷ []) ∷ [], ((operation_reads, tt), inr (inl (operation_fault, (refl, operation_fails)))))

-- ---- S `scalar Int type Query { a: Int }`: `BuiltInScalarTypeRedefinition` at 1:0

abbrev scalar_int : SourceText
scalar_int = codes "scalar Int type Query { a: Int }"

abbrev scalar_int_tree : Tree
scalar_int_tree =
    ScalarType (place_in 1 0 10) None (record { name = named (codes "Int") (place_in 1 7 10); directives = [] })
    ∷ object (place_in 1 11 32) (named (codes "Query") (place_in 1 16 21)) (field_definition (codes "a") 24 25 (codes "Int") 27 30 ∷ [])
    ∷ []

scalar_int_reads : ReadsText 1 scalar_int scalar_int_tree
unfolding reader
scalar_int_reads = reads 500 1 scalar_int scalar_int_tree refl

abbrev scalar_int_fault : folding.BuildFault
scalar_int_fault = record { place = place_in 1 0 10; breach = folding.BuiltInScalarTypeRedefinition (codes "Int") }

scalar_int_fails : FoldingFails terms (scalar_int_tree ∷ []) scalar_int_fault
unfolding built_in_definitions
scalar_int_fails = folding.built_in_scalar_type_redefinition ([], (_, ((_, refl), (_, ((refl, refl), refl, refl)))))

scalar_int_refused : (document : SourceText) → IsAccepted terms (scalar_int ∷ []) document → ⊥
scalar_int_refused document = folding_refused terms scalar_int document scalar_int_tree scalar_int_reads scalar_int_fault scalar_int_fails

scalar_int_said : SaysSchema terms (scalar_int ∷ []) (of_folding scalar_int_fault)
scalar_int_said = inr (scalar_int_tree ∷ [], ((scalar_int_reads, tt), inr (inl (scalar_int_fault, (refl, scalar_int_fails)))))

-- ---- S `type Query { a: Int a: Int }`: `ObjectFieldNameCollision` at 1:20

abbrev twice : SourceText
twice = codes "type Query { a: Int a: Int }"

abbrev twice_tree : Tree
twice_tree = object (place_in 1 0 28) (named (codes "Query") (place_in 1 5 10)) (field_definition (codes "a") 13 14 (codes "Int") 16 19 ∷ field_definition (codes "a") 20 21 (codes "Int") 23 26 ∷ []) ∷ []

twice_reads : ReadsText 1 twice twice_tree
unfolding reader
twice_reads = reads 500 1 twice twice_tree refl

abbrev twice_fault : folding.BuildFault
twice_fault = record { place = place_in 1 20 26; breach = folding.ObjectFieldNameCollision (codes "Query") (codes "a") }

-- `Query` is the fourteenth type, after thirteen built-in ones
twice_fails : FoldingFails terms (twice_tree ∷ []) twice_fault
unfolding built_in_definitions
twice_fails = folding.object_field_name_collision (
  record {
    place = place_in 1 0 28;
    description = None;
    parts = with_fields kind.Object (fields_of (named (codes "Query") (place_in 1 5 10)) [] (field_definition (codes "a") 13 14 (codes "Int") 16 19 ∷ field_definition (codes "a") 20 21 (codes "Int") 23 26 ∷ []));
  },
  (
    record { extension = None; it = field_definition (codes "a") 20 21 (codes "Int") 23 26 },
    (
      (13, omega arith, refl),
      refl,
      (record { extension = None; it = field_definition (codes "a") 13 14 (codes "Int") 16 19 } ∷ [], (_, (([], refl), (refl, refl)))),
      refl,
    ),
  ),
)

twice_refused : (document : SourceText) → IsAccepted terms (twice ∷ []) document → ⊥
twice_refused document = folding_refused terms twice document twice_tree twice_reads twice_fault twice_fails

twice_said : SaysSchema terms (twice ∷ []) (of_folding twice_fault)
twice_said = inr (twice_tree ∷ [], ((twice_reads, tt), inr (inl (twice_fault, (refl, twice_fails)))))

-- ---- S `type T { a: Int }`: `QueryRootOperationType`, without a place

abbrev no_query : SourceText
no_query = codes "type T { a: Int }"

abbrev no_query_tree : Tree
no_query_tree = object (place_in 1 0 17) (named (codes "T") (place_in 1 5 6)) (field_definition (codes "a") 9 10 (codes "Int") 12 15 ∷ []) ∷ []

no_query_reads : ReadsText 1 no_query no_query_tree
unfolding reader
no_query_reads = reads 500 1 no_query no_query_tree refl

no_query_breaks : Breaks (judged (schema_of terms (no_query_tree ∷ []))) (told SchemaAt QueryRootOperationType)
unfolding built_in_definitions
no_query_breaks = inl (inl (refl, refl))

no_query_refused : (document : SourceText) → IsAccepted terms (no_query ∷ []) document → ⊥
no_query_refused document = schema_refused terms no_query document no_query_tree no_query_reads (told SchemaAt QueryRootOperationType) no_query_breaks

no_query_said : SaysSchema terms (no_query ∷ []) (of_rule (wrong None QueryRootOperationType))
unfolding built_in_definitions
no_query_said = inr (no_query_tree ∷ [], ((no_query_reads, tt), inr (inr (wrong None QueryRootOperationType, (refl, inl (told SchemaAt QueryRootOperationType, (no_query_breaks, (refl, refl))))))))

-- ---- S `type Query { field: Int }`, D `type T { a: Int }`: `TypeSystemDefinition` at 2:0

abbrev type_tree : Tree
type_tree = ObjectType (place_in 2 0 17) None (fields_of (named (codes "T") (place_in 2 5 6)) [] (
    node (record { description = None; name = named (codes "a") (place_in 2 9 10); arguments = []; ty = NamedTree (named (codes "Int") (place_in 2 12 15)); directives = [] }) (place_in 2 9 15) ∷ [])) ∷ []

type_reads : ReadsText 2 no_query type_tree
unfolding reader
type_reads = reads 500 2 no_query type_tree refl

abbrev type_fault : typing.TypingFault Place
type_fault = typing.typing_fault_at (place_in 2 0 17) typing.TypeSystemDefinition

type_fails : TypingFailsOver (document_schema terms (query_field_tree ∷ [])) type_tree type_fault
type_fails = typing.in_definition ([], (_, (([], refl), typing.type_system_definition (refl, refl))))

type_refused : IsAccepted terms (query_field ∷ []) no_query → ⊥
type_refused = typing_refused terms query_field no_query query_field_tree query_field_reads type_tree type_reads type_fault type_fails

type_said : SaysDocument (document_schema terms (query_field_tree ∷ [])) 500 2 no_query (of_typing type_fault)
type_said = inr (type_tree, (type_reads, inl (type_fault, (refl, type_fails))))
