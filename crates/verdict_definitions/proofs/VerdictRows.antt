-- Rows that are refused: why, and the faults that may be told.
use Rattle.std.proofs.Common.{[], ◌∷◌, codes, None, refl, sym, inl, inr, arith}
use Rattle.graphql_names.specs.Placed.{Place}
use Rattle.schema_built_in.specs.Table.{built_in_definitions}
use Rattle.graphql_faults.specs.in_grammar.Places.{place_in}
use Rattle.schema_fold.specs.BuildErrors as folding
use Rattle.document_typing.specs.TypingFaults as typing
use Rattle.document_typing.proofs.in_schema.FieldLooks.{fields_plain}
use Rattle.schema_fold.specs.in_directives.declared.operation_type.OperationType.TheVariants.{Query}
use Rattle.tree_definitions.specs.in_operations.SelectionTree.{FieldTree, no_selections}
use Rattle.schema_types.specs.TypeParts.{with_fields}
use Rattle.schema_types.specs.SchemaTree.{SchemaTree}
use Rattle.schema_types.specs.declared.type_kind.TypeKind.TheVariants as kind
use Rattle.graphql_faults.specs.DetailsTree.{of_folding, of_typing}
use Rattle.verdict_definitions.specs.Texts.{SourceText}
use Rattle.verdict_definitions.specs.Meaning.{document_schema}
use Rattle.verdict_definitions.specs.Judge.{IsAccepted}
use Rattle.verdict_definitions.specs.Says.{FoldingFails, TypingFailsOver, SaysSchema, SaysDocument}
use Rattle.verdict_definitions.proofs.RowTrees.{terms, named, field_definition, fields_of, field}
use Rattle.verdict_definitions.proofs.RowJudging.{folding_refused, typing_refused}
use Rattle.verdict_definitions.proofs.TextRows.{query_field, query_field_tree, query_field_reads, missing, missing_tree, missing_reads, orphan, orphan_query, orphan_extension, orphan_reads}

-- ---- S `type Query { a: Int } extend type T { a: Int }`: `OrphanTypeExtension` at 1:22

abbrev orphan_fault : folding.BuildFault
orphan_fault = record { place = place_in 1 22 46; breach = folding.OrphanTypeExtension (codes "T") }

orphan_fails : FoldingFails terms ((orphan_query ∷ orphan_extension ∷ []) ∷ []) orphan_fault
unfolding built_in_definitions
orphan_fails = folding.orphan_type_extension (
  orphan_query ∷ [],
  (
    orphan_extension,
    (
      ([], refl),
      (with_fields kind.Object (fields_of (named (codes "T") (place_in 1 34 35)) [] (field_definition (codes "a") 38 39 (codes "Int") 41 44 ∷ [])), (refl, refl, refl)),
    ),
  ),
)

orphan_refused : (document : SourceText) → IsAccepted terms (orphan ∷ []) document → ⊥
orphan_refused document = folding_refused terms orphan document (orphan_query ∷ orphan_extension ∷ []) orphan_reads orphan_fault orphan_fails

orphan_said : SaysSchema terms (orphan ∷ []) (of_folding orphan_fault)
orphan_said = inr ((orphan_query ∷ orphan_extension ∷ []) ∷ [], ((orphan_reads, tt), inr (inl (orphan_fault, (refl, orphan_fails)))))

-- ---- S `type Query { field: Int }`, D `{ missing }`: `UndefinedField` at 2:2

abbrev pub query_field_schema : SchemaTree Place
query_field_schema = document_schema terms (query_field_tree ∷ [])

abbrev pub missing_fault : typing.TypingFault Place
missing_fault = typing.typing_fault_at (place_in 2 2 9) (typing.UndefinedField (codes "Query") (codes "missing"))

pub missing_fails : TypingFailsOver query_field_schema missing_tree missing_fault
unfolding built_in_definitions place_in
missing_fails = typing.in_operation
    (record { place = place_in 2 0 11; base = codes "Query"; it = record { operation_type = Query; name = None; variables = []; directives = []; selections = field (codes "missing") 2 9 no_selections } })
    (0, omega arith, refl)
    (codes "Query", (FieldTree (place_in 2 2 9) (record { alias = None; name = named (codes "missing") (place_in 2 2 9); arguments = []; directives = [] }) no_selections, (typing.first no_selections, typing.undefined_field (sym (fields_plain query_field_schema (codes "Query") (codes "missing")), refl))))

missing_refused : IsAccepted terms (query_field ∷ []) missing → ⊥
missing_refused = typing_refused terms query_field missing query_field_tree query_field_reads missing_tree missing_reads missing_fault missing_fails

pub missing_said : SaysDocument query_field_schema 500 2 missing (of_typing missing_fault)
missing_said = inr (missing_tree, (missing_reads, inl (missing_fault, (refl, missing_fails))))
