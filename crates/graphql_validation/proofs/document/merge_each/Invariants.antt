use Rattle.std.proofs.Common.{◌≡◌, ◌++◌, [], map}
use Rattle.rule_document_definitions.specs.Selected.{operations}
use Rattle.rule_merging.specs.in_faults.DetailsView.{diagnostics_of}
use Rattle.rule_definitions.specs.Judged.{judged}
use Rattle.rule_fragments.specs.in_schema.SchemaOf.{schema_tree}
use Rattle.document_typed_operations.specs.OperationsByName.{left_operations}
use Rattle.rule_fragments.specs.in_typed_operations.DocumentView.{document_meant, operation_meant}
use Rattle.rule_merging.specs.Merged.{DocumentMergingTold}
use Rattle.rule_merging.specs.Merger.{merger_of, IsReady}
use Rattle.graphql_validation.proofs.MergedOperations.{MergeSoFar}
use Rattle.rule_fragments.proofs.Operations.{lent_operations}
use Rattle.graphql_validation.proofs.document.merge_each.Given as goal

abbrev pub invariant-loop-operation : goal.invariant-loop-operation
invariant-loop-operation l = DocumentMergingTold (judged (schema_tree l.fn.schema)) (document_meant l.fn.document) [] (diagnostics_of l.list)
    × (MergeSoFar (judged (schema_tree l.fn.schema)) (document_meant l.fn.document) (lent_operations l.yielded) (merger_of l.merger).is_clean [] (diagnostics_of l.list)
    × (((merger_of l.merger).schema ≡ judged (schema_tree l.fn.schema)) × (((merger_of l.merger).document ≡ document_meant l.fn.document)
    × (IsReady l.merger
    × (lent_operations l.yielded ++ map operation_meant (left_operations l.operation-iterator) ≡ operations (document_meant l.fn.document))))))
