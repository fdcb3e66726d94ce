use Rattle.std.proofs.Common.{◌≡◌, ◌++◌, map}
use Rattle.rule_document_definitions.specs.Defer.{DeferBreaks}
use Rattle.document_typed_operations.specs.OperationsByName.{left_operations}
use Rattle.rule_selection_queries.specs.in_reach.in_typed_operations.DocumentView.{document_meant, operation_meant}
use Rattle.rule_document_definitions.specs.Selected.{operations}
use Rattle.rule_selection_queries.specs.in_reach.Broken.{brokens_of}
use Rattle.rule_fragments.specs.Documents.{SomeDeferBreaks}
use Rattle.rule_fragments.specs.UnlessFull.{AddsUnlessFull}
use Rattle.rule_fragments.proofs.Operations.{lent_operations}
use Rattle.rule_fragments.proofs.UnlessFull.{TellsEach}
use Rattle.rule_fragments.proofs.documents.check_defers.Given as goal

abbrev pub invariant-loop-operation : goal.invariant-loop-operation
invariant-loop-operation l = AddsUnlessFull (brokens_of l.fn.breaches) (brokens_of l.breaches) (SomeDeferBreaks (document_meant l.fn.document)) (TellsEach (DeferBreaks (document_meant l.fn.document)) (λ o f g. f ≡ g) (lent_operations l.yielded))
    × (lent_operations l.yielded ++ map operation_meant (left_operations l.operation-iterator) ≡ operations (document_meant l.fn.document))
