use Rattle.std.proofs.Common.{◌≡◌, ◌++◌, [], map}
use Rattle.fault_data.specs.FaultView.{faults_of}
use Rattle.document_typed_operations.specs.OperationsByName.{left_operations}
use Rattle.rule_fragments.specs.in_typed_operations.DocumentView.{document_meant, operation_meant}
use Rattle.rule_definitions.specs.Words.{AtSomeIndex}
use Rattle.rule_document_definitions.specs.Reached.{AtOperation}
use Rattle.rule_document_definitions.specs.Selected.{operations}
use Rattle.rule_fragments.specs.in_reach.NotedNames.{noted_names}
use Rattle.rule_fragments.specs.UnlessFull.{TellsUnlessFull}
use Rattle.graphql_validation.specs.Operations.{OperationFailsAlone, ReachesNamed, NotesNames}
use Rattle.rule_fragments.proofs.Operations.{lent_operations}
use Rattle.graphql_validation.proofs.Joined.{TellsOf}
use Rattle.graphql_validation.proofs.alone.check_operations.Given as goal

abbrev pub invariant-loop-operation : goal.invariant-loop-operation
invariant-loop-operation l = TellsUnlessFull (λ f. AtOperation (document_meant l.document) (λ o. OperationFailsAlone (document_meant l.document) o f))
    (TellsOf (OperationFailsAlone (document_meant l.document)) (lent_operations l.yielded)) (faults_of l.found.faults)
    × (NotesNames [] (noted_names l.found.used) (λ n. AtSomeIndex (lent_operations l.yielded) (λ k o. ReachesNamed (document_meant l.document) o n)))
    × (lent_operations l.yielded ++ map operation_meant (left_operations l.operation-iterator) ≡ operations (document_meant l.document))
