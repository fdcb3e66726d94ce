use Rattle.std.proofs.Common.{◌≡◌, ◌++◌, [], map}
use Rattle.fault_data.specs.FaultView.{faults_of}
use Rattle.rule_fragments.specs.in_schema.SchemaOf.{schema_tree}
use Rattle.document_typed_operations.specs.OperationsByName.{left_operations}
use Rattle.rule_fragments.specs.in_typed_operations.DocumentView.{document_meant, operation_meant}
use Rattle.rule_definitions.specs.Words.{AtSomeIndex}
use Rattle.rule_definitions.specs.Judged.{judged}
use Rattle.rule_document_definitions.specs.Reached.{AtOperation}
use Rattle.rule_document_definitions.specs.Selected.{operations}
use Rattle.rule_fragments.specs.Possible.{ArePossibleIfFound}
use Rattle.rule_fragments.specs.in_reach.NotedNames.{noted_names}
use Rattle.rule_fragments.specs.in_reach.Reach.{meant_fragments}
use Rattle.rule_fragments.specs.UnlessFull.{TellsUnlessFull}
use Rattle.rule_selections.specs.Settled.{MayReplaceInEach}
use Rattle.graphql_validation.specs.Operations.{OperationFails, AreReachesTyped, ReachesNamed, NotesNames}
use Rattle.rule_fragments.proofs.Operations.{lent_operations}
use Rattle.graphql_validation.proofs.Joined.{TellsOf}
use Rattle.graphql_validation.proofs.under_schema.check_operations.Given as goal

abbrev pub invariant-loop-operation : goal.invariant-loop-operation
invariant-loop-operation l = (MayReplaceInEach (schema_tree l.schema) (document_meant l.document) (meant_fragments l.fragments) → AreReachesTyped (schema_tree l.schema) (document_meant l.document) → ArePossibleIfFound (judged (schema_tree l.schema)) l.fn.possible
    → TellsUnlessFull (λ f. AtOperation (document_meant l.document) (λ o. OperationFails (document_meant l.document) o (schema_tree l.schema) f))
    (TellsOf (λ o. OperationFails (document_meant l.document) o (schema_tree l.schema)) (lent_operations l.yielded)) (faults_of l.found.faults))
    × (MayReplaceInEach (schema_tree l.schema) (document_meant l.document) (meant_fragments l.fragments) → NotesNames [] (noted_names l.found.used) (λ n. AtSomeIndex (lent_operations l.yielded) (λ k o. ReachesNamed (document_meant l.document) o n)))
    × (ArePossibleIfFound (judged (schema_tree l.schema)) l.fn.possible → ArePossibleIfFound (judged (schema_tree l.schema)) l.possible)
    × (lent_operations l.yielded ++ map operation_meant (left_operations l.operation-iterator) ≡ operations (document_meant l.document))
