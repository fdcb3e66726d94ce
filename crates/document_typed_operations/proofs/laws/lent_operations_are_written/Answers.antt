use Rattle.document_typed_operations.proofs.OperationMaps.{said-where-lent}
use Rattle.document_typed_operations.proofs.laws.lent_operations_are_written.Goals as goal

pub returns-in-Some-clause-written : goal.returns-in-Some-clause-written
returns-in-Some-clause-written c = said-where-lent c.get_mut.result _ _ c.in-Some.is (c.get_mut.follows.holds c.args.operation)
