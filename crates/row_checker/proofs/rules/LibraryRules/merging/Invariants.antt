use Rattle.graphql_validation.specs.in_merging.Merger.{IsReady}
use Rattle.row_checker.proofs.rules.LibraryRules.merging.Given as goal

-- the selection sets that it has are those of its document
abbrev pub invariant-loop-operation : goal.invariant-loop-operation
invariant-loop-operation l = IsReady l.merging
