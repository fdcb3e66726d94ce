use Rattle.std.proofs.Common.{◌++◌, map, ap, ◌∙◌}
use Rattle.schema_fold.specs.FaultView.{faults_of}
use Rattle.graphql_rules.specs.in_faults.DetailsTree.{of_folding}
use Rattle.checker_schemas.proofs.build_errors.schema_errors.Goals as goal

pub returns : goal.returns
returns c = c.in_ok-append_schema_errors.ensures.added ∙ ap (λ l. l ++ map of_folding (faults_of c.args.errors)) c.new-list.ensures
