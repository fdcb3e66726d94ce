use Rattle.graphql_schema.specs.SchemaOf.{schema_tree}
use Rattle.graphql_report.proofs.Warning.{schema_report}
use Rattle.graphql_report.proofs.report.Report.of_schema_warnings.Goals as goal

pub returns : goal.returns
returns c = schema_report c.args.sources.now c.args.path.now (schema_tree c.args.schema.now) c.in_ok-found.found c.in_ok-report.report c.in_ok-found.ensures c.in_ok-report.ensures
