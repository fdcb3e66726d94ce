use Rattle.graphql_rules.specs.in_faults.DetailsView.{diagnostics_of}
use Rattle.checker_calls.specs.in_schema.BuilderOf.{builder_value}
use Rattle.checker_calls.specs.in_schema.SchemaOf.{schema_tree}
use Rattle.checker_schemas.proofs.Building.{folding_refused}
use Rattle.checker_schemas.proofs.finish.built.Goals as goal

pub returns-then-not-is_empty-clause-refused : goal.returns-then-not-is_empty-clause-refused
returns-then-not-is_empty-clause-refused c =
    folding_refused (builder_value c.args.builder) (schema_tree c.in_ok-schema.schema) (diagnostics_of c.in_ok-schema.faults) c.in_ok-schema.ensures.builds (λ e. let h = c.if-not-is_empty.ensures.1 e in absurd cc)
