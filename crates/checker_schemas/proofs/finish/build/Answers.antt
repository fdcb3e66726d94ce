use Rattle.schema_fold.specs.FaultView.{faults_of}
use Rattle.checker_calls.specs.in_schema.BuilderOf.{builder_value}
use Rattle.checker_calls.specs.in_schema.SchemaOf.{schema_tree}
use Rattle.checker_schemas.proofs.Building.{builds}
use Rattle.checker_schemas.proofs.finish.build.Goals as goal

pub returns-in_ok-schema_errors-in-Ok-clause-builds : goal.returns-in_ok-schema_errors-in-Ok-clause-builds
returns-in_ok-schema_errors-in-Ok-clause-builds c =
    builds (builder_value c.args.builder) (schema_tree c.in-Ok.schema) (faults_of c.in-Ok.errors) _
    c.in-Ok.ensures.schema c.in-Ok.ensures.faults c.in-Ok.ensures.faultless c.in_ok-schema_errors-in-Ok.ensures
