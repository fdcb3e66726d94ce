use Rattle.graphql_checked_c.proofs.Told.{opened_holds}
use Rattle.graphql_checked_c.proofs.schemas.graphql_proved_schema_open.Goals as goal

pub returns-in-Ok-clause-opened : goal.returns-in-Ok-clause-opened
returns-in-Ok-clause-opened c =
    opened_holds c.args.nesting c.args.names.now c.args.name_ends.now c.args.texts.now c.args.ends.now c.in-Ok.held c.kept.new.handle.value c.kept.result c.in-Ok.ensures.kept c.kept.ensures
