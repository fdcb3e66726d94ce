use Rattle.checker_calls.specs.Layouts.{prefix_of}
use Rattle.graphql_checked_c.proofs.Told.{schema_told, schema_prefixed, schema_status, schema_untold}
use Rattle.graphql_checked_c.proofs.schemas.graphql_proved_schema_text.Goals as goal

pub returns-clause-written : goal.returns-clause-written
returns-clause-written c =
    schema_told (prefix_of c.in-Some.layout) c.args.lines c.args.prefix.now c.args.handle.now.value c.schema_over-answer.result.status c.told.result c.schema_over-answer.result.bytes.items
    c.args.room.now c.told.new.room c.told.new.needed c.schema_over-answer.ensures.answer c.told.ensures.bytes c.told.ensures.status c.in-Some.ensures.layout

pub returns-clause-prefix : goal.returns-clause-prefix
returns-clause-prefix c =
    schema_prefixed (prefix_of c.in-Some.layout) c.args.lines c.args.prefix.now c.args.handle.now.value c.schema_over-answer.result.status c.told.result c.schema_over-answer.result.bytes.items
    c.args.room.now c.told.new.room c.told.new.needed c.schema_over-answer.ensures.answer c.told.ensures.bytes c.told.ensures.status

pub returns-clause-status : goal.returns-clause-status
returns-clause-status c =
    schema_status (prefix_of c.in-Some.layout) c.args.lines c.args.prefix.now c.args.handle.now.value c.schema_over-answer.result.status c.told.result c.schema_over-answer.result.bytes.items
    c.args.room.now c.told.new.room c.told.new.needed c.schema_over-answer.ensures.answer c.told.ensures.bytes c.told.ensures.status

pub returns-clause-untold : goal.returns-clause-untold
returns-clause-untold c =
    schema_untold (prefix_of c.in-Some.layout) c.args.lines c.args.prefix.now c.args.handle.now.value c.schema_over-answer.result.status c.told.result c.schema_over-answer.result.bytes.items
    c.args.room.now c.told.new.room c.told.new.needed c.schema_over-answer.ensures.answer c.told.ensures.bytes c.told.ensures.status
