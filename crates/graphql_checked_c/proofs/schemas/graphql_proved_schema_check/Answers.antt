use Rattle.graphql_checked_c.specs.CallResults.{IsYesAlone}
use Rattle.graphql_checked_c.proofs.Told.{check_yes, report_told, held_encoding, held_status, held_complete, check_untold}
use Rattle.graphql_checked_c.proofs.schemas.graphql_proved_schema_check.Goals as goal

pub returns-clause-accepted : goal.returns-clause-accepted
returns-clause-accepted c =
    check_yes c.args.json c.args.handle.now.value c.args.path.now c.args.document.now c.checked_over-answer.result.status c.told.result c.checked_over-answer.result.bytes.items c.args.room.now
    c.told.new.room c.told.new.needed c.checked_over-answer.ensures.answer c.told.ensures.bytes c.told.ensures.status

pub returns-clause-refused : goal.returns-clause-refused
returns-clause-refused c =
    report_told c.args.json (IsYesAlone c.args.document.now) c.args.handle.now.value c.args.path.now c.args.document.now c.checked_over-answer.result.status c.told.result
    c.checked_over-answer.result.bytes.items c.args.room.now c.told.new.room c.told.new.needed c.checked_over-answer.ensures.answer c.told.ensures.bytes c.told.ensures.status

pub returns-clause-encoding : goal.returns-clause-encoding
returns-clause-encoding c =
    held_encoding c.args.json (IsYesAlone c.args.document.now) c.args.handle.now.value c.args.path.now c.args.document.now c.checked_over-answer.result.status c.told.result
    c.checked_over-answer.result.bytes.items c.args.room.now c.told.new.room c.told.new.needed c.checked_over-answer.ensures.answer c.told.ensures.bytes c.told.ensures.status

pub returns-clause-status : goal.returns-clause-status
returns-clause-status c =
    held_status c.args.json (IsYesAlone c.args.document.now) c.args.handle.now.value c.args.path.now c.args.document.now c.checked_over-answer.result.status c.told.result
    c.checked_over-answer.result.bytes.items c.args.room.now c.told.new.room c.told.new.needed c.checked_over-answer.ensures.answer c.told.ensures.bytes c.told.ensures.status

pub returns-clause-complete : goal.returns-clause-complete
returns-clause-complete c =
    held_complete c.args.json (IsYesAlone c.args.document.now) c.args.handle.now.value c.args.path.now c.args.document.now c.checked_over-answer.result.status c.told.result
    c.checked_over-answer.result.bytes.items c.args.room.now c.told.new.room c.told.new.needed c.checked_over-answer.ensures.answer c.told.ensures.bytes c.told.ensures.status

pub returns-clause-untold : goal.returns-clause-untold
returns-clause-untold c =
    check_untold c.args.json c.args.handle.now.value c.args.path.now c.args.document.now c.checked_over-answer.result.status c.told.result c.checked_over-answer.result.bytes.items c.args.room.now
    c.told.new.room c.told.new.needed c.checked_over-answer.ensures.answer c.told.ensures.bytes c.told.ensures.status
