use Rattle.checker_calls.specs.Layouts.{prefix_of}
use Rattle.graphql_checked_c.specs.declared.handle.Kept.{Kept}
use Rattle.graphql_checked_c.specs.CallResults.{IsDocumentText}
use Rattle.graphql_checked_c.proofs.Told.{document_told, report_told, held_encoding, not_prefix, held_status, held_prefixed, held_untold}
use Rattle.graphql_checked_c.proofs.schemas.graphql_proved_document_text.Goals as goal

pub returns-clause-written : goal.returns-clause-written
returns-clause-written c =
    document_told c.args.json (prefix_of c.in-Some.layout) c.args.lines c.args.prefix.now c.args.handle.now.value c.args.path.now c.args.document.now c.document_over-answer.result.status
    c.told.result c.document_over-answer.result.bytes.items c.args.room.now c.told.new.room c.told.new.needed c.document_over-answer.ensures.answer c.told.ensures.bytes c.told.ensures.status
    c.in-Some.ensures.layout

pub returns-clause-refused : goal.returns-clause-refused
returns-clause-refused c =
    report_told c.args.json (λ (k : Kept). IsDocumentText (prefix_of c.in-Some.layout) k.schema c.args.document.now) c.args.handle.now.value c.args.path.now c.args.document.now
    c.document_over-answer.result.status c.told.result c.document_over-answer.result.bytes.items c.args.room.now c.told.new.room c.told.new.needed
    c.document_over-answer.ensures.answer c.told.ensures.bytes c.told.ensures.status

pub returns-clause-encoding : goal.returns-clause-encoding
returns-clause-encoding c =
    held_encoding c.args.json (λ (k : Kept). IsDocumentText (prefix_of c.in-Some.layout) k.schema c.args.document.now) c.args.handle.now.value c.args.path.now c.args.document.now
    c.document_over-answer.result.status c.told.result c.document_over-answer.result.bytes.items c.args.room.now c.told.new.room c.told.new.needed
    c.document_over-answer.ensures.answer c.told.ensures.bytes c.told.ensures.status

pub returns-clause-prefix : goal.returns-clause-prefix
returns-clause-prefix c =
    not_prefix c.args.json (λ (k : Kept). IsDocumentText (prefix_of c.in-Some.layout) k.schema c.args.document.now) c.args.handle.now.value c.args.path.now c.args.document.now
    c.document_over-answer.result.status c.told.result c.document_over-answer.result.bytes.items c.args.room.now c.told.new.room c.told.new.needed
    c.document_over-answer.ensures.answer c.told.ensures.bytes c.told.ensures.status

pub returns-clause-status : goal.returns-clause-status
returns-clause-status c =
    held_status c.args.json (λ (k : Kept). IsDocumentText (prefix_of c.in-Some.layout) k.schema c.args.document.now) c.args.handle.now.value c.args.path.now c.args.document.now
    c.document_over-answer.result.status c.told.result c.document_over-answer.result.bytes.items c.args.room.now c.told.new.room c.told.new.needed
    c.document_over-answer.ensures.answer c.told.ensures.bytes c.told.ensures.status

pub returns-clause-untold : goal.returns-clause-untold
returns-clause-untold c =
    held_untold c.args.json (λ (k : Kept). IsDocumentText (prefix_of c.in-Some.layout) k.schema c.args.document.now) c.args.handle.now.value c.args.path.now c.args.document.now
    c.document_over-answer.result.status c.told.result c.document_over-answer.result.bytes.items c.args.room.now c.told.new.room c.told.new.needed
    c.document_over-answer.ensures.answer c.told.ensures.bytes c.told.ensures.status

pub returns-clause-complete : goal.returns-clause-complete
returns-clause-complete c =
    held_prefixed c.args.json (λ (k : Kept). IsDocumentText (prefix_of c.in-Some.layout) k.schema c.args.document.now) c.args.handle.now.value c.args.path.now c.args.document.now
    c.document_over-answer.result.status c.told.result c.document_over-answer.result.bytes.items c.args.room.now c.told.new.room c.told.new.needed
    c.document_over-answer.ensures.answer c.told.ensures.bytes c.told.ensures.status
