use Rattle.checker_calls.specs.Layouts.{prefix_of}
use Rattle.graphql_checked_c.specs.CallResults.{IsDocumentText}
use Rattle.graphql_checked_c.proofs.Answers.{over_written, over_refused}
use Rattle.graphql_checked_c.proofs.over.text_of_document.Goals as goal

pub returns-in-Ok : goal.returns-in-Ok
returns-in-Ok c =
    over_written c.args.json (prefix_of c.args.layout) c.args.held.now c.args.path.now c.args.text.now c.in-Ok.checked c.written_document.result.status c.written_document.result.bytes.items
    c.in-Ok.ensures.schema c.in-Ok.ensures.text c.in-Ok.ensures.accepted c.written_document.ensures

pub returns-in-Err : goal.returns-in-Err
returns-in-Err c =
    over_refused c.args.json (IsDocumentText (prefix_of c.args.layout) c.args.held.now.schema c.args.text.now) c.args.held.now c.args.path.now c.args.text.now
    c.document_refused.result.status c.document_refused.result.bytes.items c.in-Err.refusal c.in-Err.ensures.refused c.in-Err.ensures.complete c.document_refused.ensures
