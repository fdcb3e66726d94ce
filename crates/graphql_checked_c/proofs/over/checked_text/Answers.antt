use Rattle.std.proofs.Common.{◌≡◌, ℕ, List, []}
use Rattle.graphql_checked.specs.CheckedView.{document_value}
use Rattle.graphql_checked_c.specs.CallResults.{IsYesOver}
use Rattle.graphql_checked_c.proofs.Answers.{over_yes, over_refused}
use Rattle.graphql_checked_c.proofs.over.checked_text.Goals as goal

pub returns-in-Ok : goal.returns-in-Ok
returns-in-Ok c =
    over_yes c.args.json c.args.held.now c.args.path.now c.args.text.now (document_value c.in-Ok.field-0).document c.bare.result.status c.bare.result.bytes.items
    c.in-Ok.ensures.accepted c.bare.ensures.status c.bare.ensures.bytes

pub returns : goal.returns
returns c =
    over_refused c.args.json (λ (bytes : List ℕ). IsYesOver c.args.held.now.schema c.args.text.now × (bytes ≡ [])) c.args.held.now c.args.path.now c.args.text.now
    c.document_refused.result.status c.document_refused.result.bytes.items c.in-Err.refusal c.in-Err.ensures.refused c.in-Err.ensures.complete c.document_refused.ensures
