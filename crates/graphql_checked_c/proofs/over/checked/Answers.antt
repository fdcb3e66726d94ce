use Rattle.std.proofs.Common.{◌≡◌, ℕ, List, [], subst}
use Rattle.graphql_checked_c.specs.CallResults.{IsYesOver, AnswersOver}
use Rattle.graphql_checked_c.proofs.over.checked.Goals as goal

pub returns : goal.returns
returns c =
    subst (λ (path : List ℕ). AnswersOver c.args.json (λ (bytes : List ℕ). IsYesOver c.args.held.now.schema c.args.document.now × (bytes ≡ [])) c.args.held.now path c.args.document.now c.checked_text.result.status c.checked_text.result.bytes.items)
    c.in-Ok.ensures.cases.0
    (subst (λ (text : List ℕ). AnswersOver c.args.json (λ (bytes : List ℕ). IsYesOver c.args.held.now.schema text × (bytes ≡ [])) c.args.held.now c.in-Ok.path.now text c.checked_text.result.status c.checked_text.result.bytes.items)
    c.in-Ok-from_utf8.ensures.cases.0 c.checked_text.ensures)
