use Rattle.std.proofs.Common.{◌≡◌, ℕ, drop, take, length, sym, ◌∙◌, subst, Some}
use Rattle.read_tokens.specs.Tokens.{token_at}
use Rattle.read_tokens.proofs.Ends.{goes_on_after}
use Rattle.read_tokens.proofs.Rests.{nothing_there, token_is}
use Rattle.read_tokens.proofs.next.next_token.Goals as goal

pub returns-in_default-clause-starts : goal.returns-in_default-clause-starts
returns-in_default-clause-starts c = nothing_there c.args.text.now c.args.offset c.past_ignored-at.result c.past_ignored-at.ensures.place c.past_ignored-at.ensures.within c.if-at-text.false (sym c.token_from.ensures ∙ c.in_default.is)

pub returns-clause-starts : goal.returns-clause-starts
returns-clause-starts c =
    let token = c.token_text.result.now in
    let place = c.past_ignored-at.ensures.place in
    let is = token_is (drop c.past_ignored-at.result c.args.text.now) c.in-Some.kind c.in-Some.length token (sym c.token_from.ensures ∙ c.in-Some.is) c.token_text.ensures in
    let there = subst (λ (n : ℕ). (token_at (drop n c.args.text.now) ≡ Some (c.in-Some.kind, length token)) × (token ≡ take (length token) (drop n c.args.text.now))) place is in
    (there.0, there.1, place)

pub returns-clause-goes_on : goal.returns-clause-goes_on
returns-clause-goes_on c =
    let token = c.token_text.result.now in
    let is = token_is (drop c.past_ignored-at.result c.args.text.now) c.in-Some.kind c.in-Some.length token (sym c.token_from.ensures ∙ c.in-Some.is) c.token_text.ensures in
    goes_on_after c.args.text.now c.past_ignored-at.result (c.in-Some.kind, length token) is.0 c.utf8.text
