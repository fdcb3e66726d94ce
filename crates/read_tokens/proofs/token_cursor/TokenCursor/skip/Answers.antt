use Rattle.std.proofs.Common.{ℕ, List, ◌+◌, sym, ap, ◌∙◌, subst}
use Rattle.read_tokens.specs.Input.{Input, next}
use Rattle.read_tokens.specs.Cursor.{input_from, text_of, skipped}
use Rattle.read_tokens.specs.Forms.{FormOf}
use Rattle.read_tokens.proofs.Rests.{skip_text, skip_after, skip_none, HasForm, first_form}
use Rattle.read_tokens.proofs.token_cursor.TokenCursor.skip.Goals as goal

pub returns-in_default-clause-text : goal.returns-in_default-clause-text
returns-in_default-clause-text c =
    (skip_none c.self.inside.text.now c.self.inside.at c.self.inside.last c.self.invariant.begins (sym c.self.invariant.token ∙ c.in_default.is)).0
    ∙ ap (λ (i : Input). text_of i.ahead) c.self.view_is

pub returns-clause-text : goal.returns-clause-text
returns-clause-text c =
    c.token_text-token.ensures
    ∙ skip_text c.self.inside.text.now c.self.inside.at c.self.inside.last _ c.self.invariant.begins (sym c.self.invariant.token ∙ c.in-Some.is)
    ∙ ap (λ (i : Input). text_of i.ahead) c.self.view_is

pub returns-clause-following : goal.returns-clause-following
returns-clause-following c =
    ap (λ (n : ℕ). input_from (c.self.inside.at + c.in-Some.length) n c.self.inside.text.now) c.past_ignored-at.ensures.place
    ∙ skip_after c.self.inside.text.now c.self.inside.at c.self.inside.last _ c.self.invariant.begins (sym c.self.invariant.token ∙ c.in-Some.is)
    ∙ ap skipped c.self.view_is

pub returns-in_default-clause-form : goal.returns-in_default-clause-form
returns-in_default-clause-form c =
    let text = (skip_none c.self.inside.text.now c.self.inside.at c.self.inside.last c.self.invariant.begins (sym c.self.invariant.token ∙ c.in_default.is)).0
    ∙ ap (λ (i : Input). text_of i.ahead) c.self.view_is in
    subst (λ (bytes : List ℕ). FormOf (next c.args.self.now) bytes) (sym text)
    (subst HasForm c.self.view_is (first_form c.self.inside.text.now c.self.inside.at c.self.inside.last c.self.invariant.begins))

pub returns-clause-form : goal.returns-clause-form
returns-clause-form c =
    let text = c.token_text-token.ensures
    ∙ skip_text c.self.inside.text.now c.self.inside.at c.self.inside.last _ c.self.invariant.begins (sym c.self.invariant.token ∙ c.in-Some.is)
    ∙ ap (λ (i : Input). text_of i.ahead) c.self.view_is in
    subst (λ (bytes : List ℕ). FormOf (next c.args.self.now) bytes) (sym text)
    (subst HasForm c.self.view_is (first_form c.self.inside.text.now c.self.inside.at c.self.inside.last c.self.invariant.begins))
