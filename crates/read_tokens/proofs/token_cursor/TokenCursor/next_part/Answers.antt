use Rattle.std.proofs.Common.{◌≡◌, ℕ, List, IfOk, take, drop, sym, ap, ◌∙◌, subst}
use Rattle.graphql_names.specs.TextPart.{part_bytes}
use Rattle.read_tokens.specs.Input.{Input}
use Rattle.read_tokens.specs.Cursor.{text_of}
use Rattle.read_tokens.proofs.Rests.{skip_text, skip_none}
use Rattle.read_tokens.proofs.token_cursor.TokenCursor.next_part.Goals as goal

pub returns-in-None : goal.returns-in-None
returns-in-None c =
    let text = (skip_none c.self.inside.text.now c.self.inside.at c.self.inside.last c.self.invariant.begins (sym c.self.invariant.token ∙ c.in-None.is)).0
    ∙ ap (λ (i : Input). text_of i.ahead) c.self.view_is in
    subst (λ (bytes : List ℕ). IfOk c.end_part.result (λ part. part_bytes part ≡ bytes)) text c.end_part.ensures

pub returns-in-Some : goal.returns-in-Some
returns-in-Some c =
    let text = ap (λ (bytes : List ℕ). take c.in-Some.length (drop c.self.inside.at bytes)) c.self.invariant.shared
    ∙ skip_text c.self.inside.text.now c.self.inside.at c.self.inside.last _ c.self.invariant.begins (sym c.self.invariant.token ∙ c.in-Some.is)
    ∙ ap (λ (i : Input). text_of i.ahead) c.self.view_is in
    subst (λ (bytes : List ℕ). IfOk c.token_part.result (λ part. part_bytes part ≡ bytes)) text c.token_part.ensures
