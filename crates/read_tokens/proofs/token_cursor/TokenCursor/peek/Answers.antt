use Rattle.std.proofs.Common.{◌≡◌, ap, sym, ◌∙◌, Some, None}
use Rattle.read_tokens.specs.Input.{next}
use Rattle.read_tokens.proofs.Rests.{next_is, symbol_of}
use Rattle.read_tokens.proofs.token_cursor.TokenCursor.peek.Goals as goal

pub returns-in-None : goal.returns-in-None
returns-in-None c =
    let is = next_is c.self.inside.text.now c.self.inside.at c.self.inside.last c.self.inside.next c.self.invariant.begins c.self.invariant.token ∙ ap (λ i. next i) c.self.view_is in
    let none : symbol_of None ≡ symbol_of c.self.inside.next = ap symbol_of (sym c.in-None.is) in
    none ∙ is

pub returns-in-Some : goal.returns-in-Some
returns-in-Some c =
    let is = next_is c.self.inside.text.now c.self.inside.at c.self.inside.last c.self.inside.next c.self.invariant.begins c.self.invariant.token ∙ ap (λ i. next i) c.self.view_is in
    let some : symbol_of (Some (c.in-Some.terminal, c.in-Some.field-0-1)) ≡ symbol_of c.self.inside.next = ap symbol_of (sym c.in-Some.is) in
    some ∙ is
