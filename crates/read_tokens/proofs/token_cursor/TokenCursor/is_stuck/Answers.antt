use Rattle.std.proofs.Common.{ap, sym, ◌∙◌, ◌&&◌, length, nat_lt}
use Rattle.read_tokens.specs.Cursor.{is_stuck}
use Rattle.read_tokens.proofs.Rests.{stuck_is, has_none_is}
use Rattle.read_tokens.proofs.token_cursor.TokenCursor.is_stuck.Goals as goal

pub returns-then-is_none : goal.returns-then-is_none
returns-then-is_none c =
    let is = stuck_is c.self.inside.text.now c.self.inside.at c.self.inside.last c.self.inside.next c.self.invariant.begins c.self.invariant.token ∙ ap (λ i. is_stuck i) c.self.view_is in
    sym (ap (λ t. t && nat_lt c.self.inside.at (length c.self.inside.text.now)) (has_none_is c.self.inside.next c.is_none.result c.is_none.ensures ∙ c.if-is_none.true)) ∙ is

pub returns-else-is_none : goal.returns-else-is_none
returns-else-is_none c =
    let is = stuck_is c.self.inside.text.now c.self.inside.at c.self.inside.last c.self.inside.next c.self.invariant.begins c.self.invariant.token ∙ ap (λ i. is_stuck i) c.self.view_is in
    c.if-is_none.false ∙ sym (ap (λ t. t && nat_lt c.self.inside.at (length c.self.inside.text.now)) (has_none_is c.self.inside.next c.is_none.result c.is_none.ensures ∙ c.if-is_none.false)) ∙ is
