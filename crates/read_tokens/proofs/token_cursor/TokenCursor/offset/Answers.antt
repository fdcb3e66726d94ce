use Rattle.std.proofs.Common.{ap, ◌∙◌}
use Rattle.read_tokens.specs.Cursor.{next_offset}
use Rattle.read_tokens.proofs.Rests.{offset_is}
use Rattle.read_tokens.proofs.token_cursor.TokenCursor.offset.Goals as goal

pub returns : goal.returns
returns c =
    offset_is c.self.inside.text.now c.self.inside.at c.self.inside.last c.self.inside.next c.self.invariant.begins c.self.invariant.token
    ∙ ap (λ i. next_offset i) c.self.view_is
