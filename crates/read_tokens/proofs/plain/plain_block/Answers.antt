use Rattle.std.proofs.Common.{◌≡◌, ℕ, false, ◌==◌, List, sym, ap, ◌∙◌, subst}
use Rattle.std.specs.List.{list_any}
use Rattle.read_tokens.specs.Bytes.{between}
use Rattle.read_tokens.specs.Blocks.{block_string_value}
use Rattle.read_tokens.specs.PlainTexts.{IsPiece}
use Rattle.read_tokens.proofs.Forms.{three_marks}
use Rattle.read_tokens.proofs.PlainTexts.{block_piece}
use Rattle.read_tokens.proofs.plain.plain_block.Goals as goal

pub returns : goal.returns
returns c =
    let token : List ℕ = c.args.token.now in
    let none : list_any (λ b. b == 92) (between 3 token) ≡ false =
    ap (list_any (λ b. b == 92)) (sym (c.as_bytes.ensures.value ∙ c.between-text.ensures)) ∙ sym c.has.ensures ∙ c.if-has.false in
    let piece : IsPiece (between 3 token) c.in_ok-start.start c.in_ok-start.end (block_string_value (between 3 token)) =
    subst (λ (raw : List ℕ). IsPiece raw c.in_ok-start.start c.in_ok-start.end (block_string_value raw)) c.between-text.ensures c.in_ok-start.ensures in
    block_piece token c.in_ok-start.start c.in_ok-start.end (three_marks token c.requires) none piece
