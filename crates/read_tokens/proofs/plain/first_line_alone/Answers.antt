use Rattle.std.proofs.Common.{◌≡◌, ℕ, true, List, drop, sym, ap, ◌∙◌}
use Rattle.std.specs.List.{list_all}
use Rattle.read_tokens.specs.PlainTexts.{is_space}
use Rattle.read_tokens.proofs.PlainTexts.{first_piece}
use Rattle.read_tokens.proofs.plain.first_line_alone.Goals as goal

pub returns-then-is_space_alone : goal.returns-then-is_space_alone
returns-then-is_space_alone c =
    let raw : List ℕ = c.args.raw.now in
    let length : ℕ = c.args.length in
    let following : c.split_at.result.1.now ≡ drop length raw = c.split_at.ensures.back ∙ ap (drop length) c.as_bytes.ensures.value in
    let alone : list_all is_space (drop length raw) ≡ true = ap (list_all is_space) (sym following) ∙ sym c.is_space_alone.ensures ∙ c.if-is_space_alone.true in
    first_piece raw length c.requires.length c.requires.full alone c.utf8.raw
