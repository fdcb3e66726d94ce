use Rattle.std.proofs.Common.{◌≡◌, ℕ, true, List, drop, sym, ap, ◌∙◌}
use Rattle.std.specs.List.{prefix_len, list_all}
use Rattle.read_tokens.specs.Tokens.{is_in_line}
use Rattle.read_tokens.specs.PlainTexts.{is_space}
use Rattle.read_tokens.proofs.PlainTexts.{later_piece}
use Rattle.read_tokens.proofs.plain.later_line_alone.Goals as goal

pub returns-then-is_space_alone : goal.returns-then-is_space_alone
returns-then-is_space_alone c =
    let raw : List ℕ = c.args.raw.now in
    let start : ℕ = c.space_len-start.result in
    let length : ℕ = c.line_len-length.result in
    let rest : c.split_at.result.1.now ≡ drop start raw = c.split_at.ensures.back ∙ ap (drop start) c.as_bytes-2.ensures.value in
    let following : c.split_at-2.result.1.now ≡ drop length (drop start raw) = c.split_at-2.ensures.back ∙ ap (drop length) rest in
    let alone : list_all is_space (drop length (drop start raw)) ≡ true = ap (list_all is_space) (sym following) ∙ sym c.is_space_alone.ensures ∙ c.if-is_space_alone.true in
    later_piece raw start length (c.space_len-start.ensures.count ∙ ap (prefix_len is_space) c.as_bytes.ensures.value)
    (c.line_len-length.ensures.count ∙ ap (prefix_len is_in_line) rest) c.if-start-raw.true c.requires alone c.utf8.raw
