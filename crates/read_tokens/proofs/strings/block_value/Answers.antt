use Rattle.std.proofs.Common.{◌≡◌, ℕ, false, ◌==◌, List, sym, ap, ◌∙◌, subst, IfOk}
use Rattle.std.specs.List.{list_any}
use Rattle.std.specs.String.{string_bytes}
use Rattle.read_tokens.specs.Bytes.{replaced}
use Rattle.read_tokens.specs.Blocks.{block_character_at, raw_value, block_value, block_string_value}
use Rattle.read_tokens.proofs.Values.{all_kept}
use Rattle.read_tokens.proofs.strings.block_value.Goals as goal

pub returns : goal.returns
unfolding block_value raw_value
returns c =
    let text : List ℕ = c.between-text.result.now in
    let none : list_any (λ b. b == 92) text ≡ false =
    ap (list_any (λ b. b == 92)) (sym c.as_bytes.ensures.value) ∙ sym c.has.ensures ∙ c.if-has.false in
    let raw = sym (all_kept text none) ∙ ap (replaced block_character_at 0) c.between-text.ensures in
    subst (λ (bytes : List ℕ). IfOk c.value_of_raw-2.result (λ value. string_bytes value ≡ block_string_value bytes)) raw c.value_of_raw-2.ensures
