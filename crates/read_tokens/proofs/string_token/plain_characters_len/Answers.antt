use Rattle.std.proofs.Common.{◌≡◌, ℕ, ◌+◌, drop, sym, subst}
use Rattle.read_tokens.specs.Bytes.{run_len}
use Rattle.read_tokens.specs.Blocks.{block_character_len}
use Rattle.read_tokens.proofs.Found.{plain_characters}
use Rattle.read_tokens.proofs.string_token.plain_characters_len.Goals as goal

pub returns-clause-run : goal.returns-clause-run
returns-clause-run c = let bytes = c.args.bytes.now in subst (λ (n : ℕ). run_len block_character_len 0 bytes ≡ n + run_len block_character_len 0 (drop n bytes)) (sym c.len_before_two.ensures.count) (plain_characters bytes)
