use Rattle.std.proofs.Common.{◌≡◌, ℕ, ◌+◌, drop, sym, subst}
use Rattle.read_tokens.specs.Bytes.{run_len}
use Rattle.read_tokens.specs.Strings.{part_len}
use Rattle.read_tokens.proofs.Found.{plain_parts}
use Rattle.read_tokens.proofs.string_token.plain_parts_len.Goals as goal

pub returns-clause-run : goal.returns-clause-run
returns-clause-run c = let bytes = c.args.bytes.now in subst (λ (n : ℕ). run_len part_len 0 bytes ≡ n + run_len part_len 0 (drop n bytes)) (sym c.count_plain_parts.ensures.count) (plain_parts bytes)
