use Rattle.std.proofs.Common.{◌≡◌, ℕ, ◌+◌, drop, sym, subst}
use Rattle.read_tokens.specs.Bytes.{run_len}
use Rattle.read_tokens.specs.Tokens.{ignored_at}
use Rattle.read_tokens.proofs.Found.{ignored_bytes}
use Rattle.read_tokens.proofs.lex.ignored_bytes_len.Goals as goal

pub returns-clause-run : goal.returns-clause-run
returns-clause-run c = let bytes = c.args.bytes.now in subst (λ (n : ℕ). run_len ignored_at 0 bytes ≡ n + run_len ignored_at 0 (drop n bytes)) (sym c.count_ignored.ensures.count) (ignored_bytes bytes)
