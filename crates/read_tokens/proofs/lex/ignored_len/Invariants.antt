use Rattle.std.proofs.Common.{◌≡◌, ◌+◌, length}
use Rattle.read_tokens.specs.Bytes.{run_len}
use Rattle.read_tokens.specs.Tokens.{ignored_at}
use Rattle.read_tokens.proofs.lex.ignored_len.Given as goal

abbrev pub invariant-pieces : goal.invariant-pieces
invariant-pieces l = record {
  same : l.length + run_len ignored_at 0 l.rest ≡ run_len ignored_at 0 l.fn.bytes;
  fits : l.length + length l.rest ≡ length l.fn.bytes;
}

abbrev pub decreases-pieces : goal.decreases-pieces
decreases-pieces l = length l.rest
