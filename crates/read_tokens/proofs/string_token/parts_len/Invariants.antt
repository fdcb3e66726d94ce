use Rattle.std.proofs.Common.{◌≡◌, ◌+◌, length}
use Rattle.read_tokens.specs.Bytes.{run_len}
use Rattle.read_tokens.specs.Strings.{part_len}
use Rattle.read_tokens.proofs.string_token.parts_len.Given as goal

abbrev pub invariant-parts : goal.invariant-parts
invariant-parts l = record {
  same : l.length + run_len part_len 0 l.rest ≡ run_len part_len 0 l.fn.bytes;
  fits : l.length + length l.rest ≡ length l.fn.bytes;
}

abbrev pub decreases-parts : goal.decreases-parts
decreases-parts l = length l.rest
