use Rattle.std.proofs.Common.{◌≡◌, ◌+◌, length}
use Rattle.read_tokens.specs.Bytes.{run_len}
use Rattle.read_tokens.specs.Blocks.{block_character_len}
use Rattle.read_tokens.proofs.string_token.block_characters_len.Given as goal

abbrev pub invariant-characters : goal.invariant-characters
invariant-characters l = record {
  same : l.length + run_len block_character_len 0 l.rest ≡ run_len block_character_len 0 l.fn.bytes;
  fits : l.length + length l.rest ≡ length l.fn.bytes;
}

abbrev pub decreases-characters : goal.decreases-characters
decreases-characters l = length l.rest
