use Rattle.std.proofs.Common.{◌≡◌, ◌⊎◌, true, [], ◌∷◌, ◌++◌, length}
use denote.Text.{Utf8}
use denote.Shadow.{shadow}
use Rattle.std.specs.String.{string_bytes}
use Rattle.read_tokens.specs.Bytes.{begins_with, replaced}
use Rattle.read_tokens.specs.Blocks.{block_character_at}
use Rattle.read_tokens.proofs.raw.raw_value.Given as goal

abbrev pub invariant-characters : goal.invariant-characters
invariant-characters l = record {
  text : shadow (Utf8 l.rest);
  so_far : string_bytes l.out ++ replaced block_character_at 0 l.rest ≡ replaced block_character_at 0 l.fn.text;
  begins : (l.rest ≡ []) ⊎ (begins_with (92 ∷ []) l.rest ≡ true);
}

abbrev pub decreases-characters : goal.decreases-characters
decreases-characters l = length l.rest
