use Rattle.std.proofs.Common.{◌≡◌, ◌⊎◌, true, [], ◌∷◌, ◌++◌, length}
use denote.Text.{Utf8}
use denote.Shadow.{shadow}
use Rattle.std.specs.String.{string_bytes}
use Rattle.read_tokens.specs.Bytes.{begins_with, replaced}
use Rattle.read_tokens.specs.Strings.{part_at}
use Rattle.read_tokens.proofs.value.push_parts.Given as goal

abbrev pub invariant-parts : goal.invariant-parts
invariant-parts l = record {
  text : shadow (Utf8 l.rest);
  so_far : string_bytes l.out ++ replaced part_at 0 l.rest ≡ string_bytes l.fn.out ++ replaced part_at 0 l.fn.text;
  begins : (l.rest ≡ []) ⊎ (begins_with (92 ∷ []) l.rest ≡ true);
}

abbrev pub decreases-parts : goal.decreases-parts
decreases-parts l = length l.rest
