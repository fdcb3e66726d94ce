-- A span that code makes is the place that the grammar means.
use Rattle.std.proofs.Common.{◌≡◌, ℕ, ◌+◌, ◌-◌, ◌<◌, ◌^◌, Bool, true, false, Some, refl, ap, arith}
use Rattle.std.proofs.lemmas.Bool.{lt-ltb, ltb-true}
use Rattle.std.proofs.Props.{props}
use Rattle.std.specs.Prelude.{ltb}
use mathlib.Core.HLevel.{is_prop→PathP}
use Rattle.graphql_names.specs.declared.span.FileId.{FileId}
use Rattle.graphql_names.specs.declared.span.SourceSpan.{SourceSpan}
use Rattle.read_grammar.specs.Places.{place_if, place_in}

same_span : (s t : SourceSpan) → s.file_id ≡ t.file_id → s.offset ≡ t.offset → s.length ≡ t.length → s ≡ t
same_span s t file offset long = λ i. record {
  file_id = file i;
  offset = offset i;
  length = long i;
  fits = is_prop→PathP (λ j. offset j + long j < 2 ^ 64) (λ j. hlevel props) s.fits t.fits i;
}

abbrev number : ℕ → FileId
number n = record { 0 = n }

place_if_is : (file begin long : ℕ) (b : Bool) (e : ltb (begin + long) (2 ^ 64) ≡ b) → b ≡ true → (s : SourceSpan) → s.file_id ≡ number file → s.offset ≡ begin → s.length ≡ long → Some s ≡ place_if file begin long b e
place_if_is file begin long true e is s f o l = ap (λ (x : SourceSpan). Some x) (same_span s (record { file_id = number file; offset = begin; length = long; fits = ltb-true (begin + long) (2 ^ 64) e }) f o l)
place_if_is file begin long false e is s f o l = absurd cc

pub place_is : (file begin end : ℕ) (s : SourceSpan) → s.file_id ≡ number file → s.offset ≡ begin → s.length ≡ end - begin → Some s ≡ place_in file begin end
unfolding place_in
place_is file begin end s f o l =
    let fits = s.fits in
    let below : begin + (end - begin) < 2 ^ 64 = omega arith in
    place_if_is file begin (end - begin) _ refl (lt-ltb (begin + (end - begin)) (2 ^ 64) below) s f o l
