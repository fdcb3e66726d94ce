-- Two places are put together in one way.
use Rattle.std.proofs.Common.{◌≡◌, ℕ, ◌+◌, ◌^◌, ◌<◌, ◌≤◌, ◌⊎◌, refl, sym, ap, ◌∙◌, inl, inr, None, Some, zero, suc, arith}
use Rattle.std.proofs.Props.{props}
use mathlib.Core.HLevel.{is_prop→PathP}
use Rattle.graphql_names.specs.Placed.{Place}
use Rattle.graphql_names.specs.Places.{span_end, RecomposesBoth, Recomposes}
use Rattle.graphql_names.specs.declared.span.FileId.{FileId}
use Rattle.graphql_names.specs.declared.span.SourceSpan.{SourceSpan}

decide : (a b : ℕ) → (a ≡ b) ⊎ (a ≡ b → ⊥)
decide zero zero = inl refl
decide zero (suc b) = inr (λ e. omega (arith, e))
decide (suc a) zero = inr (λ e. omega (arith, e))
decide (suc a) (suc b) = elim (decide a b) [ inl e ↦ inl (ap suc e) | inr n ↦ inr (λ e. n (omega (arith, e))) ]

compare : (a b : ℕ) → (a < b) ⊎ (b ≤ a)
compare a zero = inr (omega arith)
compare zero (suc b) = inl (omega arith)
compare (suc a) (suc b) = elim (compare a b) [ inl h ↦ inl (omega (arith, h)) | inr h ↦ inr (omega (arith, h)) ]

abbrev file_of : ℕ → FileId
file_of n = record { 0 = n }

same_file : (a b : FileId) → a.0 ≡ b.0 → a ≡ b
same_file a b e = ap file_of e

same_span : (a b : SourceSpan) → a.file_id ≡ b.file_id → a.offset ≡ b.offset → a.length ≡ b.length → a ≡ b
same_span a b file offset length = λ i. record {
  file_id = file i;
  offset = offset i;
  length = length i;
  fits = is_prop→PathP (λ j. offset j + length j < 2 ^ 64) (λ j. hlevel props) a.fits b.fits i;
}

both_one_way : (start end x y : SourceSpan) → RecomposesBoth start end x → RecomposesBoth start end y → x ≡ y
both_one_way start end x y a b = elim (decide start.file_id.0 end.file_id.0) [
  | inr n ↦ let other : start.file_id ≡ end.file_id → ⊥ = λ e. n (ap (λ (f : FileId). f.0) e) in a.other_file other ∙ sym (b.other_file other)
  | inl e ↦
      let same = same_file start.file_id end.file_id e in
      elim (compare (span_end end) start.offset) [
        | inl h ↦ a.before same h ∙ sym (b.before same h)
        | inr h ↦
            let p = a.reaches same h in
            let q = b.reaches same h in
            let begins : x.offset ≡ y.offset = p.begins ∙ sym q.begins in
            let ends : x.offset + x.length ≡ y.offset + y.length = p.ends ∙ sym q.ends in
            let length : x.length ≡ y.length = omega (arith, begins, ends) in
            same_span x y (p.file ∙ sym q.file) begins length
      ]
]

pub one_way : (start end x y : Place) → Recomposes start end x → Recomposes start end y → x ≡ y
one_way None end x y a b = a ∙ sym b
one_way (Some start) None x y a b = a ∙ sym b
one_way (Some start) (Some end) None y a b = absurd a
one_way (Some start) (Some end) (Some x) None a b = absurd b
one_way (Some start) (Some end) (Some x) (Some y) a b = ap Some (both_one_way start end x y a b)
