-- What is told of has a place.
use Rattle.std.proofs.Common.{◌≡◌, ℕ, ◌+◌, ◌-◌, ◌^◌, ◌<◌, ◌≤◌, ◌⊎◌, refl, sym, ap, subst, inl, inr, None, Some, zero, suc, arith}
use Rattle.graphql_names.specs.Placed.{Place}
use Rattle.graphql_names.specs.Places.{span_end, RecomposesBoth, Recomposes}
use Rattle.graphql_names.specs.declared.span.FileId.{FileId}
use Rattle.graphql_names.specs.declared.span.SourceSpan.{SourceSpan}
use Rattle.rule_definitions.specs.in_schema_types.SchemaTree.{SchemaTree}
use Rattle.rule_definitions.specs.in_schema_types.Addresses.{DirectiveDefinitionAt, NameAt, place_at}
use Rattle.rule_definitions.specs.Spots.{Spot, At, HeadAt, ItemAt, KeyAt, EntryAt, spot_place, SpotIsAt}

decide : (a b : ℕ) → (a ≡ b) ⊎ (a ≡ b → ⊥)
decide zero zero = inl refl
decide zero (suc b) = inr (λ e. omega (arith, e))
decide (suc a) zero = inr (λ e. omega (arith, e))
decide (suc a) (suc b) = elim (decide a b) [ inl e ↦ inl (ap suc e) | inr n ↦ inr (λ e. n (omega (arith, e))) ]

compare : (a b : ℕ) → (a < b) ⊎ (b ≤ a)
compare a zero = inr (omega arith)
compare zero (suc b) = inl (omega arith)
compare (suc a) (suc b) = elim (compare a b) [ inl h ↦ inl (omega (arith, h)) | inr h ↦ inr (omega (arith, h)) ]

abbrev file_of : ℕ → FileId
file_of n = record { 0 = n }

same_file : (a b : FileId) → a.0 ≡ b.0 → a ≡ b
same_file a b e = ap file_of e

-- from where one begins to where the other ends
abbrev reaching : (start end : SourceSpan) → start.offset ≤ span_end end → SourceSpan
reaching start end h =
    let ends : start.offset + (span_end end - start.offset) ≡ end.offset + end.length = omega (arith, h) in
    record { file_id = start.file_id; offset = start.offset; length = span_end end - start.offset; fits = subst (λ n. n < 2 ^ 64) (sym ends) end.fits }

-- two places can be put together
together : (start end : SourceSpan) → (whole : SourceSpan) × RecomposesBoth start end whole
together start end = elim (decide start.file_id.0 end.file_id.0) [
  | inr n ↦ (end, record { other_file = λ h. refl; before = λ e. absurd (n (ap (λ f. f.0) e)); reaches = λ e. absurd (n (ap (λ f. f.0) e)) })
  | inl e ↦
      let same = same_file start.file_id end.file_id e in
      elim (compare (span_end end) start.offset) [
        | inl h ↦ (start, record { other_file = λ n. absurd (n same); before = λ a b. refl; reaches = λ a b. absurd (omega (arith, h, b)) })
        | inr h ↦ (
          reaching start end h,
          record { other_file = λ n. absurd (n same); before = λ a b. absurd (omega (arith, h, b)); reaches = λ a b. record { file = refl; begins = refl; ends = omega (arith, h) } },
        )
      ]
]

recomposed : (start end : Place) → (whole : Place) × Recomposes start end whole
recomposed None end = (end, refl)
recomposed (Some start) None = (Some start, refl)
recomposed (Some start) (Some end) = let t = together start end in (Some t.0, t.1)

-- each spot has a place
pub stands : (s : SchemaTree Place) (at : Spot) → (place : Place) × SpotIsAt s at place
stands s (At a) = (spot_place s (At a), refl)
stands s (HeadAt n) = recomposed (place_at s (DirectiveDefinitionAt n)) (place_at s (NameAt (DirectiveDefinitionAt n)))
stands s (ItemAt l i) = (spot_place s (ItemAt l i), refl)
stands s (KeyAt o i) = (spot_place s (KeyAt o i), refl)
stands s (EntryAt o i) = (spot_place s (EntryAt o i), refl)
