-- The order in which faults are told: those without a place first, then by text and by offset, and if these are the same, in the order in
-- which they were found.
use Rattle.std.specs.Prelude.{ℕ, suc, List, [], ◌∷◌, Option, None, Some}
use Rattle.std.specs.Ordering.{nat_cmp, ordering_then}
use Rattle.std.specs.Option.{option_cmp}
use Rattle.std.specs.List.Sorted.{IsPermutation, IsSorted}
use Rattle.std.specs.declared.cmp.Ordering.{Ordering}
use Rattle.graphql_names.specs.declared.span.SourceSpan.{SourceSpan}
use Rattle.report_forms.specs.declared.order.Rank.{Rank}

-- the rank of the fault with this index, which is at that place
abbrev pub rank_of : Option SourceSpan → ℕ → Rank
rank_of None told = record { place = None; told = told }
rank_of (Some span) told = record { place = Some (span.file_id.0, span.offset); told = told }

-- no place before every place; then the lower text, then the lower offset, then the lower index
abbrev pub rank_cmp : Rank → Rank → Ordering
rank_cmp a b = ordering_then (option_cmp (λ x y. ordering_then (nat_cmp x.0 y.0) (nat_cmp x.1 y.1)) a.place b.place) (nat_cmp a.told b.told)

-- the ranks of faults at these places, the first of which has this index
abbrev pub ranks_from : ℕ → List (Option SourceSpan) → List Rank
ranks_from told [] = []
ranks_from told (place ∷ places) = rank_of place told ∷ ranks_from (suc told) places

-- the ranks of faults at these places, each once, in order
pub record IsOrder (places : List (Option SourceSpan)) (ranks : List Rank) : Type 0 where
  pub all : IsPermutation (ranks_from 0 places) ranks
  pub sorted : IsSorted rank_cmp ranks
