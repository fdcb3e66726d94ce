-- What was examined: lists of fields, lists of sets and pairs of sets, by what merging reads of them, whatever their order
-- (GraphQL, October 2021, section 5.3.2). The program has their numbers.
use Rattle.std.specs.Prelude.{◌≡◌, ◌<◌, ◌⊎◌, ◌∷◌, [], ℕ, Bool, true, false, List, Option, None, Some, map, Contains}
use Rattle.std.specs.List.Sorted.{IsPermutation}
use Rattle.rule_cycle_search.specs.Paths.{HasNoRepeat}
use Rattle.list_interner.specs.NumberLists.{HaveSame, lists_kept}
use Rattle.list_interner.specs.NumberPairs.{pairs_kept}
use Rattle.list_interner.specs.NumberSet.{numbers_in}
use Rattle.rule_selection_queries.specs.in_document_definitions.ReadFields.{ReadField, ReadSet}
use Rattle.rule_selection_queries.specs.in_document_definitions.Settled.{AreInOne}
use Rattle.rule_field_sets.specs.Read.{content_at, set_content_at, set_at}
use Rattle.rule_field_sets.specs.declared.field_sets.FieldSets.{FieldSets}
use Rattle.rule_field_groups.specs.Under.{Sets, sets_in}
use Rattle.rule_field_groups.specs.Paid.{Account}
use Rattle.rule_field_groups.specs.declared.merge_state.Pair.{Pair}
use Rattle.rule_field_groups.specs.declared.merge_state.MergeState.{MergeState}

-- the lists of fields that were examined; the lists of sets that were expanded, so that what they select is in lists of fields; the
-- pairs of sets that were looked at, each a list of the two; and the pairs that are left to expand
pub record Kept : Type 0 where
  pub lists : List (List ReadField)
  pub expanded : List (List ReadSet)
  pub looked : List (List ReadSet)
  pub pairs : List Sets

abbrev pub nothing_kept : Kept
nothing_kept = record { lists = []; expanded = []; looked = []; pairs = [] }

-- a pair of numbers as a list
abbrev pub both_in : ℕ × ℕ → List ℕ
both_in p = p.0 ∷ p.1 ∷ []

module _ (w : FieldSets) where
  -- the sets of a pair of nodes
  abbrev pub two_of : Pair → Sets
  two_of p = set_at w p.one ∷ set_at w p.other ∷ []

  -- the lists of fields that are remembered; those of sets; the pairs
  abbrev pub remembered : MergeState → List (List ReadField)
  remembered r = map (map (content_at w)) (lists_kept r.lists)

  abbrev pub expanded_in : MergeState → List (List ReadSet)
  expanded_in r = map (map (set_content_at w)) (lists_kept r.expanded)

  abbrev pub looked_in : MergeState → List (List ReadSet)
  looked_in r = map (λ p. map (set_content_at w) (both_in p)) (pairs_kept r.looked)

  abbrev pub kept_of : MergeState → Kept
  kept_of r = record { lists = remembered r; expanded = expanded_in r; looked = looked_in r; pairs = map two_of r.pairs.items }

  -- what is counted; that, and the lists of sets that are left
  abbrev pub account_of : MergeState → Account
  account_of r = record { lists = remembered r; met = map (content_at w) (numbers_in r.met); spent = r.spent; comparisons = r.comparisons }

  abbrev pub beside_of : MergeState → Account × List Sets
  beside_of r = (account_of r, sets_in w r.next)

-- each of the `ones` is with each of the `others` in one of these lists
abbrev pub AllAreInOne : List (List ReadField) → List ReadField → List ReadField → Type 0
AllAreInOne lists ones others = (x y : ReadField) → Contains ones x → Contains others y → AreInOne lists x y

-- a new list of contents is added, at any index and in any order, and no old list has the same members, if neither has anything twice;
-- for a list that is not new, an old list has the same members, or the list is empty; then nothing changes
abbrev pub Remembers : Kept → List ReadField → Bool → Kept → Type 0
Remembers old list true new = ((known : List ReadField) → Contains old.lists known → HasNoRepeat known → HasNoRepeat list → HaveSame known list → ⊥)
    × ((kept : List ReadField) × (HaveSame list kept × ((HasNoRepeat list → IsPermutation list kept) × (IsPermutation (kept ∷ old.lists) new.lists × (new ≡ record old { lists = new.lists })))))
Remembers old list false new = ((list ≡ []) ⊎ ((known : List ReadField) × (Contains old.lists known × HaveSame known list))) × (new ≡ old)

-- the same for a list that may be examined; one that may not be is not added
abbrev pub RemembersPaid : Kept → List ReadField → Option Bool → Kept → Type 0
RemembersPaid old list None new = new ≡ old
RemembersPaid old list (Some is_new) new = Remembers old list is_new new

-- one of these lists has the same members
abbrev pub HasLooked : {X : Type 0} → List (List X) → List X → Type 0
HasLooked {X} lists list = (known : List X) × (Contains lists known × HaveSame known list)

-- two sets that are looked at together are added, at any index and in any order; if they are not new, an old pair has the same members
abbrev pub LooksAt : Kept → List ReadSet → Bool → Kept → Type 0
LooksAt old two true new = (kept : List ReadSet) × (HaveSame kept two × (IsPermutation (kept ∷ old.looked) new.looked × (new ≡ record old { looked = new.looked })))
LooksAt old two false new = HasLooked old.looked two × (new ≡ old)

-- the same for a list of sets that is expanded: after that, one with its members is remembered, unless it has none
abbrev pub Expands : List (List ReadSet) → List ReadSet → Bool → List (List ReadSet) → Type 0
Expands old list true new = (kept : List ReadSet) × (HaveSame list kept × IsPermutation (kept ∷ old) new)
Expands old list false new = ((list ≡ []) ⊎ HasLooked old list) × (new ≡ old)

-- all numbers that are remembered are below these: those of fields, and those of sets
pub record IsKnown (fields sets : ℕ) (r : MergeState) : Type 0 where
  pub lists : (l : List ℕ) → Contains (lists_kept r.lists) l → (n : ℕ) → Contains l n → n < fields
  pub met : (n : ℕ) → Contains (numbers_in r.met) n → n < fields
  pub expanded : (l : List ℕ) → Contains (lists_kept r.expanded) l → (n : ℕ) → Contains l n → n < sets
  pub looked : (p : ℕ × ℕ) → Contains (pairs_kept r.looked) p → (p.0 < sets) × (p.1 < sets)
