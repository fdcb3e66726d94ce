-- What is found in a list that is kept.
use Rattle.std.proofs.Common.{◌≡◌, ◌∙◌, ℕ, true, List, [], map, length, slice_get, Option, Some, None, Vec, Result, Ok, Err, Contains, slice_index_or, Equal, nat_cmp, is_eq, true≢false, refl, sym, ap, subst}
use Rattle.std.specs.Global.{Global}
use Rattle.std.specs.Option.{option_map_or}
use Rattle.std.specs.Prelude.{HoldsAt, is_ok}
use Rattle.std.specs.List.Sorted.{IsSearchInRange}
use Rattle.std.specs.Result.{IfOk}
use Rattle.std.specs.Cmp.{unsigned_tied}
use Rattle.std.proofs.lemmas.Bool.Decides.{Decides-eqb}
use Rattle.std.proofs.lemmas.List.Elements.{Contains-append_right}
use Rattle.rule_cycle_search.proofs.Lists.{not_in_nil, index_given}
use Rattle.list_interner.specs.NumberLists.{list_of, lists_kept, list_at}
use Rattle.list_interner.specs.NumberPairs.{pairs_kept}
use Rattle.list_interner.specs.declared.lists.NumberLists.{NumberLists}
use Rattle.list_interner.proofs.Rising.{items_of}
use Rattle.list_interner.proofs.Standing.{in_map}

pub found : (l : List ℕ) (n : ℕ) (r : Result ℕ ℕ) → IsSearchInRange r (length l) → IfOk r (HoldsAt (λ y. nat_cmp y n ≡ Equal) l) → is_ok r ≡ true → Contains l n
found l n (Ok k) within at is = let x = slice_index_or l k n in (k, within, (Decides-eqb x n).0 (sym (unsigned_tied x n) ∙ ap is_eq (at n)))
found l n (Err k) within at is = absurd (true≢false (sym is))

-- a list at a place that has a number is one of those that are kept
pub kept_at : (m : NumberLists) (place n : ℕ) → Contains (list_at m place) n → Contains (lists_kept m) (list_at m place)
kept_at m place n c = by (slice_get m.longer.keys place) refl
  where
    items_at : Option (Vec ℕ Global) → List ℕ
    items_at o = option_map_or items_of o []

    by : (o : Option (Vec ℕ Global)) → slice_get m.longer.keys place ≡ o → Contains (lists_kept m) (list_at m place)
    by None e = not_in_nil n (subst (λ (l : List ℕ). Contains l n) (ap items_at e) c)
    by (Some v) e =
        subst (Contains (lists_kept m)) (sym (ap items_at e))
        (Contains-append_right (map list_of (pairs_kept m.pairs)) (map items_of m.longer.keys) v.items (in_map items_of m.longer.keys v (index_given m.longer.keys place v e)))
