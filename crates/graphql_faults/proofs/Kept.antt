-- Lists that begin empty and have each fault once.
use Rattle.std.proofs.Common.{◌≡◌, ◌≤◌, ◌<◌, inl, inr, List, [], length, refl, sym, subst, Contains, arith}
use Rattle.rule_cycle_search.specs.Paths.{HasNoRepeat}
use Rattle.rule_cycle_search.proofs.Lists.{not_in_nil}
use Rattle.rule_definitions.specs.Room.{most_told}
use Rattle.graphql_faults.specs.Added.{AddsNew, TellsAll}
use Rattle.graphql_faults.specs.Once.{KeepsOnce}

module _ {A : Type 0} where
  none_repeats : HasNoRepeat {X = A} []
  none_repeats i j x h k = absurd cc

  pub added_once : (none old new : List A) → none ≡ [] → length old < most_told → AddsNew none old new → TellsAll old new → KeepsOnce old new
  added_once none old new nothing few adds all = record {
    from = λ fault c. elim (adds.from fault c) [ inl h ↦ not_in_nil fault (subst (λ l. Contains l fault) nothing h) | inr h ↦ h ];
    all = all;
    most = λ h. adds.most (subst (λ (l : List A). length l ≤ most_told) (sym nothing) (omega arith));
    same = λ many. absurd (omega (arith, many, few));
    once = inr (adds.once (subst HasNoRepeat (sym nothing) none_repeats));
  }

  pub full_stays : (old : List A) → most_told ≤ length old → KeepsOnce old old
  full_stays old many = record {
    from = λ fault c. c;
    all = inr (λ fault c. c);
    most = λ h. h;
    same = λ h. refl;
    once = inl many;
  }
