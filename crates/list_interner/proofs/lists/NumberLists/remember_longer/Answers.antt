use Rattle.std.proofs.Common.{ℕ, ◌<◌, ◌≤◌, arith, Contains, map, length, Vec, subst, sym}
use Rattle.std.specs.Global.{Global}
use Rattle.std.specs.List.Sorted.{IsNonDecreasing}
use Rattle.std.proofs.lemmas.List.Sorted.{length_permutation}
use Rattle.list_interner.specs.NumberPairs.{pairs_kept}
use Rattle.list_interner.proofs.Rising.{items_of, still_so, put_last}
use Rattle.list_interner.proofs.Kept.{within_more, longer_keep}
use Rattle.list_interner.proofs.lists.NumberLists.remember_longer.Goals as goal

pub invariant_of-self-2 : goal.invariant_of-self-2
invariant_of-self-2 c =
    let old = c.args.self.now.longer.keys in
    let new = c.insert.new.self.keys in
    let v = c.in_order-numbers.result in
    record {
      ordered = still_so old new v (λ w. IsNonDecreasing w.items) c.insert.result c.args.self.now.ordered c.in_order-numbers.ensures.ordered c.insert.ensures.keys c.insert.ensures.err;
      within = still_so old new v (λ (w : Vec ℕ Global). (n : ℕ) → Contains w.items n → n < c.max-self.result) c.insert.result
          (λ w k n m. omega (arith, c.args.self.now.within w k n m, c.max-self.ensures))
          (within_more c.args.numbers.items v c.in_ok-above.above c.args.self.now.above c.max-self.result c.in_order-numbers.ensures.same
          (subst (λ l. (n : ℕ) → Contains l n → n < c.in_ok-above.above) c.deref.ensures.value c.in_ok-above.ensures) c.max-self.ensures) c.insert.ensures.keys c.insert.ensures.err;
      long = still_so old new v (λ (w : Vec ℕ Global). 3 ≤ length w.items) c.insert.result c.args.self.now.long
          (subst (λ n. 3 ≤ n) (sym (length_permutation c.args.numbers.items v.items c.in_order-numbers.ensures.same)) c.requires) c.insert.ensures.keys c.insert.ensures.err;
    }

pub returns-clause-keeps : goal.returns-clause-keeps
returns-clause-keeps c =
    let old = c.args.self.now.longer.keys in
    let new = c.insert.new.self.keys in
    let v = c.in_order-numbers.result in
    longer_keep (pairs_kept c.args.self.now.pairs) (map items_of old) (map items_of new) c.args.numbers.items v.items c.in_ok-insert.field-0 c.requires c.in_order-numbers.ensures.same
    (put_last old new v c.args.self.now.ordered c.in_order-numbers.ensures.ordered c.args.numbers.items c.in_order-numbers.ensures.same c.in_ok-insert.field-0 c.in_ok-insert.ensures.added c.in_ok-insert.ensures.keys)
