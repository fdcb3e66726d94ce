use Rattle.std.proofs.Common.{◌≡◌, ◌+◌, ◌<◌, Contains, ℕ, max, get_or, subst, arith}
use Rattle.std.proofs.lemmas.List.{take_all}
use Rattle.list_interner.proofs.Kept.{above_next}
use Rattle.list_interner.proofs.lists.above.Goals as goal

pub loop-number-preserved : goal.loop-number-preserved
loop-number-preserved c =
    let xs = c.args.numbers.now in
    let i = c.loop-number.number-index in
    let is : c.max-bound.result ≡ max c.loop-number.bound (get_or xs i 0 + 1) = omega (arith, c.max-bound.ensures, c.in_ok-one_above.ensures) in
    above_next xs i 0 c.loop-number.bound c.max-bound.result c.loop-number-test.true c.loop-number.invariant is

pub returns : goal.returns
returns c = subst (λ l. (n : ℕ) → Contains l n → n < c.loop-number.bound) (take_all c.loop-number.number-index c.args.numbers.now c.loop-number-test.false) c.loop-number.invariant
