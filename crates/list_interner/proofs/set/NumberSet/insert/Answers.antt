use Rattle.std.proofs.Common.{◌≡◌, ◌+◌, ◌∙◌, true, false, max, subst, sym, arith}
use Rattle.list_interner.specs.Bits.{Sets}
use Rattle.list_interner.proofs.Sets.{counts_one, counts_none, all_below, none_above, puts_new, puts_known}
use Rattle.list_interner.proofs.set.NumberSet.insert.Goals as goal

pub invariant_of-self-then-not-branch : goal.invariant_of-self-then-not-branch
invariant_of-self-then-not-branch c =
    let s = c.args.self.now in
    let new = c.set.new.self in
    let n = c.args.number in
    let sets : Sets s.bits n false new = subst (λ b. Sets s.bits n b new) c.if-not-branch.true c.in_ok-set.ensures.set in
    record { counted = counts_none s.bits new s.bound n s.below s.len s.counted sets; below = none_above s.bits new s.bound n s.below sets }

pub returns-then-not-branch-clause-put : goal.returns-then-not-branch-clause-put
returns-then-not-branch-clause-put c =
    let s = c.args.self.now in
    let new = c.set.new.self in
    let n = c.args.number in
    let sets : Sets s.bits n false new = subst (λ b. Sets s.bits n b new) c.if-not-branch.true c.in_ok-set.ensures.set in
    puts_known s.bits new s.bound n s.below sets

pub invariant_of-self-2 : goal.invariant_of-self-2
invariant_of-self-2 c =
    let s = c.args.self.now in
    let new = c.set.new.self in
    let n = c.args.number in
    let next = c.max-self.result in
    let sets : Sets s.bits n true new = subst (λ b. Sets s.bits n b new) c.if-not-branch.false c.in_ok-set.ensures.set in
    let is : next ≡ max s.bound (n + 1) = omega (arith, c.max-self.ensures, c.in-Some-Some.ensures') in
    let len : s.len + 1 ≡ c.in-Some-Some.len = omega (arith, c.in-Some-Some.ensures) in
    record { counted = sym len ∙ counts_one s.bits new s.bound n s.below s.len next is s.counted sets; below = all_below s.bits new s.bound n s.below next is sets }

pub returns-clause-put : goal.returns-clause-put
returns-clause-put c =
    let s = c.args.self.now in
    let new = c.set.new.self in
    let n = c.args.number in
    let next = c.max-self.result in
    let sets : Sets s.bits n true new = subst (λ b. Sets s.bits n b new) c.if-not-branch.false c.in_ok-set.ensures.set in
    let is : next ≡ max s.bound (n + 1) = omega (arith, c.max-self.ensures, c.in-Some-Some.ensures') in
    puts_new s.bits new s.bound n s.below next is sets
