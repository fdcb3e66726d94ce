use Rattle.std.proofs.Common.{◌≡◌, ◌∙◌, ◌<◌, ◌-◌, ◌++◌, ℕ, length, drop, suc, ap, sym, arith}
use Rattle.std.proofs.lemmas.List.{drop_all}
use Rattle.rule_selections.specs.Within.{waiting_sets}
use Rattle.rule_selections.proofs.SetsWithin.{sets_of, one_before, below_is}
use Rattle.rule_selections.proofs.within.push_sets_below.Goals as goal

pub loop-index-init : goal.loop-index-init
loop-index-init c =
    let items = c.args.set.now.selections.items in
    ap (λ l. sets_of l ++ waiting_sets c.args.waiting.now.items) (sym (drop_all c.len-index.result items (omega arith)))

pub loop-index-preserved : goal.loop-index-preserved
loop-index-preserved c =
    let items = c.args.set.now.selections.items in
    let k : ℕ = c.loop-index.index - 1 in
    let within : k < length items = omega (arith, c.loop-index.auto.index, c.loop-index-test.true, c.len-index.ensures) in
    let next : c.loop-index.index ≡ suc k = omega (arith, c.loop-index-test.true) in
    c.in_ok-push_own_set.ensures
    ∙ one_before items k c.loop-index.index c.index.result.now (waiting_sets c.loop-index.waiting.items) (waiting_sets c.args.waiting.now.items) within c.index.ensures next c.loop-index.invariant

pub returns : goal.returns
returns c =
    let none : c.loop-index.index ≡ 0 = omega (arith, c.loop-index-test.false) in
    c.loop-index.invariant
    ∙ ap (λ i. sets_of (drop i c.args.set.now.selections.items) ++ waiting_sets c.args.waiting.now.items) none
    ∙ ap (λ l. l ++ waiting_sets c.args.waiting.now.items) (below_is c.args.set.now)
