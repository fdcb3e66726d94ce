use Rattle.std.proofs.Common.{◌≡◌, ◌∙◌, ◌<◌, ◌-◌, ◌++◌, ℕ, length, drop, suc, ap, sym, arith}
use Rattle.std.proofs.lemmas.List.{drop_all}
use Rattle.rule_field_sets.specs.Opened.{left_of}
use Rattle.rule_field_sets.proofs.Opening.{those_on, one_before, pushed, whole_set}
use Rattle.rule_field_sets.proofs.found.push_selections.Goals as goal

pub loop-index-init : goal.loop-index-init
loop-index-init c =
    let items = c.args.set.now.selections.items in
    ap (λ l. those_on c.args.set.now.ty l ++ left_of c.args.left.now.items) (sym (drop_all c.len-index.result items (omega arith)))

pub loop-index-preserved : goal.loop-index-preserved
loop-index-preserved c =
    let items = c.args.set.now.selections.items in
    let k : ℕ = c.loop-index.index - 1 in
    let within : k < length items = omega (arith, c.loop-index.auto.index, c.loop-index-test.true, c.len-index.ensures) in
    let next : c.loop-index.index ≡ suc k = omega (arith, c.loop-index-test.true) in
    pushed c.loop-index.left.items c.push.new.self.items _ c.in_ok-push.ensures.items
    ∙ one_before c.args.set.now.ty items k c.loop-index.index c.index.result.now (left_of c.loop-index.left.items) (left_of c.args.left.now.items) within c.index.ensures next c.loop-index.invariant

pub returns : goal.returns
returns c =
    let none : c.loop-index.index ≡ 0 = omega (arith, c.loop-index-test.false) in
    c.loop-index.invariant
    ∙ ap (λ i. those_on c.args.set.now.ty (drop i c.args.set.now.selections.items) ++ left_of c.args.left.now.items) none
    ∙ ap (λ l. l ++ left_of c.args.left.now.items) (whole_set c.args.set.now)
