use Rattle.std.proofs.Common.{◌≡◌, ◌∙◌, ◌<◌, ◌-◌, ◌++◌, ℕ, length, drop, suc, refl, ap, sym, arith}
use Rattle.std.proofs.lemmas.List.{drop_all}
use Rattle.rule_warnings.specs.Telling.{waiting_members}
use Rattle.rule_warnings.proofs.Waiting.{kept_members, members_are, one_before}
use Rattle.rule_warnings.proofs.selections.push_members.Goals as goal

pub loop-index-init : goal.loop-index-init
loop-index-init c =
    let set = c.args.set.now in
    ap (λ l. kept_members set.ty l ++ waiting_members c.args.waiting.now.items) (sym (drop_all c.len-index.result set.selections.items (omega arith)))

pub loop-index-preserved : goal.loop-index-preserved
loop-index-preserved c =
    let set = c.args.set.now in
    let items = set.selections.items in
    let k : ℕ = c.loop-index.index - 1 in
    let within : k < length items = omega (arith, c.loop-index.auto.index, c.loop-index-test.true, c.len-index.ensures) in
    let next : c.loop-index.index ≡ suc k = omega (arith, c.loop-index-test.true) in
    one_before set.ty items k c.loop-index.index c.index.result.now c.loop-index.waiting.items c.push.new.self.items _ (waiting_members c.args.waiting.now.items) within c.index.ensures next refl c.in_ok-push.ensures.items
    c.loop-index.invariant

pub returns : goal.returns
returns c =
    let set = c.args.set.now in
    let none : c.loop-index.index ≡ 0 = omega (arith, c.loop-index-test.false) in
    c.loop-index.invariant
    ∙ ap (λ i. kept_members set.ty (drop i set.selections.items) ++ waiting_members c.args.waiting.now.items) none
    ∙ ap (λ l. l ++ waiting_members c.args.waiting.now.items) (sym (members_are set))
