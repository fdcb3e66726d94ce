use Rattle.std.proofs.Common.{◌<◌, map, length, sym, ap, ◌∙◌, arith}
use Rattle.rule_reach.specs.Reach.{member_of, meant_fragments}
use Rattle.rule_fragments.specs.Applied.{is_on_its_type, all_are_on_their_types}
use Rattle.rule_fragments.proofs.Telling.{tested_more, tested_false, tested_all}
use Rattle.rule_fragments.proofs.applications.all_are_on_their_types.Goals as goal

pub loop-parent-preserved : goal.loop-parent-preserved
loop-parent-preserved c =
    let xs = c.deref-parent-items.result.now in
    let i = c.loop-parent.parent-index in
    let h : i < length xs = omega arith in
    tested_more member_of (is_on_its_type (meant_fragments c.args.fragments.now)) xs i c.loop-parent-item.result h c.loop-parent-item.is c.loop-parent.invariant
    (sym c.is_on_its_type.ensures ∙ c.if-not-is_on_its_type.false)

pub returns-then-not-is_on_its_type : goal.returns-then-not-is_on_its_type
returns-then-not-is_on_its_type c =
    let fs = meant_fragments c.args.fragments.now in
    let xs = c.deref-parent-items.result.now in
    let i = c.loop-parent.parent-index in
    let h : i < length xs = omega arith in
    sym (ap (λ l. all_are_on_their_types fs (map member_of l)) (sym c.deref-parent-items.ensures.value)
    ∙ tested_false member_of (is_on_its_type fs) xs i c.loop-parent-item.result h c.loop-parent-item.is (sym c.is_on_its_type.ensures ∙ c.if-not-is_on_its_type.true))

pub returns : goal.returns
returns c =
    let fs = meant_fragments c.args.fragments.now in
    sym (ap (λ l. all_are_on_their_types fs (map member_of l)) (sym c.deref-parent-items.ensures.value)
    ∙ tested_all member_of (is_on_its_type fs) c.deref-parent-items.result.now c.loop-parent.parent-index c.loop-parent-test.false c.loop-parent.invariant)
