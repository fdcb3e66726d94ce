use Rattle.std.proofs.Common.{◌+◌, length, sym, ap, subst, ◌∙◌, arith}
use Rattle.std.proofs.lemmas.List.{length_push}
use Rattle.rule_cycle_search.specs.Referrers.{AddsReferrer, AreReferrersBelow}
use Rattle.rule_cycle_search.proofs.Referring.{listed_none, back_again, AreReferrers-none, AreReferrers-more, AreReferrers-all}
use Rattle.rule_cycle_search.specs.Graph.{listed}
use Rattle.std.specs.Prelude.{Contains}
use Rattle.rule_cycle_search.proofs.referrers.referrers.Goals as goal

pub loop-preserved : goal.loop-preserved
loop-preserved c = record {
  long = ap length c.in_ok-push.ensures.items ∙ length_push c.loop.referrers.items c.new.result ∙ ap (λ n. n + 1) c.loop.invariant.long;
  none = λ e n h. listed_none c.loop.referrers.items c.new.result c.loop.invariant.none c.new.ensures.items e n (subst (λ l. Contains (listed l e) n) c.in_ok-push.ensures.items h);
}

pub loop-node-init : goal.loop-node-init
loop-node-init c = AreReferrers-none c.args.references.now c.loop.referrers.items (omega (arith, c.loop.invariant.long)) c.loop.invariant.none

pub loop-node-preserved : goal.loop-node-preserved
loop-node-preserved c =
    let m = subst (λ ts. AddsReferrer c.loop-node.node ts c.deref_mut.result.now c.add_referrer.new.referrers) c.listed.ensures c.in_ok-add_referrer.ensures in
    let added = subst (λ o. AddsReferrer c.loop-node.node (listed c.args.references.now c.loop-node.node) o c.add_referrer.new.referrers) c.deref_mut.ensures.value m in
    subst (AreReferrersBelow (c.loop-node.node + 1) c.args.references.now) (sym (back_again c.add_referrer.new.referrers c.loop-node.referrers.items c.loop-node.referrers.len (omega arith) added.long))
    (AreReferrers-more c.args.references.now c.loop-node.referrers.items c.loop-node.node c.loop-node.invariant c.add_referrer.new.referrers added)

pub returns : goal.returns
returns c = AreReferrers-all c.args.references.now c.loop-node.referrers.items c.loop-node.node c.loop-node.invariant (omega arith)
