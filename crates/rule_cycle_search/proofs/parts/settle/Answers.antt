use Rattle.std.proofs.Common.{◌≡◌, ◌∙◌, ℕ, ◌<◌, List, length, false, sym, ap, subst, arith}
use Rattle.std.proofs.lemmas.Result.{on_ok_weaker}
use Rattle.rule_cycle_search.specs.declared.steps.Step.{Step}
use Rattle.rule_cycle_search.specs.NodeSteps.{is_in, IsIn}
use Rattle.rule_cycle_search.specs.Spread.{Spreads}
use Rattle.rule_cycle_search.specs.Parts.{nowhere}
use Rattle.rule_cycle_search.proofs.Sets.{in_within}
use Rattle.rule_cycle_search.proofs.Referring.{back_again}
use Rattle.rule_cycle_search.proofs.Spreading.{Spreads-of}
use Rattle.rule_cycle_search.proofs.Parting.{fresh_toward, fresh_from, settles, settled_now, settled_still, Settles-of}
use Rattle.rule_cycle_search.proofs.parts.settle.Goals as goal

pub spread-requires-clause-fresh : goal.spread-requires-clause-fresh
spread-requires-clause-fresh c =
    let g = c.args.graph.now in
    let from = c.args.parts.now.from.items in
    let n : c.len-unsettled.result ≡ nowhere g = omega arith in
    let live : IsIn from (nowhere g) c.args.node = sym (ap (λ l. is_in l (nowhere g) c.args.node) c.deref.ensures.value) ∙ ap (λ k. is_in c.deref.result.now k c.args.node) (sym n) ∙ sym c.is_in.ensures ∙ c.if-not-is_in.false in
    subst (λ (l : List Step). (m : ℕ) → is_in l c.args.node m ≡ false) (sym c.deref_mut.ensures.value) (fresh_toward g c.args.referrers.now c.requires.referrers c.args.parts.now.toward.items from c.requires.parted c.args.node live)

pub spread-requires-2-clause-within : goal.spread-requires-2-clause-within
spread-requires-2-clause-within c =
    let e : c.deref.result.now ≡ c.deref_mut-2.result.now = c.deref.ensures.value ∙ sym c.deref_mut-2.ensures.value in
    subst (λ (l : List Step). c.args.node < length l) e (in_within c.deref.result.now c.len-unsettled.result c.args.node (sym c.is_in.ensures ∙ c.if-not-is_in.false))

pub spread-requires-2-clause-fresh : goal.spread-requires-2-clause-fresh
spread-requires-2-clause-fresh c =
    let g = c.args.graph.now in
    let from = c.args.parts.now.from.items in
    let n : c.len-unsettled.result ≡ nowhere g = omega arith in
    let live : IsIn from (nowhere g) c.args.node = sym (ap (λ l. is_in l (nowhere g) c.args.node) c.deref.ensures.value) ∙ ap (λ k. is_in c.deref.result.now k c.args.node) (sym n) ∙ sym c.is_in.ensures ∙ c.if-not-is_in.false in
    subst (λ (l : List Step). (m : ℕ) → is_in l c.args.node m ≡ false) (sym c.deref_mut-2.ensures.value) (fresh_from g c.args.referrers.now c.requires.referrers c.args.parts.now.toward.items from c.requires.parted c.args.node live)

pub returns : goal.returns
returns c =
    let g = c.args.graph.now in
    let x = c.args.node in
    let toward = c.args.parts.now.toward.items in
    let from = c.args.parts.now.from.items in
    let n : c.len-unsettled.result ≡ nowhere g = omega arith in
    let live : IsIn from (nowhere g) x = sym (ap (λ l. is_in l (nowhere g) x) c.deref.ensures.value) ∙ ap (λ k. is_in c.deref.result.now k x) (sym n) ∙ sym c.is_in.ensures ∙ c.if-not-is_in.false in
    let first : Spreads c.args.referrers.now from (nowhere g) x toward c.spread.new.steps =
    subst (λ k. Spreads c.args.referrers.now from k x toward c.spread.new.steps) n (Spreads-of c.args.referrers.now c.deref-2.result.now from c.deref-2.ensures.value c.len-unsettled.result x c.deref_mut.result.now toward c.deref_mut.ensures.value c.spread.new.steps c.in_ok-spread.ensures) in
    let back = back_again c.spread.new.steps toward c.args.parts.now.toward.len (omega arith) first.long in
    on_ok_weaker c.spread-2.result
    (λ s.
    let second : Spreads g.references.items c.spread.new.steps x x from c.spread-2.new.steps =
    Spreads-of g.references.items c.deref-3.result.now c.spread.new.steps (c.deref-3.ensures.value ∙ back) x x c.deref_mut-2.result.now from c.deref_mut-2.ensures.value c.spread-2.new.steps
    (subst (λ l. Spreads l c.deref-3.result.now x x c.deref_mut-2.result.now c.spread-2.new.steps) c.deref-4.ensures.value s) in
    let also = back_again c.spread-2.new.steps from c.args.parts.now.from.len (omega arith) second.long in
    Settles-of g x from (sym back) (sym also) (record {
      parted = settles g c.args.referrers.now c.requires.referrers toward from c.requires.parted x live c.spread.new.steps c.spread-2.new.steps first second;
      settled = settled_now g c.args.referrers.now c.requires.referrers toward from c.requires.parted x live c.spread.new.steps c.spread-2.new.steps first second;
      kept = settled_still g c.args.referrers.now c.requires.referrers toward from c.requires.parted x live c.spread.new.steps c.spread-2.new.steps first second;
    }))
    c.spread-2.ensures
