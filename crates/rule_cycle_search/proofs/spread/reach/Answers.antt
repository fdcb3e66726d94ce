use Rattle.std.proofs.Common.{◌≡◌, ℕ, ◌+◌, ◌<◌, ◌++◌, ◌∷◌, [], false, length, get_or, take, sym, ap, subst, ◌∙◌, arith, true≢false, List}
use Rattle.std.proofs.lemmas.List.{take_more, take_all}
use Rattle.rule_cycle_search.specs.declared.steps.Step.{Step}
use Rattle.rule_cycle_search.specs.NodeSteps.{is_in, IsIn}
use Rattle.rule_cycle_search.specs.Spread.{Reaches}
use Rattle.rule_cycle_search.proofs.Sets.{in_within}
use Rattle.rule_cycle_search.proofs.Spreading.{Reaches-pass, Reaches-mark}
use Rattle.rule_cycle_search.proofs.spread.reach.Goals as goal
use Rattle.rule_cycle_search.proofs.spread.reach.Goals.{then-is_in+then-not-is_in+in_ok-push, else-is_in, else-is_in-via-then-is_in+else-not-is_in, else-is_in-via-else-is_in}

pub loop-next-preserved : goal.loop-next-preserved
loop-next-preserved c =
    let i = c.loop-next.invariant in
    let next : ℕ = get_or c.args.targets.now c.loop-next.next-index 0 in
    let before : List ℕ = take c.loop-next.next-index c.args.targets.now in
    let with_it : List ℕ = take (c.loop-next.next-index + 1) c.args.targets.now in
    let more : with_it ≡ before ++ next ∷ [] = take_more c.args.targets.now c.loop-next.next-index 0 (omega arith) in
    let pass = λ (passed : IsIn c.args.area.now.steps.now c.args.area.now.key next → IsIn c.loop-next.steps c.args.step.center next) (same : c.if-is_in.steps ≡ c.loop-next.steps) (also : c.if-is_in.reached.items ≡ c.loop-next.reached.items).
    subst (λ (l : List Step). Reaches c.args.area.now.steps.now c.args.area.now.key c.args.step.center c.args.step.via with_it c.args.steps.now l c.args.reached.now.items c.if-is_in.reached.items) (sym same)
    (subst (Reaches c.args.area.now.steps.now c.args.area.now.key c.args.step.center c.args.step.via with_it c.args.steps.now c.loop-next.steps c.args.reached.now.items) (sym also)
    (Reaches-pass c.args.area.now.steps.now c.args.area.now.key c.args.step.center c.args.step.via before with_it next more c.args.steps.now c.loop-next.steps c.args.reached.now.items c.loop-next.reached.items i passed)) in
    elim c.if-is_in.branch [
      | then-is_in+then-not-is_in+in_ok-push w ↦
          let inside : IsIn c.args.area.now.steps.now c.args.area.now.key next = sym c.is_in.ensures ∙ w.if-is_in.true in
          let fresh : is_in c.loop-next.steps c.args.step.center next ≡ false = sym w.is_in-then-is_in.ensures ∙ w.if-not-is_in.true in
          let far : next < length c.args.area.now.steps.now = in_within c.args.area.now.steps.now c.args.area.now.key next inside in
          Reaches-mark c.args.area.now.steps.now c.args.area.now.key c.args.step.center c.args.step.via before with_it next more c.args.steps.now c.loop-next.steps c.args.reached.now.items c.loop-next.reached.items i inside fresh (omega arith)
          c.if-is_in.steps w.steps-is c.if-is_in.reached.items (ap (λ v. v.items) w.reached-is ∙ w.in_ok-push.ensures.items)
      | else-is_in w ↦ elim w.else-is_in.branch [
        | else-is_in-via-then-is_in+else-not-is_in v ↦ pass (λ _. sym v.is_in-then-is_in.ensures ∙ v.if-not-is_in.false) w.steps-is (ap (λ x. x.items) w.reached-is)
        | else-is_in-via-else-is_in v ↦ pass (λ h. absurd (true≢false (sym h ∙ sym c.is_in.ensures ∙ v.if-is_in.false))) w.steps-is (ap (λ x. x.items) w.reached-is)
      ]
    ]

pub returns : goal.returns
returns c = subst (λ ts. Reaches c.args.area.now.steps.now c.args.area.now.key c.args.step.center c.args.step.via ts c.args.steps.now c.loop-next.steps c.args.reached.now.items c.loop-next.reached.items) (take_all c.loop-next.next-index c.args.targets.now (omega arith)) c.loop-next.invariant
