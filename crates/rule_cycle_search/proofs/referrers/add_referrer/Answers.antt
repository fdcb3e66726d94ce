use Rattle.std.proofs.Common.{◌≡◌, ℕ, ◌+◌, ◌++◌, ◌∷◌, [], List, get_or, take, sym, ap, subst, ◌∙◌, arith}
use Rattle.std.proofs.lemmas.List.{take_more}
use Rattle.rule_cycle_search.specs.Referrers.{AddsReferrer}
use Rattle.rule_cycle_search.proofs.Referring.{listed_at, AddsReferrer-pass, AddsReferrer-mark}
use Rattle.rule_cycle_search.proofs.referrers.add_referrer.Goals as goal
use Rattle.rule_cycle_search.proofs.referrers.add_referrer.Goals.{then-target-referrers+in_ok-push, else-target-referrers}

pub loop-target-preserved : goal.loop-target-preserved
loop-target-preserved c =
    let i = c.loop-target.invariant in
    let target : ℕ = get_or c.args.targets.now c.loop-target.target-index 0 in
    let before : List ℕ = take c.loop-target.target-index c.args.targets.now in
    let with_it : List ℕ = take (c.loop-target.target-index + 1) c.args.targets.now in
    let more : with_it ≡ before ++ target ∷ [] = take_more c.args.targets.now c.loop-target.target-index 0 (omega arith) in
    elim c.if-target-referrers.branch [
      | then-target-referrers+in_ok-push w ↦
          AddsReferrer-mark c.args.node before with_it target more c.args.referrers.now c.loop-target.referrers i w.if-target-referrers.true w.push.new.self
          (w.in_ok-push.ensures.items ∙ ap (λ l. l ++ c.args.node ∷ []) (sym (listed_at c.loop-target.referrers target w.index-referrers-target.result w.if-target-referrers.true)))
          c.if-target-referrers.referrers w.referrers-is
      | else-target-referrers w ↦
          subst (AddsReferrer c.args.node with_it c.args.referrers.now) (sym w.referrers-is)
          (AddsReferrer-pass c.args.node before with_it target more c.args.referrers.now c.loop-target.referrers i w.if-target-referrers.false)
    ]
