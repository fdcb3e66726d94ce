use Rattle.std.proofs.Common.{◌≡◌, ℕ, ◌+◌, Bool, false, cond, List, get_or, refl, sym, ap, subst, ◌∙◌, arith}
use Rattle.std.specs.Prelude.{Contains}
use Rattle.std.proofs.lemmas.List.Elements.{Contains-get_or}
use Rattle.rule_cycle_search.specs.declared.steps.Step.{Step}
use Rattle.rule_cycle_search.specs.Graph.{listed, references}
use Rattle.rule_cycle_search.specs.NodeSteps.{is_in, IsIn}
use Rattle.rule_cycle_search.proofs.Parting.{in_center}
use Rattle.rule_cycle_search.proofs.Counting.{HasMost, most_at, way_more, way_less}
use Rattle.rule_cycle_search.proofs.depths.depth_of.Goals as goal
use Rattle.rule_cycle_search.proofs.depths.depth_of.Goals.{then-next-depths+then-depths-next+then-not-is_in, else-next-depths}

pub loop-next-preserved : goal.loop-next-preserved
loop-next-preserved c = λ kind all.
    let g = c.args.divided.now.graph.now in
    let from = c.args.divided.now.parts.now.from.items in
    let next : ℕ = get_or c.listed-next-items.result.now c.loop-next.next-index 0 in
    elim c.if-next-depths.branch [
      | then-next-depths+then-depths-next+then-not-is_in w ↦
          let out : is_in from c.in-Some.step.now.center next ≡ false = ap (λ (s : List Step). is_in s c.in-Some.step.now.center next) (sym w.deref-then-depths-next.ensures.value) ∙ sym w.is_in.ensures ∙ w.if-not-is_in.true in
          let refers : Contains (references g c.args.node) next = subst (λ l. Contains l next) (c.listed-next-items.ensures ∙ ap (λ r. listed r c.args.node) c.deref-2.ensures.value) (Contains-get_or c.listed-next-items.result.now c.loop-next.next-index 0 (omega arith)) in
          subst (HasMost g kind c.args.node from c.in-Some.step.now.center) (sym w.most-is) (most_at g kind c.args.depths.now c.args.node from c.in-Some.step.now.center next all refers w.if-next-depths.true out)
      | else-next-depths w ↦ subst (HasMost g kind c.args.node from c.in-Some.step.now.center) (sym w.most-is) (c.loop-next.invariant kind all)
    ]

pub returns-then-most-divided : goal.returns-then-most-divided
returns-then-most-divided c = λ kind is all.
    let g = c.args.divided.now.graph.now in
    let from = c.args.divided.now.parts.now.from.items in
    let a = c.in-Some.ensures.lookup in
    let here = subst (λ (l : List Step). IsIn l c.in-Some.step.now.center c.args.node) c.deref.ensures.value (in_center c.deref.result.now c.args.node c.in-Some.step.now a.3.0 a.1) in
    way_less g kind c.args.node (1 + c.loop-next.most) (c.loop-next.most + 1) (omega arith)
    (way_more g kind c.args.divided.now.parts.now.toward.items from c.requires c.args.node c.in-Some.step.now.center here c.loop-next.most 1 (c.loop-next.invariant kind all) (ap {B = ℕ} (λ (b : Bool). cond b 1 0) (sym c.if-counts.true ∙ sym is)))

pub returns-else-counts : goal.returns-else-counts
returns-else-counts c = λ kind is all.
    let g = c.args.divided.now.graph.now in
    let from = c.args.divided.now.parts.now.from.items in
    let a = c.in-Some.ensures.lookup in
    let here = subst (λ (l : List Step). IsIn l c.in-Some.step.now.center c.args.node) c.deref.ensures.value (in_center c.deref.result.now c.args.node c.in-Some.step.now a.3.0 a.1) in
    way_less g kind c.args.node (cond (kind c.args.node) 1 0 + c.loop-next.most) c.loop-next.most (omega arith)
    (way_more g kind c.args.divided.now.parts.now.toward.items from c.requires c.args.node c.in-Some.step.now.center here c.loop-next.most (cond (kind c.args.node) 1 0) (c.loop-next.invariant kind all) refl)
