use Rattle.std.proofs.Common.{◌∙◌, ◌+◌, [], ◌∷◌, ◌++◌, length, sym, ap, subst, arith}
use Rattle.std.proofs.lemmas.List.{length_push}
use Rattle.rule_cycle_search.specs.Ways.{Goes}
use Rattle.rule_cycle_search.proofs.Members.{contains_true, contains_false}
use Rattle.rule_cycle_search.proofs.Chains.{Goes-push}
use Rattle.rule_cycle_search.proofs.ways.follow.Goals as goal

pub returns-then-contains : goal.returns-then-contains
returns-then-contains c = (c.loop.way.items, (c.loop.node, (c.loop.invariant.goes, (contains_true c.args.stops.now c.loop.node (sym c.contains.ensures.value ∙ c.if-contains.true), c.in_ok-push.ensures.items))))

pub loop-preserved : goal.loop-preserved
loop-preserved c = record {
  goes = subst (λ l. Goes c.args.steps.now c.args.stops.now c.args.start l c.via_at-node.result) (sym c.in_ok-push.ensures.items)
      (subst (Goes c.args.steps.now c.args.stops.now c.args.start (c.loop.way.items ++ c.loop.node ∷ [])) (sym c.via_at-node.ensures)
      (Goes-push c.args.steps.now c.args.stops.now c.args.start c.loop.way.items c.loop.node c.loop.invariant.goes (contains_false c.args.stops.now c.loop.node (sym c.contains.ensures.value ∙ c.if-contains.false))));
  long = ap length c.in_ok-push.ensures.items ∙ length_push c.loop.way.items c.loop.node ∙ ap (λ n. n + 1) c.loop.invariant.long;
}

pub returns : goal.returns
returns c = (c.loop.way.items, (c.loop.node, (c.loop.invariant.goes, omega (arith, c.loop.invariant.long))))
