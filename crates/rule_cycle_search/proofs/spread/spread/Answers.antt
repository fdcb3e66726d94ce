use Rattle.std.proofs.Common.{◌∙◌, sym, ap, subst, ◌++◌, ◌∷◌, [], refl, arith}
use Rattle.std.proofs.lemmas.List.{get_or_read}
use Rattle.rule_cycle_search.specs.Spread.{Reaches}
use Rattle.rule_cycle_search.proofs.Lists.{empty_is}
use Rattle.rule_cycle_search.proofs.Spreading.{Spreading-begin, Spreads-alone, Spreading-more, Spreading-end}
use Rattle.rule_cycle_search.proofs.spread.spread.Goals as goal

pub loop-at-init : goal.loop-at-init
loop-at-init c = Spreading-begin c.args.lists.now c.args.area.now.steps.now c.args.area.now.key c.args.center c.args.steps.now c.requires.within c.requires.fresh _ refl c.push.new.self.items (c.in_ok-push.ensures.items ∙ ap (λ l. l ++ c.args.center ∷ []) c.new-reached.ensures.items)

pub returns-then-is_empty : goal.returns-then-is_empty
returns-then-is_empty c = Spreads-alone c.args.lists.now c.args.area.now.steps.now c.args.area.now.key c.args.center c.args.steps.now c.requires.within c.requires.fresh _ refl (sym c.listed.ensures ∙ empty_is c.listed.result.now (sym c.is_empty.ensures ∙ c.if-is_empty.true))

pub loop-at-preserved : goal.loop-at-preserved
loop-at-preserved c = Spreading-more c.args.lists.now c.args.area.now.steps.now c.args.area.now.key c.args.center c.args.steps.now c.loop-at.at c.loop-at.steps c.loop-at.reached.items c.loop-at.invariant (omega arith) c.index-node.result.now (get_or_read c.loop-at.reached.items c.loop-at.at c.index-node.result.now (omega arith) c.index-node.ensures 0) c.reach.new.steps c.reach.new.reached.items
    (subst (λ ts. Reaches c.args.area.now.steps.now c.args.area.now.key c.args.center c.index-node.result.now ts c.loop-at.steps c.reach.new.steps c.loop-at.reached.items c.reach.new.reached.items) c.listed-in-loop-at.ensures c.in_ok-reach.ensures)

pub returns : goal.returns
returns c = Spreading-end c.args.lists.now c.args.area.now.steps.now c.args.area.now.key c.args.center c.args.steps.now c.loop-at.at c.loop-at.steps c.loop-at.reached.items c.loop-at.invariant (omega arith)
