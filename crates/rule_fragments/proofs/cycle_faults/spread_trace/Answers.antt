use Rattle.std.proofs.Common.{◌++◌, map, reverse, length, ◌≤◌, sym, ap, ◌∙◌, arith}
use Rattle.std.proofs.lemmas.List.{append-nil, drop_all}
use Rattle.rule_cycles.specs.Labels.{along}
use Rattle.rule_cycles.proofs.InputsTold.{map-reverse}
use Rattle.rule_fragments.specs.SpreadViews.{spread_tree, spread_between}
use Rattle.rule_fragments.proofs.cycle_faults.spread_trace.Goals as goal

pub returns : goal.returns
returns c =
    let past : length c.args.path.now ≤ c.loop-to.to-index = omega arith in
    let rest = drop_all c.loop-to.to-index c.args.path.now past in
    let whole =
    sym (append-nil (map spread_tree c.loop-to.trace.items))
    ∙ ap (λ l. map spread_tree c.loop-to.trace.items ++ along (spread_between c.args.references.now) c.loop-to.from l) (sym rest)
    ∙ c.loop-to.invariant in
    ap (map spread_tree) c.reverse.ensures.items ∙ map-reverse spread_tree c.loop-to.trace.items ∙ ap reverse whole
