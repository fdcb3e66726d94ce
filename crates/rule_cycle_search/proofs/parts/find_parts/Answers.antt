use Rattle.std.proofs.Common.{◌≡◌, ◌∙◌, ap, arith}
use Rattle.std.specs.Prelude.{replicate}
use Rattle.rule_cycle_search.specs.Parts.{nowhere}
use Rattle.rule_cycle_search.proofs.Parting.{parted_none, is_whole}
use Rattle.rule_cycle_search.proofs.parts.find_parts.Goals as goal

pub loop-node-init : goal.loop-node-init
loop-node-init c =
    let n : c.len-nodes.result ≡ nowhere c.args.graph.now = omega arith in
    parted_none c.args.graph.now c.in_ok-toward.toward.items c.in_ok-from.from.items
    (c.in_ok-toward.ensures ∙ ap (λ k. replicate k (record { center = k; via = k })) n)
    (c.in_ok-from.ensures ∙ ap (λ k. replicate k (record { center = k; via = k })) n)

pub returns : goal.returns
returns c = is_whole c.args.graph.now c.loop-node-2.parts.toward.items c.loop-node-2.parts.from.items c.loop-node-2.invariant.parted (λ n h. c.loop-node-2.invariant.settled n (omega arith))
