use Rattle.std.proofs.Common.{[], ◌<◌, length, get_or, subst, arith}
use Rattle.std.proofs.lemmas.List.{take_all}
use Rattle.rule_field_groups.specs.NodeWalk.{state_of, Passes}
use Rattle.rule_field_groups.proofs.Walking.{passes_none, spread_noted, spreads_step}
use Rattle.rule_field_groups.proofs.node_walk.NodeWalk.note_spreads.Goals as goal

pub loop-place-init : goal.loop-place-init
loop-place-init c = passes_none (state_of c.args.self.now)

pub loop-place-preserved : goal.loop-place-preserved
loop-place-preserved c =
    let i = c.loop-place.place-index in
    let s = state_of c.loop-place.self in
    let h : i < length c.args.spreads.now = omega arith in
    spreads_step c.args.spreads.now i (state_of c.args.self.now) s (record s { spread = c.insert.new.self.keys }) h
    (spread_noted (get_or c.args.spreads.now i 0) s (record s { spread = c.insert.new.self.keys }) (λ j. record s { spread = c.in_ok-insert.ensures.keys j })) c.loop-place.invariant

pub returns : goal.returns
returns c = subst (λ l. Passes [] l (state_of c.args.self.now) (state_of c.loop-place.self)) (take_all c.loop-place.place-index c.args.spreads.now c.loop-place-test.false) c.loop-place.invariant
