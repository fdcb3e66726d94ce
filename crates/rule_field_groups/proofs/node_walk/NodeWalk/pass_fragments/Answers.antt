use Rattle.std.proofs.Common.{◌∙◌, sym, arith, true≢false}
use Rattle.rule_field_groups.specs.NodeWalk.{state_of}
use Rattle.rule_field_groups.proofs.Walking.{fragment_passed, ended}
use Rattle.rule_field_groups.proofs.node_walk.NodeWalk.pass_fragments.Goals as goal

pub loop-self-init : goal.loop-self-init
loop-self-init c = λ nodes walk. walk

pub loop-self-preserved : goal.loop-self-preserved
loop-self-preserved c = λ nodes walk. fragment_passed c.args.sets.now nodes c.loop-self.entered c.index-place.result.now c.in_ok-fragment.fragment.now (state_of c.loop-self.self) (state_of c.pass_node.new.self)
    c.index-place.ensures c.in_ok-fragment.ensures c.in_ok-pass_node.ensures (c.loop-self.invariant nodes walk)

pub returns-else-entered-len : goal.returns-else-entered-len
returns-else-entered-len c = λ nodes walk. ended c.args.sets.now nodes c.loop-self.entered (state_of c.loop-self.self) (λ whole. omega (arith, c.len.ensures.len)) (c.loop-self.invariant nodes walk)

pub returns-after-loop-self : goal.returns-after-loop-self
returns-after-loop-self c = λ nodes walk. ended c.args.sets.now nodes c.loop-self.entered (state_of c.loop-self.self)
    (λ whole. absurd (true≢false (sym whole ∙ c.loop-self-test.false))) (c.loop-self.invariant nodes walk)
