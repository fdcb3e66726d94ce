use Rattle.rule_reach.specs.Passed.{read_of_set, sets_read, map_read, state_of, IsWalked}
use Rattle.rule_reach.proofs.lone_keys.KeyWalk.pass_set.Given as goal

abbrev pub invariant-loop-ty : goal.invariant-loop-ty
invariant-loop-ty l = IsWalked (map_read l.fragments) (read_of_set l.set) (sets_read l.fn.next.items) (state_of l.self l.next.items)

abbrev pub decreases-loop-ty : goal.decreases-loop-ty
decreases-loop-ty l = l.self.steps
