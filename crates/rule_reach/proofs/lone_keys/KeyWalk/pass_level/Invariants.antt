use Rattle.std.proofs.Common.{take}
use Rattle.rule_reach.specs.Passed.{sets_read, map_read, IsPassed}
use Rattle.rule_reach.proofs.lone_keys.KeyWalk.pass_level.Given as goal

abbrev pub invariant-loop-index : goal.invariant-loop-index
invariant-loop-index l = IsPassed (map_read l.fragments) (sets_read (take l.index l.level.items)) (sets_read l.next.items)
