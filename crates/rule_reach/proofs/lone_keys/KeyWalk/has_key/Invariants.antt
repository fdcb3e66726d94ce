use Rattle.std.proofs.Common.{take}
use Rattle.rule_reach.specs.Passed.{passed_fields, LacksKey}
use Rattle.rule_reach.proofs.lone_keys.KeyWalk.has_key.Given as goal

abbrev pub invariant-loop-field : goal.invariant-loop-field
invariant-loop-field l = LacksKey (passed_fields (take l.field-index l.field-items)) l.key.text
