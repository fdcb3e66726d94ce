use Rattle.std.proofs.Common.{◌≡◌, take}
use Rattle.rule_field_groups.proofs.Remembering.{numbers_of}
use Rattle.rule_field_groups.proofs.merge_state.numbers_of.Given as goal

abbrev pub invariant-loop-field : goal.invariant-loop-field
invariant-loop-field l = l.numbers.items ≡ numbers_of (take l.field-index l.list)
