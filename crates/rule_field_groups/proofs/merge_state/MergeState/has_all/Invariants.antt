use Rattle.std.proofs.Common.{take}
use Rattle.rule_field_groups.proofs.Standing.{HasNumbers}
use Rattle.rule_field_groups.proofs.merge_state.MergeState.has_all.Given as goal

abbrev pub invariant-loop-field : goal.invariant-loop-field
invariant-loop-field l = HasNumbers l.self.lists l.place (take l.field-index l.fields)
