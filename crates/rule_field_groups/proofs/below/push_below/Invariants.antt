use Rattle.std.proofs.Common.{take}
use Rattle.rule_field_groups.specs.Members.{fields_of, meant_sets}
use Rattle.rule_field_groups.specs.Below.{AreSetsOf}
use Rattle.rule_field_groups.proofs.below.push_below.Given as goal

abbrev pub invariant-loop-field : goal.invariant-loop-field
invariant-loop-field l = AreSetsOf (fields_of (take l.field-index l.fields)) (meant_sets l.sets l.nodes.items)
