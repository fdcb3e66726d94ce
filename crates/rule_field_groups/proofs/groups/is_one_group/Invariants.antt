use Rattle.std.proofs.Common.{◌≡◌, Contains, take}
use Rattle.rule_field_sets.specs.declared.member.Member.{Member}
use Rattle.rule_field_groups.specs.KeyGroups.{filed_name}
use Rattle.rule_field_groups.proofs.groups.is_one_group.Given as goal

abbrev pub invariant-loop-other : goal.invariant-loop-other
invariant-loop-other l = (x : Member) → Contains (take l.other-index l.others) x → filed_name l.filing x ≡ l.name.text
