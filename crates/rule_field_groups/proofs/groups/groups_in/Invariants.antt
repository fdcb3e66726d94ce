use Rattle.std.proofs.Common.{◌≡◌, ◌++◌, map}
use Rattle.rule_field_groups.specs.Grouped.{lists_in, lists_of}
use Rattle.rule_field_groups.proofs.groups.groups_in.Given as goal

abbrev pub invariant-loop-group : goal.invariant-loop-group
invariant-loop-group l = lists_of l.groups ++ map (λ v. v.items) l.group-iterator ≡ lists_in l.fn.index
