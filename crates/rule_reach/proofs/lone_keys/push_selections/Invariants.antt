use Rattle.std.proofs.Common.{◌≡◌, ◌++◌, take}
use Rattle.document_typed_operations.specs.WalkView.{members_on}
use Rattle.rule_reach.specs.Passed.{members_left}
use Rattle.rule_reach.proofs.lone_keys.push_selections.Given as goal

abbrev pub invariant-loop-selection : goal.invariant-loop-selection
invariant-loop-selection l = members_left l.left.items ≡ members_left l.fn.left.items ++ members_on l.set.ty (take l.selection-index l.selection-items)
