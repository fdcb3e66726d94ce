use Rattle.std.proofs.Common.{◌≡◌, ◌++◌, drop}
use Rattle.rule_warnings.specs.Telling.{waiting_members}
use Rattle.rule_warnings.proofs.Waiting.{kept_members}
use Rattle.rule_warnings.proofs.selections.push_members.Given as goal

abbrev pub invariant-loop-index : goal.invariant-loop-index
invariant-loop-index l = waiting_members l.waiting.items ≡ kept_members l.set.ty (drop l.index l.set.selections.items) ++ waiting_members l.fn.waiting.items
