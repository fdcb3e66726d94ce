use Rattle.std.proofs.Common.{◌≡◌, drop, map}
use Rattle.rule_reach.specs.Reach.{member_of}
use Rattle.rule_reach.specs.NotedNames.{noted_names}
use Rattle.rule_variables.specs.UsedNames.{with_members}
use Rattle.rule_variables.proofs.reached.note_in_members.Given as goal

abbrev pub invariant-loop-selection : goal.invariant-loop-selection
invariant-loop-selection l = with_members (noted_names l.fn.names) (map member_of l.selection-items) ≡ with_members (noted_names l.names) (map member_of (drop l.selection-index l.selection-items))
