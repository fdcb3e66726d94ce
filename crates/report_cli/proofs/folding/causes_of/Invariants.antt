use Rattle.std.proofs.Common.{◌≡◌, ◌++◌, map, drop, None}
use Rattle.report_cli.specs.Folding.{cause_text, causes_after}
use Rattle.report_cli.proofs.folding.causes_of.Given as goal

abbrev pub invariant-loop-entry : goal.invariant-loop-entry
invariant-loop-entry l = map cause_text l.causes.items ++ causes_after l.usage (drop l.entry-index l.entries) ≡ causes_after None l.entries
