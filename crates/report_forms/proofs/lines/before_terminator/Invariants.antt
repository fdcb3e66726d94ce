use Rattle.std.proofs.Common.{◌≢◌, ℕ, ◌<◌, get_or}
use Rattle.report_forms.proofs.lines.before_terminator.Given as goal

abbrev pub invariant-loop-index : goal.invariant-loop-index
invariant-loop-index l = (k : ℕ) → k < l.index → (get_or l.text k 0 ≢ 10) × (get_or l.text k 0 ≢ 13)
