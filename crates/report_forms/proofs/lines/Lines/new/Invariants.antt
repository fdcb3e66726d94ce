use Rattle.std.proofs.Common.{◌≡◌}
use Rattle.report_forms.specs.Starts.{starts_up_to}
use Rattle.report_forms.proofs.lines.Lines.new.Given as goal

abbrev pub invariant-loop-last : goal.invariant-loop-last
invariant-loop-last l = l.starts.items ≡ starts_up_to l.bytes l.last
