use Rattle.std.proofs.Common.{◌+◌, ◌≤◌}
use Rattle.report_forms.proofs.PlacesBack.{IsOnTheWay}
use Rattle.report_forms.proofs.lines.place_in_line.Given as goal

abbrev pub invariant-loop-last : goal.invariant-loop-last
invariant-loop-last l = record { way : IsOnTheWay l.text l.start l.column l.reached l.last; bound : l.reached ≤ l.last + 1 }
