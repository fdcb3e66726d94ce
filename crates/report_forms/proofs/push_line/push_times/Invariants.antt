use Rattle.std.proofs.Common.{◌≡◌, ◌++◌, replicate, string_bytes}
use Rattle.report_forms.proofs.push_line.push_times.Given as goal

abbrev pub invariant-loop-count : goal.invariant-loop-count
invariant-loop-count l = string_bytes l.out ≡ string_bytes l.initial.out ++ replicate l._count l.character
