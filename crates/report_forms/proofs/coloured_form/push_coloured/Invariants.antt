use Rattle.std.proofs.Common.{◌≡◌, ◌++◌, flat_map, map, string_bytes}
use Rattle.report_forms.specs.Colours.{coloured_line}
use Rattle.report_forms.proofs.coloured_form.push_coloured.Given as goal

abbrev pub invariant-loop-line : goal.invariant-loop-line
invariant-loop-line l = string_bytes l.out ≡ string_bytes l.fn.out ++ flat_map (coloured_line l.fn.severity) (map (λ line. line.now) l.yielded)
