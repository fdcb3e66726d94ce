use Rattle.std.proofs.Common.{string_bytes}
use Rattle.report_forms.specs.Shown.{HasOnlyLineFeeds}
use Rattle.report_forms.proofs.entry.Entry.push_below.Given as goal

abbrev pub invariant-loop-related : goal.invariant-loop-related
invariant-loop-related l = HasOnlyLineFeeds (string_bytes l.out)
