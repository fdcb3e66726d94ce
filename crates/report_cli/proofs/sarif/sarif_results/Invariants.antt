use denote.Text.{Utf8}
use denote.Shadow.{shadow}
use Rattle.std.proofs.Common.{◌≡◌, ◌++◌, drop, string_bytes}
use Rattle.report_cli.specs.Sarif.{results_text}
use Rattle.report_cli.proofs.sarif.sarif_results.Given as goal

abbrev pub invariant-loop-entry : goal.invariant-loop-entry
invariant-loop-entry l = (string_bytes l.results ++ results_text l.separator (drop l.entry-index l.entries) ≡ results_text l.fn.before l.entries) × shadow (Utf8 l.separator)
