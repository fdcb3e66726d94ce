use Rattle.std.proofs.Common.{◌≤◌, length, string_bytes}
use Rattle.graphql_checked_c.specs.Json.{AreLines}
use Rattle.graphql_checked_c.proofs.reports.json_lines.Given as goal

abbrev pub invariant-loop-entry : goal.invariant-loop-entry
invariant-loop-entry l = (l.entry-index ≤ length l.entries) × AreLines l.entry-index (string_bytes l.lines)
