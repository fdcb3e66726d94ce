use denote.Text.{Utf8}
use denote.Shadow.{shadow}
use Rattle.std.proofs.Common.{◌≡◌, ◌++◌, drop, string_bytes}
use Rattle.report_cli.specs.Sarif.{related_from, related_list}
use Rattle.report_cli.proofs.sarif.related_list.Given as goal

abbrev pub invariant-loop-id : goal.invariant-loop-id
invariant-loop-id l = (string_bytes l.list ++ related_from l.comma l.id-counter (drop l.id-counter l.related) ≡ related_list l.related) × shadow (Utf8 l.comma)
