use denote.Text.{Utf8}
use denote.Shadow.{shadow}
use Rattle.report_cli.proofs.batch.objects.Given as goal

abbrev pub invariant-loop-entry : goal.invariant-loop-entry
invariant-loop-entry l = shadow (Utf8 l.separator)
