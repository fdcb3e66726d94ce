use Rattle.std.proofs.Common.{string_bytes, rules}
use Rattle.report_cli.proofs.SarifTexts.{results_more}
use Rattle.report_cli.proofs.sarif.sarif_results.Goals as goal

pub loop-entry-preserved : goal.loop-entry-preserved
loop-entry-preserved c = (
  results_more c.args.entries.now c.loop-entry.entry-index c.entry-item.result c.loop-entry.separator.now (string_bytes c.loop-entry.results) (string_bytes c.write.new.self) _
      (search rules) (search rules) c.loop-entry.invariant.0,
  search rules,
)
