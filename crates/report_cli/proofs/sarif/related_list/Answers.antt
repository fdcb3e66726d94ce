use Rattle.std.proofs.Common.{string_bytes, rules}
use Rattle.report_cli.proofs.SarifTexts.{related_more}
use Rattle.report_cli.proofs.sarif.related_list.Goals as goal

pub loop-id-preserved : goal.loop-id-preserved
loop-id-preserved c = (
  related_more c.args.related.now c.loop-id.id-counter c.index-related-id.result c.loop-id.comma.now (string_bytes c.loop-id.list) (string_bytes c.write.new.self) _
      (search rules) (search rules) c.loop-id.invariant.0,
  search rules,
)
