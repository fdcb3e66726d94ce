use Rattle.std.proofs.Common.{rules}
use Rattle.report_cli.specs.Folding.{noted}
use Rattle.report_cli.proofs.Folds.{counted_step, printed_more}
use Rattle.report_cli.proofs.folding.folded_causes.Goals as goal

pub loop-index-preserved : goal.loop-index-preserved
loop-index-preserved c =
    let seen = c.loop-index.invariant.0 in (
      λ q. counted_step c.args.causes.now c.loop-index.index _ q (noted c.loop-index.seen q) (noted c.note.new.counts q) (search rules) (seen q) (c.in_ok-before.ensures.after q),
      printed_more (noted c.in_ok-totals.totals) (noted c.loop-index.seen) c.args.causes.now c.loop-index.index c.in_ok-before.before _ c.loop-index.printed.items c.push_printed.new.printed.items
          (search rules) c.in_ok-totals.ensures seen c.in_ok-before.ensures.before c.in_ok-push_printed.ensures c.loop-index.invariant.1,
    )
