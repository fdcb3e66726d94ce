use Rattle.std.proofs.Common.{◌<◌, length, arith}
use Rattle.rule_selection_queries.specs.Tests.{plain_entries, first_under}
use Rattle.rule_selection_queries.proofs.Noting.{values_more, values_end}
use Rattle.rule_selection_queries.proofs.values.first_values.Goals as goal

pub loop-entry-preserved : goal.loop-entry-preserved
loop-entry-preserved c n =
    let es = c.args.entries.now in
    let h : c.loop-entry.entry-index < length es = omega arith in
    values_more es c.loop-entry.entry-index c.entry-item.result h c.entry-item.is (first_under n.text (plain_entries es)) n c.loop-entry.firsts c.note_value.new.firsts (c.in_ok-note_value.ensures n) (c.loop-entry.invariant n)

pub returns : goal.returns
returns c n = values_end c.args.entries.now c.loop-entry.entry-index c.loop-entry-test.false (first_under n.text (plain_entries c.args.entries.now)) n c.loop-entry.firsts (c.loop-entry.invariant n)
