use Rattle.std.proofs.Common.{◌+◌, ◌*◌, length, arith}
use Rattle.report_forms.proofs.Counts.{piece_within, count_more, counts_more, counted_bound}
use Rattle.report_forms.proofs.ends.counts_of.Goals as goal

pub overflow_add-count : goal.overflow_add-count
overflow_add-count c =
    let text = c.args.text.now in
    let piece = c.loop-piece.piece in
    let all = count_more text piece c.loop-piece.count c.characters_between-count.result c.loop-piece.invariant.count c.characters_between-count.ensures.value in
    omega (arith, counted_bound text ((piece + 1) * 64) _ all, piece_within (length text) piece (omega arith))

pub loop-piece-preserved : goal.loop-piece-preserved
loop-piece-preserved c =
    let text = c.args.text.now in
    let piece = c.loop-piece.piece in
    let all = count_more text piece c.loop-piece.count c.characters_between-count.result c.loop-piece.invariant.count c.characters_between-count.ensures.value in
    record {
      counts = counts_more text piece (c.loop-piece.count + c.characters_between-count.result) c.loop-piece.counts.items c.push.new.self.items c.loop-piece.invariant.counts all c.in_ok-push.ensures.items;
      count = all;
    }
