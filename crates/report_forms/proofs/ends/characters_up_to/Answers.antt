use Rattle.std.proofs.Common.{◌/◌, length, ap, arith}
use Rattle.report_forms.proofs.Counts.{length-counts, piece_of, counted_up_to, counted_bound}
use Rattle.report_forms.proofs.ends.characters_up_to.Goals as goal

pub bounds-counts-piece : goal.bounds-counts-piece
bounds-counts-piece c =
    let text = c.args.text.now in
    omega (arith, ap length c.requires.counts, length-counts text (length text / 64), piece_of c.args.place (length text) c.requires.within)

pub overflow_add-result : goal.overflow_add-result
overflow_add-result c =
    let text = c.args.text.now in
    let all = counted_up_to text c.args.counts.now c.args.place c.characters_between.result c.requires.counts c.requires.within c.characters_between.ensures.value in
    omega (arith, counted_bound text c.args.place _ all, c.requires.within)

pub returns : goal.returns
returns c = counted_up_to c.args.text.now c.args.counts.now c.args.place c.characters_between.result c.requires.counts c.requires.within c.characters_between.ensures.value
