use Rattle.std.proofs.Common.{◌∙◌, ap, drop, take, ◌-◌, rules}
use Rattle.std.proofs.lemmas.List.{take_all}
use Rattle.list_interner.proofs.Parts.{read_part, row_within}
use Rattle.list_interner.proofs.number_rows.NumberRows.read.Goals as goal

pub slice_bounds-number-items-count : goal.slice_bounds-number-items-count
slice_bounds-number-items-count c =
    let self = c.args.self.now in
    (row_within self.numbers.items self.rows.items c.args.place c.in-Part.start c.in-Part.end c.index-row.result.now c.requires c.index-row.ensures c.in-Part.is self.within).0

pub slice_bounds-number-items-start : goal.slice_bounds-number-items-start
slice_bounds-number-items-start c =
    let self = c.args.self.now in
    let h = row_within self.numbers.items self.rows.items c.args.place c.in-Part.start c.in-Part.end c.index-row.result.now c.requires c.index-row.ensures c.in-Part.is self.within in
    let low = h.0 in
    let high = h.1 in
    search rules

pub slice_bounds-number-items-end : goal.slice_bounds-number-items-end
slice_bounds-number-items-end c =
    let self = c.args.self.now in
    let h = row_within self.numbers.items self.rows.items c.args.place c.in-Part.start c.in-Part.end c.index-row.result.now c.requires c.index-row.ensures c.in-Part.is self.within in
    let low = h.0 in
    let high = h.1 in
    search rules

pub returns-after-loop-number : goal.returns-after-loop-number
returns-after-loop-number c =
    let self = c.args.self.now in
    c.loop-number.invariant ∙ take_all c.loop-number.number-index _ c.loop-number-test.false ∙ ap (λ l. take (c.in-Part.end - c.in-Part.start) (drop c.in-Part.start l)) c.deref.ensures.value
    ∙ read_part self.numbers.items self.rows.items c.args.place c.in-Part.start c.in-Part.end c.index-row.result.now c.requires c.index-row.ensures c.in-Part.is
