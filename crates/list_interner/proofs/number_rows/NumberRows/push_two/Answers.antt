use Rattle.std.specs.Result.{is_ok}
use Rattle.list_interner.proofs.Parts.{two_within}
use Rattle.list_interner.proofs.number_rows.NumberRows.push_two.Goals as goal

pub invariant_of-self-2 : goal.invariant_of-self-2
invariant_of-self-2 c =
    let self = c.args.self.now in
    record { within = two_within self.numbers.items c.in_ok-short.field-0 c.in_ok-short-2.field-0 (is_ok c.push.result) self.rows.items c.push.new.self.items c.push.ensures.items self.within }
