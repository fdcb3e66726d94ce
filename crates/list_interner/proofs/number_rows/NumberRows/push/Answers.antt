use Rattle.std.proofs.Common.{◌++◌, ◌∙◌, map, ap}
use Rattle.std.specs.Result.{is_ok}
use Rattle.list_interner.specs.NumberRows.{part_at}
use Rattle.list_interner.proofs.Parts.{on_err, still_within, still_parts, either_within, one_part}
use Rattle.list_interner.proofs.number_rows.NumberRows.push.Goals as goal

pub invariant_of-self : goal.invariant_of-self
invariant_of-self c =
    let self = c.args.self.now in
    record { within = still_within self.numbers.items c.write_both.new.numbers.items self.rows.items self.within c.write_both.ensures.grows }

pub returns-in_err-row-clause-refused : goal.returns-in_err-row-clause-refused
returns-in_err-row-clause-refused c =
    let self = c.args.self.now in
    on_err c.from_residual.result (still_parts self.numbers.items c.write_both.new.numbers.items self.rows.items self.within c.write_both.ensures.grows)

pub invariant_of-self-2 : goal.invariant_of-self-2
invariant_of-self-2 c =
    let self = c.args.self.now in
    let new = c.write_both.new.numbers.items in
    let row = c.in_ok-row.row in
    record { within = either_within self.numbers.items (c.args.first.now ++ c.args.further.now) new row c.in_ok-row.ensures.written (is_ok c.push.result) self.rows.items c.push.new.self.items c.push.ensures.items self.within }

pub returns-in_err-push-clause-refused : goal.returns-in_err-push-clause-refused
returns-in_err-push-clause-refused c =
    let self = c.args.self.now in
    let new = c.write_both.new.numbers.items in
    on_err c.from_residual-in_err-push.result (ap (map (part_at new)) c.in_err-push.ensures.items ∙ still_parts self.numbers.items new self.rows.items self.within c.write_both.ensures.grows)

pub returns-clause-pushed : goal.returns-clause-pushed
returns-clause-pushed c =
    let self = c.args.self.now in
    one_part self.numbers.items (c.args.first.now ++ c.args.further.now) c.write_both.new.numbers.items c.in_ok-row.row c.in_ok-row.ensures.written self.rows.items c.push.new.self.items c.in_ok-push.ensures.items self.within
