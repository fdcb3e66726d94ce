use Rattle.std.proofs.lemmas.Result.{on_ok_weaker}
use Rattle.list_interner.specs.NumberRows.{rows_of}
use Rattle.rule_field_groups.proofs.Under.{joined_together, twos_together}
use Rattle.rule_field_groups.proofs.below.push_together.Goals as goal

pub returns-then-is_short : goal.returns-then-is_short
returns-then-is_short c =
    on_ok_weaker c.push_joined.result (joined_together c.args.first.now c.args.further.now (rows_of c.args.lists.now) (rows_of c.push_joined.new.lists)) c.push_joined.ensures

pub returns : goal.returns
returns c =
    on_ok_weaker c.push_apart.result (twos_together c.args.first.now c.args.further.now (rows_of c.args.lists.now) (rows_of c.push_apart.new.lists)) c.push_apart.ensures
