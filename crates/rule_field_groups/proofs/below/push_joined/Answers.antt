use Rattle.std.proofs.Common.{◌∙◌, sym}
use Rattle.std.proofs.lemmas.Result.{on_ok_weaker}
use Rattle.list_interner.specs.NumberRows.{rows_of}
use Rattle.rule_field_groups.proofs.Under.{joins_none, joins_some}
use Rattle.rule_field_groups.proofs.below.push_joined.Goals as goal

pub returns-then-is_empty : goal.returns-then-is_empty
returns-then-is_empty c = joins_none c.args.first.now c.args.further.now (rows_of c.args.lists.now) (sym c.is_empty.ensures ∙ c.if-is_empty.true)

pub returns : goal.returns
returns c =
    on_ok_weaker c.push.result
    (joins_some c.args.first.now c.args.further.now (sym c.is_empty.ensures ∙ c.if-is_empty.false) (rows_of c.args.lists.now) (rows_of c.push.new.self)) c.push.ensures.pushed
