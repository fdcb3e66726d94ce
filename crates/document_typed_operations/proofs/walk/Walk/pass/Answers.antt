use Rattle.document_typed_operations.proofs.Standings.{ok_so, field_passed, inline_passed}
use Rattle.document_typed_operations.proofs.walk.Walk.pass.Goals as goal

pub returns-in-Field : goal.returns-in-Field
returns-in-Field c = ok_so c.enter_field.result (field_passed c.args.ty.now c.in-Field.field c.args.selection.now _ _ c.in-Field.is) c.enter_field.ensures

pub returns-in-InlineFragment : goal.returns-in-InlineFragment
returns-in-InlineFragment c = ok_so c.descend.result (inline_passed c.args.ty.now c.in-InlineFragment.inline _ c.args.selection.now _ _ c.in-InlineFragment.is c.content-in-InlineFragment.ensures) c.descend.ensures
