use Rattle.std.proofs.Common.{ap}
use Rattle.std.proofs.lemmas.Result.{on_ok_weaker}
use Rattle.document_typed_selections.specs.declared.selection.Field.{Field}
use Rattle.document_typed_selections.specs.declared.selection.InlineFragment.{InlineFragment}
use Rattle.rule_warnings.specs.Telling.{waiting_members}
use Rattle.rule_warnings.proofs.Waiting.{field_pushed, inline_pushed}
use Rattle.rule_warnings.proofs.selections.push_own_members.Goals as goal

pub returns-in-Field : goal.returns-in-Field
returns-in-Field c =
    on_ok_weaker c.push_members.result
    (field_pushed c.in-Field.field c.args.selection.now _ (waiting_members c.push_members.new.waiting.items) (waiting_members c.args.waiting.now.items) c.in-Field.is (ap (λ (f : Field). f.selection_set) c.content.ensures)) c.push_members.ensures

pub returns-in-InlineFragment : goal.returns-in-InlineFragment
returns-in-InlineFragment c =
    on_ok_weaker c.push_members-in-InlineFragment.result
    (inline_pushed c.in-InlineFragment.inline c.args.selection.now _ (waiting_members c.push_members-in-InlineFragment.new.waiting.items) (waiting_members c.args.waiting.now.items)
    c.in-InlineFragment.is (ap (λ (f : InlineFragment). f.selection_set) c.content-in-InlineFragment.ensures)) c.push_members-in-InlineFragment.ensures
