use Rattle.std.proofs.Common.{◌∙◌, ap, sym}
use Rattle.document_typed_selections.specs.declared.selection.InlineFragment.{InlineFragment}
use Rattle.rule_selections.specs.Settled.{IsNoted}
use Rattle.rule_selections.proofs.Members.{field_enters, inline_enters, inline_applies}
use Rattle.rule_selections.proofs.quiet.enters_well.Goals as goal

pub returns-in-Field : goal.returns-in-Field
returns-in-Field c = λ h. field_enters (IsNoted c.args.common.now.applying.now) c.args.ty.now.text c.args.selection.now c.in-Field.field-0 c.in-Field.is

pub returns-in-None : goal.returns-in-None
returns-in-None c = λ h. inline_enters (IsNoted c.args.common.now.applying.now) c.args.ty.now.text c.args.selection.now c.in-InlineFragment.node c.in-InlineFragment.is (ap (λ (x : InlineFragment). x.type_condition) (sym c.content.ensures) ∙ c.in-None.is)

pub returns-in-Some : goal.returns-in-Some
returns-in-Some c = λ h. inline_applies (IsNoted c.args.common.now.applying.now) c.args.ty.now.text c.args.selection.now c.in-InlineFragment.node c.in-InlineFragment.is c.in-Some.condition (ap (λ (x : InlineFragment). x.type_condition) (sym c.content.ensures) ∙ c.in-Some.is) (c.applies.ensures h)
