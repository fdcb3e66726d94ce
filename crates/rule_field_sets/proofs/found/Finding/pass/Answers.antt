use Rattle.std.proofs.Common.{refl, ap}
use Rattle.document_typed_selections.specs.declared.selection.FragmentSpread.{FragmentSpread}
use Rattle.document_typed_selections.specs.declared.selection.Selection.TheViews.{out-Selection}
use Rattle.document_typed_operations.proofs.Standings.{ok_so}
use Rattle.rule_field_sets.specs.Opened.{state_of, left_of}
use Rattle.rule_field_sets.proofs.Opening.{field_passed, spread_passed, inline_passed}
use Rattle.rule_field_sets.proofs.found.Finding.pass.Goals as goal

pub returns-in-Field : goal.returns-in-Field
returns-in-Field c =
    ok_so c.push_field.result
    (λ went. field_passed c.args.ty.now c.in-Field.field c.args.selection.now (state_of c.args.self.now c.args.found.now) (state_of c.push_field.new.self c.push_field.new.found) c.in-Field.is went)
    c.push_field.ensures

pub returns-in_ok-push-in-FragmentSpread : goal.returns-in_ok-push-in-FragmentSpread
unfolding out-Selection denote.Hole.Carrier.out
returns-in_ok-push-in-FragmentSpread c =
    spread_passed c.args.ty.now c.in-FragmentSpread.spread _ c.args.selection.now c.args.found.now.spreads.items c.push.new.self.items (state_of c.args.self.now c.args.found.now)
    (ap out-Selection c.in-FragmentSpread.is) (ap (λ (f : FragmentSpread). f.fragment_name) c.content.ensures) c.in_ok-push-in-FragmentSpread.ensures.items refl

pub returns-in-InlineFragment : goal.returns-in-InlineFragment
returns-in-InlineFragment c =
    ok_so c.push_selections.result
    (λ went. inline_passed c.args.ty.now c.in-InlineFragment.inline c.content-in-InlineFragment.result.now c.args.selection.now (left_of c.push_selections.new.left.items) (state_of c.args.self.now c.args.found.now)
    c.in-InlineFragment.is c.content-in-InlineFragment.ensures went)
    c.push_selections.ensures
