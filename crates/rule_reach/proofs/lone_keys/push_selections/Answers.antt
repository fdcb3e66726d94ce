use Rattle.std.proofs.Common.{◌<◌, ◌≤◌, ◌∙◌, ◌++◌, length, refl, sym, ap, append-nil, arith}
use Rattle.std.proofs.lemmas.List.{take_all}
use Rattle.document_typed_operations.specs.WalkView.{members_on}
use Rattle.document_typed_operations.proofs.Standings.{set_members}
use Rattle.rule_reach.specs.Passed.{members_left}
use Rattle.rule_reach.proofs.Walking.{selection_pushed}
use Rattle.rule_reach.proofs.lone_keys.push_selections.Goals as goal

pub loop-selection-init : goal.loop-selection-init
loop-selection-init c = sym (append-nil (members_left c.args.left.now.items))

pub loop-selection-preserved : goal.loop-selection-preserved
loop-selection-preserved c =
    let items = c.deref-selection-items.result.now in
    let i = c.loop-selection.selection-index in
    let within : i < length items = omega arith in
    selection_pushed c.args.set.now.ty items i c.selection-item.result _ c.args.left.now.items c.loop-selection.left.items c.push.new.self.items within c.selection-item.is refl c.in_ok-push.ensures.items c.loop-selection.invariant

pub returns : goal.returns
returns c =
    let items = c.deref-selection-items.result.now in
    let i = c.loop-selection.selection-index in
    let over : length items ≤ i = omega arith in
    c.loop-selection.invariant
    ∙ ap (λ l. members_left c.args.left.now.items ++ members_on c.args.set.now.ty l) (take_all i items over ∙ c.deref-selection-items.ensures.value)
    ∙ ap (λ l. members_left c.args.left.now.items ++ l) (set_members c.args.set.now)
