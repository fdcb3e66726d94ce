use Rattle.std.proofs.Common.{◌≡◌, ◌∷◌, map, ap, sym, subst, true}
use Rattle.document_typed_selections.specs.TypedTree.{typed_set_tree}
use Rattle.document_typed_operations.specs.WalkView.{fragments_tree, lent_member, gathered_names}
use Rattle.document_typed_operations.specs.Lending.{selections_left, selections_are_over}
use Rattle.document_typed_operations.proofs.Gathering.{Gathered, gathered_first, gathered_next, gathered_all, lent_ok}
use Rattle.document_typed_operations.proofs.selections.reached_fragments.Goals as goal

pub loop-selection-init : goal.loop-selection-init
loop-selection-init c =
    let fs = fragments_tree c.args.fragments.now in
    let start = typed_set_tree c.args.start.now in
    let first = gathered_first fs c.args.nested start (selections_left c.new-selection-items.result) c.new-selection-items.ensures.reached in
    subst (λ w. Gathered fs c.args.nested start (gathered_names c.new-names.result) (selections_left w)) (sym c.into_iter-selection-iterator.ensures.into_iter_gives)
    (subst (λ ns. Gathered fs c.args.nested start ns (selections_left c.new-selection-items.result)) (sym (ap (λ ks. map (λ k. k.now.text) ks) c.new-names.ensures.empty)) first)

pub loop-selection-preserved : goal.loop-selection-preserved
loop-selection-preserved c =
    let fs = fragments_tree c.args.fragments.now in
    let start = typed_set_tree c.args.start.now in
    let lent = lent_member c.in_ok-selection.field-0 in
    let left : selections_left c.loop-selection.selection-iterator ≡ lent ∷ selections_left c.next.new.self = lent_ok (λ e. selections_left c.loop-selection.selection-iterator ≡ lent_member e ∷ selections_left c.next.new.self) (λ e. selections_are_over c.next.new.self ≡ true) c.in-Some.selection c.in_ok-selection.field-0 c.in_ok-selection.was c.in-Some.ensures.steps.1 in
    subst (λ ns. Gathered fs c.args.nested start ns (selections_left c.next.new.self)) (sym c.in_ok-gather.ensures)
    (gathered_next fs c.args.nested start (gathered_names c.loop-selection.names) lent (selections_left c.next.new.self)
    (subst (λ l. Gathered fs c.args.nested start (gathered_names c.loop-selection.names) l) left c.loop-selection.invariant))

pub returns-clause-reached : goal.returns-clause-reached
returns-clause-reached c = gathered_all (fragments_tree c.args.fragments.now) c.args.nested (typed_set_tree c.args.start.now) (gathered_names c.loop-selection.names) (selections_left c.loop-selection.selection-iterator) c.in-None.ensures.steps.0 c.loop-selection.invariant

pub returns-clause-once : goal.returns-clause-once
returns-clause-once c = c.loop-selection.invariant.once
