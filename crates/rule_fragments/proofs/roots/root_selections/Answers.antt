use Rattle.std.proofs.Common.{◌≡◌, ◌∷◌, ◌++◌, false, true, refl, sym, subst}
use Rattle.graphql_names.specs.Node.{content}
use Rattle.document_typed_operations.specs.TypedDocument.{typed_document_tree}
use Rattle.document_typed_operations.specs.declared.operation.Operation.{Operation}
use Rattle.document_typed_selections.specs.TypedTree.{typed_set_tree}
use Rattle.document_typed_operations.specs.Reached.{IsMemberWalk}
use Rattle.document_typed_operations.specs.WalkView.{fragments_tree, lent_member}
use Rattle.document_typed_operations.specs.Lending.{selections_left, selections_are_over}
use Rattle.document_typed_operations.proofs.Gathering.{lent_ok}
use Rattle.document_typed_operations.proofs.WalkLaws.{fragments_tree-document}
use Rattle.rule_selection_queries.specs.in_reach.in_typed_operations.DocumentView.{operation_meant}
use Rattle.rule_selection_queries.specs.Lent.{lent_all}
use Rattle.rule_fragments.proofs.Lent.{members_lent, taken, all_taken}
use Rattle.rule_fragments.proofs.Rooted.{roots}
use Rattle.rule_fragments.proofs.roots.root_selections.Goals as goal

pub loop-selection-init : goal.loop-selection-init
loop-selection-init c =
    let given = selections_left c.new-selection-items.result in
    let set = typed_set_tree (content c.args.operation.now).selection_set in (
      given,
      (
        subst (λ fs. IsMemberWalk false fs set given) (sym (fragments_tree-document c.args.document.now))
            (subst (λ (x : Operation). IsMemberWalk false (fragments_tree c.args.document.now.fragments) (typed_set_tree x.selection_set) given) c.content.ensures c.new-selection-items.ensures.walk),
        (λ i. lent_all (c.new-roots.ensures.items i) ++ members_lent (selections_left (c.into_iter-selection-iterator.ensures.into_iter_gives i))),
      ),
    )

pub loop-selection-preserved : goal.loop-selection-preserved
loop-selection-preserved c =
    let left = lent_ok (λ e. selections_left c.loop-selection.selection-iterator ≡ lent_member e ∷ selections_left c.next.new.self) (λ e. selections_are_over c.next.new.self ≡ true) c.in-Some.selection c.in_ok-selection.field-0 c.in_ok-selection.was c.in-Some.ensures.steps.1 in
    let so_far = c.loop-selection.invariant in
    (so_far.0, (so_far.1.0, taken c.loop-selection.roots.items c.push.new.self.items c.in_ok-selection.field-0 c.in_ok-clone.field-0 (selections_left c.loop-selection.selection-iterator) (selections_left c.next.new.self) (members_lent so_far.0) left c.in_ok-clone.ensures.cases c.in_ok-push.ensures.items so_far.1.1))

pub returns : goal.returns
returns c =
    let so_far = c.loop-selection.invariant in
    roots (typed_document_tree c.args.document.now) (operation_meant c.args.operation.now) (typed_set_tree (content c.args.operation.now).selection_set) refl so_far.0 so_far.1.0
    (lent_all c.loop-selection.roots.items) (all_taken c.loop-selection.roots.items (selections_left c.loop-selection.selection-iterator) (members_lent so_far.0) c.in-None.ensures.steps.0 so_far.1.1)
