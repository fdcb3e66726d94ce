use Rattle.std.proofs.Common.{◌≡◌, ◌∷◌, false, true, refl, sym, ap, subst, ◌∙◌}
use Rattle.std.specs.Prelude.{if◌then◌else◌}
use Rattle.graphql_names.specs.Node.{content}
use Rattle.document_typed_operations.specs.TypedDocument.{typed_document_tree}
use Rattle.document_typed_operations.specs.declared.operation.Operation.{Operation}
use Rattle.document_typed_selections.specs.TypedTree.{typed_selection_tree, typed_set_tree}
use Rattle.document_typed_operations.specs.Reached.{IsMemberWalk}
use Rattle.document_typed_operations.specs.WalkView.{fragments_tree, lent_member}
use Rattle.document_typed_operations.specs.Lending.{selections_left, selections_are_over}
use Rattle.document_typed_operations.proofs.Gathering.{lent_ok}
use Rattle.document_typed_operations.proofs.WalkLaws.{fragments_tree-document}
use Rattle.rule_selection_queries.specs.Lent.{lent as lent_selection}
use Rattle.rule_selection_queries.specs.in_reach.in_typed_operations.DocumentView.{document_meant, operation_meant}
use Rattle.rule_fragments.specs.ListedBreaches.{fields_in, field_count}
use Rattle.rule_fragments.proofs.Counted.{counted, counted_all, none_yet, none_found, first_found, second_found, two_fields, at_most_one}
use Rattle.rule_fragments.proofs.Introspected.{counts}
use Rattle.rule_fragments.proofs.Lent.{members_lent}
use Rattle.rule_fragments.proofs.Rooted.{roots}
use Rattle.rule_fragments.proofs.roots.has_several_fields.Goals as goal

pub loop-selection-init : goal.loop-selection-init
loop-selection-init c =
    let given = selections_left c.new-selection-items.result in
    let set = typed_set_tree (content c.args.operation.now).selection_set in (
      given,
      (
        subst (λ fs. IsMemberWalk false fs set given) (sym (fragments_tree-document c.args.document.now))
            (subst (λ (x : Operation). IsMemberWalk false (fragments_tree c.args.document.now.fragments) (typed_set_tree x.selection_set) given) c.content.ensures c.new-selection-items.ensures.walk),
        none_yet _ _ (ap (λ w. field_count (members_lent (selections_left w))) c.into_iter-selection-iterator.ensures.into_iter_gives),
      ),
    )

pub returns-then-has_one : goal.returns-then-has_one
returns-then-has_one c =
    let d = document_meant c.args.document.now in
    let o = operation_meant c.args.operation.now in
    let e = c.in_ok-selection.field-0 in
    let left = selections_left c.loop-selection.selection-iterator in
    let rest = selections_left c.next.new.self in
    let lent = lent_ok (λ e. left ≡ lent_member e ∷ rest) (λ e. selections_are_over c.next.new.self ≡ true) c.in-Some.selection e c.in_ok-selection.was c.in-Some.ensures.steps.1 in
    let so_far = c.loop-selection.invariant in
    let one : fields_in (lent_selection e.1.now) ≡ (if true then 1 else 0) = counts (typed_selection_tree e.1.now) c.as_field.result c.as_field.ensures ∙ ap (λ b. if b then 1 else 0) (sym c.if-is_some.ensures) in
    two_fields d o so_far.0 (roots (typed_document_tree c.args.document.now) o (typed_set_tree (content c.args.operation.now).selection_set) refl so_far.0 so_far.1.0 (members_lent so_far.0) refl) (field_count (members_lent rest))
    (second_found c.loop-selection.has_one (field_count (members_lent so_far.0)) (field_count (members_lent left)) (field_count (members_lent rest)) (fields_in (lent_selection e.1.now)) c.if-has_one.true one (counted e left rest lent) so_far.1.1)

pub loop-selection-preserved-then-is_some : goal.loop-selection-preserved-then-is_some
loop-selection-preserved-then-is_some c =
    let e = c.in_ok-selection.field-0 in
    let left = selections_left c.loop-selection.selection-iterator in
    let rest = selections_left c.next.new.self in
    let lent = lent_ok (λ e. left ≡ lent_member e ∷ rest) (λ e. selections_are_over c.next.new.self ≡ true) c.in-Some.selection e c.in_ok-selection.was c.in-Some.ensures.steps.1 in
    let so_far = c.loop-selection.invariant in
    let one : fields_in (lent_selection e.1.now) ≡ (if true then 1 else 0) = counts (typed_selection_tree e.1.now) c.as_field.result c.as_field.ensures ∙ ap (λ b. if b then 1 else 0) (sym c.if-is_some.ensures) in
    (so_far.0, (so_far.1.0, first_found c.loop-selection.has_one (field_count (members_lent so_far.0)) (field_count (members_lent left)) (field_count (members_lent rest)) (fields_in (lent_selection e.1.now)) c.if-has_one.false one (counted e left rest lent) so_far.1.1))

pub loop-selection-preserved : goal.loop-selection-preserved
loop-selection-preserved c =
    let e = c.in_ok-selection.field-0 in
    let left = selections_left c.loop-selection.selection-iterator in
    let rest = selections_left c.next.new.self in
    let lent = lent_ok (λ e. left ≡ lent_member e ∷ rest) (λ e. selections_are_over c.next.new.self ≡ true) c.in-Some.selection e c.in_ok-selection.was c.in-Some.ensures.steps.1 in
    let so_far = c.loop-selection.invariant in
    let one : fields_in (lent_selection e.1.now) ≡ (if false then 1 else 0) = counts (typed_selection_tree e.1.now) c.as_field.result c.as_field.ensures ∙ ap (λ b. if b then 1 else 0) (sym c.if-is_some.ensures) in
    (so_far.0, (so_far.1.0, none_found c.loop-selection.has_one (field_count (members_lent so_far.0)) (field_count (members_lent left)) (field_count (members_lent rest)) (fields_in (lent_selection e.1.now)) one (counted e left rest lent) so_far.1.1))

pub returns : goal.returns
returns c =
    let d = document_meant c.args.document.now in
    let o = operation_meant c.args.operation.now in
    let left = selections_left c.loop-selection.selection-iterator in
    let so_far = c.loop-selection.invariant in
    at_most_one d o so_far.0 (roots (typed_document_tree c.args.document.now) o (typed_set_tree (content c.args.operation.now).selection_set) refl so_far.0 so_far.1.0 (members_lent so_far.0) refl) c.loop-selection.has_one (field_count (members_lent left)) (counted_all left c.in-None.ensures.steps.0) so_far.1.1
