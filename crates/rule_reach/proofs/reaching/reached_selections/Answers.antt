use Rattle.std.proofs.Common.{◌≡◌, ◌++◌, ◌∙◌, ◌∷◌, [], map, true, ap, sym, append-nil}
use Rattle.std.proofs.lemmas.List.{map-append}
use Rattle.document_typed_selections.specs.TypedTree.{typed_set_tree}
use Rattle.document_typed_operations.specs.Reached.{IsReached}
use Rattle.document_typed_operations.specs.WalkView.{fragments_tree, lent_member}
use Rattle.document_typed_operations.specs.Lending.{selections_left, selections_are_over}
use Rattle.document_typed_operations.proofs.Gathering.{lent_ok}
use Rattle.rule_reach.specs.Gathered.{lent_members}
use Rattle.rule_reach.proofs.Found.{same_members, lent_more}
use Rattle.rule_reach.proofs.reaching.reached_selections.Goals as goal

pub loop-selection-init : goal.loop-selection-init
loop-selection-init c = same_members (lent_members c.new-selections.result ++ selections_left c.into_iter-selection-iterator.result) (selections_left c.new-selection-items.result) (IsReached true (fragments_tree c.args.fragments.now) (typed_set_tree c.args.start.now))
    (λ i. map lent_member (c.new-selections.ensures.items i) ++ selections_left (c.into_iter-selection-iterator.ensures.into_iter_gives i))
    c.new-selection-items.ensures.reached

pub loop-selection-preserved : goal.loop-selection-preserved
loop-selection-preserved c =
    let member = c.in_ok-selection.field-0 in
    let old = c.loop-selection.selections.items in
    let left = selections_left c.next.new.self in
    let lent : selections_left c.loop-selection.selection-iterator ≡ lent_member member ∷ left = lent_ok (λ e. selections_left c.loop-selection.selection-iterator ≡ lent_member e ∷ left) (λ e. selections_are_over c.next.new.self ≡ true) c.in-Some.selection member c.in_ok-selection.was c.in-Some.ensures.steps.1 in
    same_members (lent_members c.push.new.self ++ left) (lent_members c.loop-selection.selections ++ selections_left c.loop-selection.selection-iterator) (IsReached true (fragments_tree c.args.fragments.now) (typed_set_tree c.args.start.now))
    (ap (λ l. l ++ left) (ap (map lent_member) c.in_ok-push.ensures.items ∙ map-append lent_member old (member ∷ []))
    ∙ lent_more (map lent_member old) (lent_member member) left
    ∙ ap (λ l. map lent_member old ++ l) (sym lent))
    c.loop-selection.invariant

pub returns : goal.returns
returns c =
    let made = lent_members c.loop-selection.selections in
    same_members made (made ++ selections_left c.loop-selection.selection-iterator) (IsReached true (fragments_tree c.args.fragments.now) (typed_set_tree c.args.start.now))
    (sym (ap (λ l. made ++ l) c.in-None.ensures.steps.0 ∙ append-nil made)) c.loop-selection.invariant
