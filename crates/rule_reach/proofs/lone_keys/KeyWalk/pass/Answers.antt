use Rattle.std.proofs.Common.{◌∙◌, ap, sym, subst}
use Rattle.std.proofs.lemmas.Result.{IfOk-weaker}
use Rattle.graphql_names.specs.Placed.{name_tree}
use Rattle.document_typed_selections.specs.TypedTree.{typed_selection_tree}
use Rattle.document_typed_selections.specs.declared.selection.Selection.TheViews.{out-Selection}
use Rattle.document_typed_selections.proofs.TypedTrees.{typed_tree_field}
use Rattle.rule_reach.specs.Passed.{map_read, members_left, state_of, with_left, GoesOn}
use Rattle.rule_reach.proofs.Walking.{spread_left, inline_left}
use Rattle.rule_reach.proofs.lone_keys.KeyWalk.pass.Goals as goal

pub returns-in-Field-clause-went : goal.returns-in-Field-clause-went
returns-in-Field-clause-went c =
    let fs = map_read c.args.fragments.now in
    IfOk-weaker c.pass_field.result _ _
    (λ went goes is. subst (λ t. GoesOn fs (with_left (name_tree c.args.ty.now, t) (state_of c.args.self.now c.args.next.now.items)) (state_of c.pass_field.new.self c.pass_field.new.next.items))
    (sym (ap typed_selection_tree c.in-Field.is ∙ typed_tree_field c.in-Field.field)) (goes is fs))
    c.pass_field.ensures.went

pub returns-in_ok-push_fragment-in-FragmentSpread-clause-went : goal.returns-in_ok-push_fragment-in-FragmentSpread-clause-went
unfolding out-Selection denote.Hole.Carrier.out
returns-in_ok-push_fragment-in-FragmentSpread-clause-went c = λ is.
    spread_left (map_read c.args.fragments.now) c.args.ty.now c.in-FragmentSpread.spread c.content.result.now c.args.selection.now (state_of c.args.self.now c.args.next.now.items) (members_left c.push_fragment.new.left.items)
    (ap out-Selection c.in-FragmentSpread.is) c.content.ensures c.in_ok-push_fragment-in-FragmentSpread.ensures

pub returns-in_ok-push_selections-in-InlineFragment-clause-went : goal.returns-in_ok-push_selections-in-InlineFragment-clause-went
returns-in_ok-push_selections-in-InlineFragment-clause-went c = λ is.
    inline_left (map_read c.args.fragments.now) c.args.ty.now c.in-InlineFragment.inline c.content-in-InlineFragment.result.now c.args.selection.now (state_of c.args.self.now c.args.next.now.items) (members_left c.push_selections.new.left.items)
    c.in-InlineFragment.is c.content-in-InlineFragment.ensures c.in_ok-push_selections-in-InlineFragment.ensures
