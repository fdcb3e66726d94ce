use Rattle.std.proofs.Common.{ℕ, [], List, map, Contains, sym, subst, Vec, Global}
use Rattle.std.proofs.lemmas.Result.{on_ok_weaker}
use Rattle.list_interner.specs.NumberRows.{rows_of}
use Rattle.rule_field_groups.specs.Members.{fields_of, meant_sets, AreMembersOf}
use Rattle.rule_field_sets.specs.declared.member.Member.{Member}
use Rattle.rule_field_groups.specs.Below.{AreSetsOf}
use Rattle.rule_field_groups.specs.Under.{sets_in, JoinsSets, JoinsEach}
use Rattle.rule_field_groups.proofs.Under.{parts_below, sets_joined, shared_members, own_members}
use Rattle.rule_field_groups.proofs.below.push_lists_below.Goals as goal

pub sets_of-requires-clause-members : goal.sets_of-requires-clause-members
sets_of-requires-clause-members c =
    subst (λ (l : List Member). AreMembersOf c.args.sets.now l) (sym c.deref.ensures.value) (shared_members c.args.sets.now c.args.group.now c.requires.members)

pub push_own_lists-requires-clause-members : goal.push_own_lists-requires-clause-members
push_own_lists-requires-clause-members c = λ own there.
    own_members c.args.sets.now c.args.group.now c.requires.members own
    (subst (λ (l : List (Vec Member Global)). Contains (map (λ o. o.items) l) own) c.deref-3.ensures.value there)

pub returns : goal.returns
returns c =
    let w = c.args.sets.now in
    let group = c.args.group.now in
    let nodes = c.in_ok-shared.shared.nodes.items in
    let old = c.args.lists.now in
    let begun = c.push_joined.new.lists in
    let new = sets_in w c.push_own_lists.new.lists in
    on_ok_weaker c.push_own_lists.result
    (λ joins.
    parts_below group.shared.items group.own.items (meant_sets w nodes) (sets_in w old) (sets_in w begun) new
    (subst (λ (l : List Member). AreSetsOf (fields_of l) (meant_sets w nodes)) c.deref.ensures.value c.in_ok-shared.ensures.sets)
    (sets_joined w nodes (rows_of old) (rows_of begun) (subst (λ (l : List ℕ). JoinsSets [] l (rows_of old) (rows_of begun)) c.deref-2.ensures.value c.in_ok-push_joined.ensures))
    (subst (λ (l : List (Vec Member Global)). JoinsEach (meant_sets w nodes) (map (λ o. fields_of o.items) l) (sets_in w begun) new) c.deref-3.ensures.value joins))
    c.push_own_lists.ensures
