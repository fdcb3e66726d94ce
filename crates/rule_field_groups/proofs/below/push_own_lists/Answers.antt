use Rattle.std.proofs.Common.{◌<◌, ℕ, List, map, length, Contains, sym, subst, arith, Vec, Global}
use Rattle.std.proofs.lemmas.List.{take_all}
use Rattle.std.proofs.lemmas.List.Elements.{Contains-get_or}
use Rattle.rule_selection_queries.proofs.in_document_definitions.Unplaced.{contains_map}
use Rattle.rule_field_groups.specs.Members.{fields_of, meant_sets, AreMembersOf}
use Rattle.rule_field_sets.specs.Read.{set_at}
use Rattle.rule_field_sets.specs.declared.member.Member.{Member}
use Rattle.list_interner.specs.NumberRows.{rows_of}
use Rattle.rule_field_groups.specs.Under.{sets_in, AreFurther, PutsTogether, JoinsEach}
use Rattle.rule_field_groups.proofs.Under.{none_joined, joined_more, map_together}
use Rattle.rule_field_groups.proofs.below.push_own_lists.Goals as goal

pub loop-own-init : goal.loop-own-init
loop-own-init c = none_joined (meant_sets c.args.sets.now c.args.shared.now.nodes.items) (sets_in c.args.sets.now c.args.lists.now)

pub further_sets-requires-clause-members : goal.further_sets-requires-clause-members
further_sets-requires-clause-members c =
    let owns = c.args.owns.now in
    let i = c.loop-own.own-index in
    let x = c.own-item.result in
    let h : i < length owns = omega arith in
    let there : Contains owns x = subst (Contains owns) (sym c.own-item.is) (Contains-get_or owns i x h) in
    subst (λ (l : List Member). AreMembersOf c.args.sets.now l) (sym c.deref.ensures.value)
    (c.requires.members x.items (contains_map (λ (o : Vec Member Global). o.items) owns x there))

pub loop-own-preserved : goal.loop-own-preserved
loop-own-preserved c =
    let w = c.args.sets.now in
    let first = c.args.shared.now.nodes.items in
    let further = c.in_ok-nodes.nodes.items in
    let i = c.loop-own.own-index in
    let x = c.own-item.result in
    let h : i < length c.args.owns.now = omega arith in
    let mid = rows_of c.loop-own.lists in
    let new = rows_of c.push_together.new.lists in
    joined_more (meant_sets w first) c.args.owns.now i x h c.own-item.is (meant_sets w further) (sets_in w c.args.lists.now) (sets_in w c.loop-own.lists) (sets_in w c.push_together.new.lists)
    (subst (λ (l : List Member). AreFurther (fields_of l) (meant_sets w first) (meant_sets w further)) c.deref.ensures.value c.in_ok-nodes.ensures)
    (map_together (set_at w) first further mid new
    (subst (λ (l : List ℕ). PutsTogether first l mid new) c.deref-in-loop-own-2.ensures.value
    (subst (λ (l : List ℕ). PutsTogether l c.deref-in-loop-own-2.result.now mid new) c.deref-in-loop-own.ensures.value c.in_ok-push_together.ensures)))
    c.loop-own.invariant

pub returns : goal.returns
returns c =
    subst (λ (l : List (Vec Member Global)). JoinsEach (meant_sets c.args.sets.now c.args.shared.now.nodes.items) (map (λ o. fields_of o.items) l) (sets_in c.args.sets.now c.args.lists.now) (sets_in c.args.sets.now c.loop-own.lists))
    (take_all c.loop-own.own-index c.args.owns.now c.loop-own-test.false) c.loop-own.invariant
