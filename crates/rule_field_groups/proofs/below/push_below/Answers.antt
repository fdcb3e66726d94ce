use Rattle.std.proofs.Common.{◌<◌, ℕ, List, [], ◌∷◌, length, sym, subst, arith}
use Rattle.std.proofs.lemmas.List.{take_all}
use Rattle.std.specs.Result.{OnOk}
use Rattle.std.proofs.lemmas.Result.{on_ok_weaker}
use Rattle.rule_field_sets.specs.declared.member.Member.{Member}
use Rattle.rule_field_groups.specs.Members.{fields_of, meant_sets}
use Rattle.list_interner.specs.NumberRows.{rows_of}
use Rattle.rule_field_groups.specs.Below.{AreSetsOf}
use Rattle.rule_field_groups.specs.Under.{sets_in, AddsBelow, JoinsSets}
use Rattle.rule_field_groups.proofs.Sets.{sets_begun, sets_step, two_items}
use Rattle.rule_field_groups.proofs.Under.{below_pushed}
use Rattle.rule_field_groups.proofs.below.push_below.Goals as goal

pub returns-then-fields-eq2 : goal.returns-then-fields-eq2
returns-then-fields-eq2 c =
    let w = c.args.sets.now in
    let one = c.index-fields-0.result in
    let other = c.index-fields-1.result in
    subst (λ (l : List Member). OnOk c.push_below_two.result (AddsBelow (fields_of l ∷ []) (sets_in w c.args.lists.now) (sets_in w c.push_below_two.new.lists)))
    (two_items c.args.fields.now one other c.if-fields-eq2.true c.index-fields-0.is c.index-fields-1.is) c.push_below_two.ensures

pub loop-field-init : goal.loop-field-init
loop-field-init c = sets_begun c.args.sets.now c.new-nodes.result.items c.new-nodes.ensures.items

pub note_node-requires-clause-member : goal.note_node-requires-clause-member
note_node-requires-clause-member c =
    let i = c.loop-field.field-index in
    let h : i < length c.args.fields.now = omega arith in
    c.requires.members c.field-item.result (i, h, sym c.field-item.is)

pub loop-field-preserved : goal.loop-field-preserved
loop-field-preserved c =
    let i = c.loop-field.field-index in
    let h : i < length c.args.fields.now = omega arith in
    sets_step c.args.sets.now c.args.fields.now c.loop-field.nodes.items c.note_node.new.nodes.items i c.field-item.result h c.field-item.is c.in_ok-note_node.ensures c.loop-field.invariant

pub returns : goal.returns
returns c =
    let w = c.args.sets.now in
    let nodes = c.loop-field.nodes.items in
    let all : AreSetsOf (fields_of c.args.fields.now) (meant_sets w nodes) = subst (λ (l : List Member). AreSetsOf (fields_of l) (meant_sets w nodes)) (take_all c.loop-field.field-index c.args.fields.now c.loop-field-test.false) c.loop-field.invariant in
    let old = rows_of c.args.lists.now in
    let new = rows_of c.push_joined.new.lists in
    on_ok_weaker c.push_joined.result (λ joins. below_pushed w (fields_of c.args.fields.now) nodes old new all (subst (λ (l : List ℕ). JoinsSets [] l old new) c.deref.ensures.value joins)) c.push_joined.ensures
