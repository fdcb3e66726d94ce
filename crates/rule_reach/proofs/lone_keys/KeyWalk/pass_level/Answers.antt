use Rattle.std.proofs.Common.{◌<◌, ◌≤◌, length, take, sym, subst, arith}
use Rattle.std.specs.Borrow.{Bor}
use Rattle.std.proofs.lemmas.List.{take_all}
use Rattle.document_typed_selections.specs.declared.selection.SelectionSet.{SelectionSet}
use Rattle.rule_definitions.proofs.Listing.{mapped_more}
use Rattle.rule_reach.specs.Passed.{read_of_set, sets_read, map_read, IsPassed}
use Rattle.rule_reach.proofs.Leveling.{none_passed}
use Rattle.rule_reach.proofs.lone_keys.KeyWalk.pass_level.Goals as goal

pub loop-index-init : goal.loop-index-init
loop-index-init c = none_passed (map_read c.args.fragments.now) (sets_read c.args.next.now.items)

pub loop-index-preserved : goal.loop-index-preserved
loop-index-preserved c =
    let level = c.args.level.now.items in
    let i = c.loop-index.index in
    let within : i < length level = omega (arith, c.loop-index-test.true, c.len-index-end.ensures) in
    let fs = map_read c.args.fragments.now in
    subst (λ l. IsPassed fs l (sets_read c.pass_set.new.next.items)) (sym (mapped_more (λ (s : Bor SelectionSet). read_of_set s.now) level i c.index-set.result.now within c.index-set.ensures))
    (c.in_ok-passed.ensures c.if-not-passed.false (sets_read (take i level)) c.loop-index.invariant)

pub returns : goal.returns
returns c = λ is.
    let level = c.args.level.now.items in
    let i = c.loop-index.index in
    let over : length level ≤ i = omega (arith, c.loop-index-test.false, c.len-index-end.ensures) in
    subst (λ l. IsPassed (map_read c.args.fragments.now) (sets_read l) (sets_read c.loop-index.next.items)) (take_all i level over) c.loop-index.invariant
