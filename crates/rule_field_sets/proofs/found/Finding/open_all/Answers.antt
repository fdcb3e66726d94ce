use Rattle.std.proofs.Common.{◌≡◌, ◌<◌, length, arith}
use Rattle.std.specs.Borrow.{Bor}
use Rattle.std.proofs.lemmas.List.{length-map}
use Rattle.document_typed_selections.specs.TypedTree.{typed_set_tree}
use Rattle.document_typed_selections.specs.declared.selection.SelectionSet.{SelectionSet}
use Rattle.rule_field_sets.specs.Opened.{typed_sets}
use Rattle.rule_field_sets.proofs.AllOpened.{one_more, all_opened}
use Rattle.rule_field_sets.proofs.found.Finding.open_all.Goals as goal

pub loop-alloc-preserved : goal.loop-alloc-preserved
loop-alloc-preserved c =
    let k = c.len-in-loop-alloc-2.result in
    let last : k ≡ length c.loop-alloc.found.items = omega (arith, c.len-in-loop-alloc-2.ensures) in
    let within : k < length c.loop-alloc.self.sets.items = omega (arith, last, c.loop-alloc-test.true, c.len.ensures, c.len-in-loop-alloc.ensures) in
    let one = one_more c.loop-alloc.self c.open.new.self c.loop-alloc.found.items c.push.new.self.items c.in_ok-open.field-0 c.index-set.result.now k last within c.index-set.ensures
    c.loop-alloc.invariant.none_left c.in_ok-open.ensures c.in_ok-push.ensures.items in
    record { none_left = one.none_left; opened = λ set so_far. one.opened set (c.loop-alloc.invariant.opened set so_far) }

pub loop-alloc-smaller : goal.loop-alloc-smaller
loop-alloc-smaller c =
    let k = c.len-in-loop-alloc-2.result in
    let last : k ≡ length c.loop-alloc.found.items = omega (arith, c.len-in-loop-alloc-2.ensures) in
    let within : k < length c.loop-alloc.self.sets.items = omega (arith, last, c.loop-alloc-test.true, c.len.ensures, c.len-in-loop-alloc.ensures) in
    (one_more c.loop-alloc.self c.open.new.self c.loop-alloc.found.items c.push.new.self.items c.in_ok-open.field-0 c.index-set.result.now k last within c.index-set.ensures
    c.loop-alloc.invariant.none_left c.in_ok-open.ensures c.in_ok-push.ensures.items).fewer

pub returns : goal.returns
returns c set so_far =
    all_opened set (typed_sets c.loop-alloc.self.sets.items) c.loop-alloc.found.items
    (omega (arith, c.loop-alloc-test.false, c.len.ensures, c.len-in-loop-alloc.ensures, length-map c.loop-alloc.self.sets.items (λ (s : Bor SelectionSet). typed_set_tree s.now)))
    (c.loop-alloc.invariant.opened set so_far)
