use Rattle.std.proofs.Common.{◌≡◌, length, arith}
use Rattle.document_typed_selections.specs.TypedTree.{typed_set_tree}
use Rattle.rule_field_sets.specs.Nodes.{fragment_nodes}
use Rattle.rule_field_sets.proofs.Kept.{sets_grow_same, sets_grow_both, all_started}
use Rattle.rule_field_sets.proofs.NextFragment.{next_found, none_next, fewer_next}
use Rattle.rule_field_sets.proofs.field_sets.FieldSets.add_fragments.Goals as goal

pub loop-fragment-init : goal.loop-fragment-init
loop-fragment-init c = record { sets = c.requires.sets; grown = sets_grow_same c.args.self.now }

pub add_fragment-requires : goal.add_fragment-requires
add_fragment-requires c = record {
  sets = c.loop-fragment.invariant.sets;
  fragment = next_found c.args.self.now c.loop-fragment.self c.loop-fragment.invariant.grown.fragments c.len.result (omega (c.len.ensures, arith)) c.in-Some.field-0-0.now c.in-Some.fragment.now c.content.result.now c.in-Some.ensures.entry c.content.ensures;
}

pub loop-fragment-preserved : goal.loop-fragment-preserved
loop-fragment-preserved c = record {
  sets = c.add_fragment.ensures.sets;
  grown = sets_grow_both c.args.self.now c.loop-fragment.self c.add_fragment.new.self c.loop-fragment.invariant.grown c.add_fragment.ensures.grown;
}

pub loop-fragment-smaller : goal.loop-fragment-smaller
loop-fragment-smaller c =
    let next = next_found c.args.self.now c.loop-fragment.self c.loop-fragment.invariant.grown.fragments c.len.result (omega (c.len.ensures, arith)) c.in-Some.field-0-0.now c.in-Some.fragment.now c.content.result.now c.in-Some.ensures.entry c.content.ensures in
    fewer_next c.args.self.now c.loop-fragment.self c.loop-fragment.invariant.grown.fragments c.len.result (omega (c.len.ensures, arith)) (typed_set_tree c.content.result.now.selection_set) c.add_fragment.new.self next c.in_ok-add_fragment.ensures.more

pub returns-in_err-add_fragment-clause-sets : goal.returns-in_err-add_fragment-clause-sets
returns-in_err-add_fragment-clause-sets c = c.add_fragment.ensures.sets

pub returns-in_err-add_fragment-clause-grown : goal.returns-in_err-add_fragment-clause-grown
returns-in_err-add_fragment-clause-grown c = sets_grow_both c.args.self.now c.loop-fragment.self c.add_fragment.new.self c.loop-fragment.invariant.grown c.add_fragment.ensures.grown

pub returns : goal.returns
returns c = record {
  sets = c.loop-fragment.invariant.sets;
  grown = c.loop-fragment.invariant.grown;
  starts = all_started c.loop-fragment.self c.loop-fragment.invariant.sets (none_next c.args.self.now c.loop-fragment.self c.loop-fragment.invariant.grown.fragments c.len.result (omega (c.len.ensures, arith)) c.in_default.ensures.entry);
}
