use Rattle.std.proofs.Common.{◌≡◌, [], length, drop}
use Rattle.graphql_names.specs.Placed.{Place}
use Rattle.document_typed_selections.specs.TypedTree.{TypedSet}
use Rattle.rule_field_sets.specs.Opened.{left_of, typed_sets, AreOpened}
use Rattle.rule_field_sets.proofs.AllOpened.{weights}
use Rattle.rule_field_sets.proofs.found.Finding.open_all.Given as goal

abbrev pub invariant-loop-alloc : goal.invariant-loop-alloc
invariant-loop-alloc l = record {
  none_left : left_of l.self.left.items ≡ [];
  opened : (set : TypedSet Place) → AreOpened set (typed_sets l.fn.self.sets.items) l.fn.found.items → AreOpened set (typed_sets l.self.sets.items) l.found.items;
}

abbrev pub decreases-loop-alloc : goal.decreases-loop-alloc
decreases-loop-alloc l = weights (drop (length l.found.items) (typed_sets l.self.sets.items))
