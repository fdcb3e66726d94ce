use Rattle.std.proofs.Common.{arith}
use Rattle.document_typed_selections.specs.TypedTree.{typed_set_tree}
use Rattle.rule_field_sets.specs.Nodes.{set_nodes}
use Rattle.rule_field_sets.proofs.Putting.{first_is, some_found}
use Rattle.rule_field_sets.proofs.field_sets.FieldSets.add_nodes.Goals as goal

pub returns : goal.returns
returns c = record {
  sets = c.add_found.ensures.sets;
  grown = c.add_found.ensures.grown;
  node = first_is (typed_set_tree c.args.set.now) c.in_ok-found.found.items (set_nodes c.add_found.new.self) _ c.in_ok-found.ensures c.in_ok-add_found.ensures.node;
}
