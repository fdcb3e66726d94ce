use Rattle.rule_field_groups.specs.in_typed_selections.TypedTree.{typed_set_tree}
use Rattle.rule_merging.proofs.Operating.{begun_same, begun_known, node_given}
use Rattle.rule_merging.proofs.operation.begin.Goals as goal

pub returns-then-not-is_known-clause-begun : goal.returns-then-not-is_known-clause-begun
returns-then-not-is_known-clause-begun c = begun_same c.args.examined.now c.requires.sets

pub returns-clause-begun : goal.returns-clause-begun
returns-clause-begun c = begun_known c.args.examined.now c.add_set.new.self (c.is_known.ensures c.if-not-is_known.false) c.add_set.ensures.sets c.add_set.ensures.grown

pub returns-clause-node : goal.returns-clause-node
returns-clause-node c = node_given c.add_set.result c.add_set.new.self (typed_set_tree c.args.set.now) c.add_set.ensures.starts c.add_set.ensures.node
