use Rattle.tree_literals.specs.TypeTree.{type_tree}
use Rattle.tree_literals.proofs.TypeLaws.{compatible_itself, compatible_through, compatible_both_ways}
use Rattle.graphql_values.proofs.laws.assignable_types_are_ordered.Goals as goal

pub returns : goal.returns
returns c = record {
  reflexive = compatible_itself (type_tree c.args.a.now);
  transitive = compatible_through (type_tree c.args.a.now) (type_tree c.args.b.now) (type_tree c.args.c.now);
  antisymmetric = compatible_both_ways (type_tree c.args.a.now) (type_tree c.args.b.now);
}
