use Rattle.std.proofs.Common.{map}
use Rattle.tree_literals.specs.in_names.Placed.{name_tree}
use Rattle.graphql_names.proofs.Copies.{equal-copies}
use Rattle.tree_composite_types.proofs.union_type.UnionTypeDefinitionClone.clone.Goals as goal

pub returns : goal.returns
returns c = record {
  cases = (
    c.in_ok-description.ensures.0,
    λ i. record {
      name = c.in_ok-description.ensures.1.0 i;
      directives = c.in_ok-description.ensures.1.1 i;
      members = map name_tree (equal-copies _ _ c.in_ok-clone.ensures.cases.0 i);
    },
  );
}
