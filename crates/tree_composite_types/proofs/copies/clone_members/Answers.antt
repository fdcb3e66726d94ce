use Rattle.std.proofs.Common.{map}
use Rattle.tree_literals.specs.in_names.Placed.{name_tree}
use Rattle.tree_type_members.specs.TypeSystemTree.{field_definition_tree}
use Rattle.graphql_names.proofs.Copies.{nodes-copies, equal-copies}
use Rattle.tree_composite_types.proofs.copies.clone_members.Goals as goal

pub returns : goal.returns
returns c = (λ i. map name_tree (equal-copies _ _ c.in_ok-clone.ensures.cases.0 i), nodes-copies field_definition_tree _ _ c.in_ok-clone-2.ensures.cases.0)
