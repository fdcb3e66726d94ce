use Rattle.std.proofs.Common.{ap}
use Rattle.std.specs.Option.{option_map}
use Rattle.tree_literals.specs.in_names.Placed.{text_tree}
use Rattle.tree_input_types.specs.InputTypeTree.{root_tree}
use Rattle.tree_literals.proofs.in_names.Copies.{nodes-copies}
use Rattle.tree_input_types.proofs.schema.SchemaDefinitionClone.clone.Goals as goal

pub returns : goal.returns
returns c = record {
  cases = (
    ap (option_map text_tree) c.in_ok-clone_description.ensures,
    λ i. record {
      directives = c.in_ok-clone.ensures.cases i;
      roots = nodes-copies root_tree _ _ c.in_ok-clone-2.ensures.cases.0 i;
    },
  );
}
