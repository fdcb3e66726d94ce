use Rattle.tree_input_types.specs.InputTypeTree.{root_tree}
use Rattle.tree_literals.proofs.in_names.Copies.{nodes-copies}
use Rattle.tree_input_types.proofs.schema.SchemaExtensionClone.clone.Goals as goal

pub returns : goal.returns
returns c = record {
  cases = λ i. record {
    directives = c.in_ok-clone.ensures.cases i;
    roots = nodes-copies root_tree _ _ c.in_ok-clone-2.ensures.cases.0 i;
  };
}
