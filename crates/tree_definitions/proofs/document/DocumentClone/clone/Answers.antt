use Rattle.tree_definitions.specs.DefinitionTree.{definition_tree}
use Rattle.tree_definitions.proofs.Copies.{trees-copies, sources-copies}
use Rattle.tree_definitions.proofs.document.DocumentClone.clone.Goals as goal

pub returns : goal.returns
returns c = record { cases = (trees-copies definition_tree _ _ c.in_ok-clone-2.ensures.cases.0, sources-copies _ _ c.in_ok-clone.ensures.cases) }
