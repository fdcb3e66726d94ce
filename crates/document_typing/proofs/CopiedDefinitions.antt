-- Copies of definitions stand for the same.
use Rattle.std.proofs.Common.{◌≡◌, List, [], ◌∷◌, map, refl}
use Rattle.std.specs.List.{AllZip}
use Rattle.tree_definitions.specs.DefinitionTree.{definition_tree}
use Rattle.tree_definitions.specs.declared.definition.Definition.{Definition}

pub same-trees : (ds cs : List Definition) → AllZip (λ d c. definition_tree c ≡ definition_tree d) ds cs → map definition_tree cs ≡ map definition_tree ds
same-trees [] [] h = refl
same-trees [] (c ∷ cs) h = absurd h
same-trees (d ∷ ds) [] h = absurd h
same-trees (d ∷ ds) (c ∷ cs) h = λ i. h.0 i ∷ same-trees ds cs h.1 i
