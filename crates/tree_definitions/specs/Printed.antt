-- Private: leads to `document_text` and `definition_tree`. Partial texts of printers, and what is made from a copy.
use Rattle.std.specs.Prelude.{◌≡◌, ℕ, List, map}
use Rattle.graphql_names.specs.Node.{content, place}
use Rattle.graphql_names.specs.declared.node.Node.{Node}
use Rattle.spec_tree.specs.in_operations.Joined.{joined}
use Rattle.spec_tree.specs.in_operations.LineLayout.{Prefix}
use Rattle.tree_definitions.specs.DefinitionTree.{DefinitionTree}
use Rattle.tree_definitions.specs.DocumentLayout.{next_definition_text}

-- definitions after another one, each with the separator before it
abbrev pub further_definitions_text : {P : Type 0} → Prefix → ℕ → List (DefinitionTree P) → List ℕ
further_definitions_text prefix level ds = joined (map (next_definition_text prefix level) ds)

-- `d` is given by a copy of the node, which has the same content and place
abbrev pub IsFromCopy : {T D : Type 0} → (Node T → D → Type 0) → Node T → D → Type 0
IsFromCopy {T} gives node d = (copy : Node T) × ((content copy ≡ content node) × ((place copy ≡ place node) × gives copy d))
