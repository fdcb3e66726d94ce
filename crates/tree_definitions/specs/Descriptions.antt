-- Equality of descriptions.
use Rattle.std.specs.Prelude.{◌≡◌, Option}
use Rattle.std.specs.Option.{option_map}
use Rattle.graphql_names.specs.NodeStrValue.{NodeStrValue}
use Rattle.spec_tree.specs.in_operations.Placed.{text_tree, unplaced_text}

-- both are missing, or both are present with the same text
abbrev pub AreSameDescriptions : Option NodeStrValue → Option NodeStrValue → Type 0
AreSameDescriptions d e = option_map unplaced_text (option_map text_tree d) ≡ option_map unplaced_text (option_map text_tree e)
