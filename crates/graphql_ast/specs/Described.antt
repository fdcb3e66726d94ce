-- Equality of definitions that may have descriptions.
use Rattle.std.specs.Prelude.{◌≡◌, Option}
use Rattle.graphql_names.specs.NodeStrValue.{NodeStrValue}
use Rattle.tree_definitions.specs.Descriptions.{AreSameDescriptions}

-- the descriptions are the same, and the parts are equal once `unplaced` has removed their places
abbrev pub AreSameDescribed : {A B : Type 0} → (A → B) → Option NodeStrValue → A → Option NodeStrValue → A → Type 0
AreSameDescribed unplaced d a e b = AreSameDescriptions d e × (unplaced a ≡ unplaced b)
