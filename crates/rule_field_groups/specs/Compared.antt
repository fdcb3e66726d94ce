-- Private: leads to `IsCountedBy`. How often shapes are compared in a pass.
use Rattle.std.specs.Prelude.{◌≡◌, ◌≤◌, ◌<◌, ◌+◌, ℕ, List, length}
use Rattle.rule_field_groups.specs.declared.pass.Pass.{Pass}
use Rattle.rule_field_groups.specs.declared.pass.Pass.TheVariants.{Shapes, Selections}

-- how often shapes are compared in a pass, at most: for two fields; for a list of fields
abbrev pub compared_once : Pass → ℕ
compared_once Shapes = 1
compared_once Selections = 0

abbrev pub compared : {X : Type 0} → Pass → List X → ℕ
compared Shapes list = length list
compared Selections list = 0

-- the greatest number that a count reaches, 2^128 - 1
abbrev pub greatest_count : ℕ
greatest_count = 340282366920938463463374607431768211455

-- a count goes up by so many; by at most as many, if it reaches the greatest number
abbrev pub CountsUp : ℕ → ℕ → ℕ → Type 0
CountsUp before more after = (before ≤ after) × ((after ≤ before + more) × (after < greatest_count → after ≡ before + more))
