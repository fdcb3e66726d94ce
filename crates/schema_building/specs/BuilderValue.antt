-- What contracts see of the state of a schema builder.
use Rattle.std.specs.Prelude.{ℕ, Bool, List}
use Rattle.schema_built_in.specs.in_definitions.Sources.{Source}
use Rattle.schema_built_in.specs.in_fold.NumberedDefinition.{Definitions}
use Rattle.schema_built_in.specs.in_fold.Adoption.{Settings}

-- the number from which a builder counts extensions, all definitions that were added and their sources, in order, the settings,
-- and whether the builder has failed; if it has, nothing else counts
pub record BuilderValue : Type 0 where
  pub first : ℕ
  pub texts : Definitions
  pub sources : List (ℕ × Source)
  pub settings : Settings
  pub failed : Bool
