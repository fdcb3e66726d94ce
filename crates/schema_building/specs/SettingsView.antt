-- What contracts see of a builder's settings.
use Rattle.schema_built_in.specs.in_fold.Adoption.{Settings}
use Rattle.schema_building.specs.declared.settle.Settings.{Settings as Rust}

abbrev pub settings_view : Rust → Settings
settings_view s = record { adopts = s.adopts; ignores = s.ignores }
