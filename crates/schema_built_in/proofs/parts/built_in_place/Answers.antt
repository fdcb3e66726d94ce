-- The place fits in one way.
use Rattle.std.proofs.Common.{◌<◌, ◌+◌, ◌^◌, Some, ap, lit<}
use Rattle.std.specs.Coded.{le_prop}
use Rattle.graphql_names.specs.Placed.{Place}
use Rattle.schema_built_in.proofs.parts.built_in_place.Goals as goal

abbrev span : (0 + 0 < 2 ^ 64) → Place
span p = Some (record { file_id = record { 0 = 0 }; offset = 0; length = 0; fits = p })

pub returns : goal.returns
returns c = ap span (le_prop _ (lit< tt))
