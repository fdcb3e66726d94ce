-- In which of 256 buckets a fault is looked for, so that equal ones are found without looking at all.
use Rattle.std.specs.Prelude.{◌%◌, ℕ, None, Some}
use Rattle.graphql_names.specs.Placed.{Place}

-- the bucket of what is at a place: places that begin at offsets that are equal modulo 256 share one
abbrev pub place_bucket : Place → ℕ
place_bucket None = 0
place_bucket (Some s) = s.offset % 256
