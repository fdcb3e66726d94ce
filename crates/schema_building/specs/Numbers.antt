-- Whether there are numbers for the extensions of a list.
use Rattle.std.specs.Prelude.{ℕ, ◌+◌, ◌<◌, ◌^◌, length}
use Rattle.std.specs.List.{filter}
use Rattle.schema_built_in.specs.in_definitions.Queries.{is_extension}
use Rattle.schema_built_in.specs.in_fold.NumberedDefinition.{Definitions}

-- how many definitions are extensions
abbrev pub extension_count : Definitions → ℕ
extension_count ds = length (filter is_extension ds)

-- each extension has a number of 64 bits if they are counted from `first`; the greatest such number is given to none
abbrev pub HaveNumbers : ℕ → Definitions → Type 0
HaveNumbers first ds = 0 < extension_count ds → first + extension_count ds < 2 ^ 64
