-- What the two settings of a builder make of lists that are rearranged, or cut in two ways (GraphQL, October 2021, sections 3.3.2, 3.4.3 and
-- 3.5).
use Rattle.std.specs.Prelude.{◌≡◌}
use Rattle.schema_fold.specs.in_definitions.DefinitionTree.{unplaced_document}
use Rattle.schema_fold.specs.NumberedDefinition.{Definitions}
use Rattle.schema_fold.specs.Adoption.{Settings, settled}
use Rattle.verdict_laws.specs.RearrangedLists.{IsRearranged}
use Rattle.verdict_laws.specs.Elsewhere.{AreAllElsewhere}

-- the lists that count with the settings are rearranged too
abbrev pub SettledIsRearranged : Type 0
SettledIsRearranged = (built_in : Definitions) (settings : Settings) (ds es : Definitions) → IsRearranged ds es
    → IsRearranged (settled built_in settings ds) (settled built_in settings es)

-- the lists that count with the settings are the same, apart from places
abbrev pub CutSettlesAlike : Type 0
CutSettlesAlike = (built_in : Definitions) (settings : Settings) (ds es : Definitions) → unplaced_document ds ≡ unplaced_document es
    → unplaced_document (settled built_in settings ds) ≡ unplaced_document (settled built_in settings es)

-- if nothing in the list is in the file of what is built in, nothing in the list that counts with the settings is
abbrev pub SettledStandElsewhere : Type 0
SettledStandElsewhere = (built_in : Definitions) (settings : Settings) (ds : Definitions) → AreAllElsewhere ds → AreAllElsewhere (settled built_in settings ds)
