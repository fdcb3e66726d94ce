-- The premises of the law of literals hold of what is read: texts that are read under other numbers than that of what is built in add no
-- built-in scalar, and no enum value that is no EnumValue (GraphQL, October 2021, sections 2.9.6 and 3.5).
use Rattle.std.specs.Prelude.{◌≢◌, ℕ, List}
use Rattle.std.specs.List.{flat_map, AllByRecursion}
use Rattle.schema_fold.specs.BuiltIn.{built_in_definitions}
use Rattle.schema_fold.specs.NumberedDefinition.{Definitions}
use Rattle.schema_fold.specs.Adoption.{Settings, settled}
use Rattle.schema_fold.specs.Fold.{fold}
use Rattle.round_trip.specs.in_read.Sound.{IsSound}
use Rattle.rule_definitions.specs.Judged.{Judged, judged}
use Rattle.rule_schema_laws.specs.Literals.{HasTheFiveAlone, HasNoKeywordValue}

-- texts that were read: the number of each, and its definitions
abbrev pub Texts : Type 0
Texts = List (ℕ × Definitions)

-- each is as the reader gives it, under another number than that of what is built in
abbrev pub AreReadElsewhere : Texts → Type 0
AreReadElsewhere texts = AllByRecursion (λ t. (t.0 ≢ 0) × IsSound t.0 t.1) texts

-- what rules read of the schema to which a builder with these settings folds the texts, after what is built in
abbrev pub judged_schema_of : Settings → ℕ → Texts → Judged
judged_schema_of settings first texts = judged (fold built_in_definitions first (settled built_in_definitions settings (flat_map (λ t. t.1) texts)))

abbrev pub ReadTextsHaveTheFiveAlone : Type 0
ReadTextsHaveTheFiveAlone = (settings : Settings) (first : ℕ) (texts : Texts) → AreReadElsewhere texts → HasTheFiveAlone (judged_schema_of settings first texts)

abbrev pub ReadTextsHaveNoKeywordValue : Type 0
ReadTextsHaveNoKeywordValue = (settings : Settings) (first : ℕ) (texts : Texts) → AreReadElsewhere texts → HasNoKeywordValue (judged_schema_of settings first texts)
