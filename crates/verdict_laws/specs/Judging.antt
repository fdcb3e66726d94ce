-- Rearranged lists with nothing in the file of what is built in fold to schemas that are equal, with the same things built in: so the same
-- rules hold of them, and documents are judged over the same schema (GraphQL, October 2021, sections 3 and 5).
use Rattle.std.specs.Prelude.{◌≡◌, ℕ, ◌↔◌}
use Rattle.graphql_names.specs.Placed.{Place}
use Rattle.rule_definitions.specs.in_schema_types.SchemaTree.{SchemaTree}
use Rattle.schema_fold.specs.NumberedDefinition.{Definitions}
use Rattle.schema_fold.specs.Fold.{fold}
use Rattle.rule_definitions.specs.Judged.{judged}
use Rattle.rule_definitions.specs.Rules.{SchemaRules}
use Rattle.rule_definitions.specs.Laws.{AreEqual}
use Rattle.rule_definitions.specs.Kept.{AreDistinct, validated}
use Rattle.verdict_laws.specs.RearrangedLists.{IsRearranged}
use Rattle.verdict_laws.specs.Elsewhere.{AreAllElsewhere}

abbrev pub RearrangedAreEqual : Type 0
RearrangedAreEqual = (built_in : Definitions) (i j : ℕ) (ds es : Definitions) → IsRearranged ds es → AreAllElsewhere ds → AreAllElsewhere es
    → AreEqual (fold built_in i ds) (fold built_in j es)

abbrev pub RearrangedSameVerdict : Type 0
RearrangedSameVerdict = (built_in : Definitions) (i j : ℕ) (ds es : Definitions) → IsRearranged ds es → AreAllElsewhere ds → AreAllElsewhere es
    → SchemaRules (judged (fold built_in i ds)) ↔ SchemaRules (judged (fold built_in j es))

-- the schemas that validation leaves, over which documents are judged, are equal too
abbrev pub RearrangedLeaveEqual : Type 0
RearrangedLeaveEqual = (built_in : Definitions) (i j : ℕ) (ds es : Definitions) → IsRearranged ds es → AreAllElsewhere ds → AreAllElsewhere es
    → AreEqual (validated (fold built_in i ds)) (validated (fold built_in j es))

-- and the rules on documents read the same of both
abbrev pub RearrangedJudgeAlike : Type 0
RearrangedJudgeAlike = (built_in : Definitions) (i j : ℕ) (ds es : Definitions) → IsRearranged ds es → AreAllElsewhere ds → AreAllElsewhere es
    → judged (validated (fold built_in i ds)) ≡ judged (validated (fold built_in j es))

-- ---- what validation leaves

-- equal schemas, in each of which no two things have one name, are equal after validation too
abbrev pub EqualAfterValidation : Type 0
EqualAfterValidation = (a b : SchemaTree Place) → AreDistinct a → AreDistinct b → AreEqual a b → AreEqual (validated a) (validated b)

-- no two things in a fold have one name
abbrev pub FoldsAreDistinct : Type 0
FoldsAreDistinct = (built_in : Definitions) (first : ℕ) (ds : Definitions) → AreDistinct (fold built_in first ds)
