-- Lists that are rearranged fold to equal schemas and break the same folding rules (GraphQL, October 2021, section 3).
use Rattle.std.specs.Prelude.{◌≡◌, ℕ, ◌↔◌}
use Rattle.schema_fold.specs.in_schema_types.Plain.{plain}
use Rattle.schema_fold.specs.NumberedDefinition.{Definitions}
use Rattle.schema_fold.specs.BuildErrors.{BuildFault, Fails, FoldingRules}
use Rattle.schema_fold.specs.Fold.{fold}
use Rattle.verdict_laws.specs.RearrangedLists.{IsRearranged}

-- apart from marks the schemas are equal, whichever numbers extensions are counted from
abbrev pub RearrangedFoldsAlike : Type 0
RearrangedFoldsAlike = (built_in : Definitions) (i j : ℕ) (ds es : Definitions) → IsRearranged ds es
    → plain (fold built_in i ds) ≡ plain (fold built_in j es)

-- each breach of a folding rule in one list is a breach in the other, at some place
abbrev pub RearrangedFailAlike : Type 0
RearrangedFailAlike = (built_in : Definitions) (i j : ℕ) (ds es : Definitions) → IsRearranged ds es
    → (fault : BuildFault) → Fails built_in i ds fault → (other : BuildFault) × (Fails built_in j es other × (other.breach ≡ fault.breach))

abbrev pub RearrangedKeepTheRules : Type 0
RearrangedKeepTheRules = (built_in : Definitions) (i j : ℕ) (ds es : Definitions) → IsRearranged ds es
    → FoldingRules built_in i ds ↔ FoldingRules built_in j es
