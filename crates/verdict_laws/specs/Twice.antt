-- A list that is written, folded and written again is the same as after the first time, nests no deeper, and folds to an equal schema.
use Rattle.std.specs.Prelude.{◌≡◌, ℕ, ◌≤◌, ◌++◌, true}
use Rattle.std.specs.List.{list_all}
use Rattle.tree_definitions.specs.Writable.{definition_writable, document_writable}
use Rattle.schema_fold.specs.SchemaFold.{schema_is_defined}
use Rattle.schema_types.specs.Out.{written}
use Rattle.schema_types.specs.Plain.{plain}
use Rattle.schema_built_in.specs.Table.{built_in_definitions}
use Rattle.schema_fold.specs.NumberedDefinition.{Definitions}
use Rattle.schema_fold.specs.Fold.{fold}
use Rattle.schema_fold.specs.BuildErrors.{FoldingRules}
use Rattle.verdict_laws.specs.Table.{IsTable, HasNoQuery, AreOwn}
use Rattle.round_trip.specs.TreeDepth.{document_depth}

-- what is written of a list that is folded with the table, where extensions are counted from `first`
abbrev pub WrittenOf : Definitions → ℕ → Definitions → Definitions
WrittenOf built_in first texts = written (fold built_in first texts)

abbrev pub WrittenTwice : Type 0
WrittenTwice = (built_in : Definitions) (first again_first : ℕ) (texts : Definitions) → IsTable built_in → AreOwn texts → FoldingRules built_in first texts
    → WrittenOf built_in again_first (WrittenOf built_in first texts) ≡ WrittenOf built_in first texts

-- the same for the repository's table
abbrev pub WrittenTwiceBesideTheTable : Type 0
WrittenTwiceBesideTheTable = (first again_first : ℕ) (texts : Definitions) → AreOwn texts → FoldingRules built_in_definitions first texts
    → WrittenOf built_in_definitions again_first (WrittenOf built_in_definitions first texts) ≡ WrittenOf built_in_definitions first texts

abbrev pub NestsNoDeeper : Type 0
NestsNoDeeper = (bound : ℕ) → 1 ≤ bound → (built_in : Definitions) (first : ℕ) (texts : Definitions) → IsTable built_in → AreOwn texts → FoldingRules built_in first texts
    → document_depth texts ≤ bound → document_depth (WrittenOf built_in first texts) ≤ bound

abbrev pub FoldsToEqual : Type 0
FoldsToEqual = (built_in : Definitions) (first again_first : ℕ) (texts : Definitions) → IsTable built_in → AreOwn texts → FoldingRules built_in first texts
    → plain (fold built_in again_first (WrittenOf built_in first texts)) ≡ plain (fold built_in first texts)

-- what is written breaks no folding rule: no extension without a definition, no second definition, no repeated component or root
abbrev pub AcceptedAgain : Type 0
AcceptedAgain = (built_in : Definitions) (first again_first : ℕ) (texts : Definitions) → IsTable built_in → AreOwn texts → FoldingRules built_in first texts
    → FoldingRules built_in again_first (WrittenOf built_in first texts)

-- The premises of `WrittenIsWritable`: each definition can be written, a schema is defined or implied, and no folding rule is broken.
pub record CanBeWritten (built_in : Definitions) (first : ℕ) (texts : Definitions) : Type 0 where
  pub table : IsTable built_in
  pub no_query : HasNoQuery built_in
  pub own : AreOwn texts
  pub rules : FoldingRules built_in first texts
  pub defined : schema_is_defined (built_in ++ texts) ≡ true
  pub writable : list_all definition_writable texts ≡ true

abbrev pub WrittenIsWritable : Type 0
WrittenIsWritable = (built_in : Definitions) (first : ℕ) (texts : Definitions) → CanBeWritten built_in first texts → document_writable (WrittenOf built_in first texts) ≡ true
