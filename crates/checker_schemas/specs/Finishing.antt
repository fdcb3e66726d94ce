-- Private: leads to `RefusalOfSchemas`. What building and judging a schema find.
use Rattle.std.specs.Prelude.{◌≡◌, ◌≢◌, ◌↔◌, ◌⊎◌, ℕ, false, List, [], ◌∷◌, Contains}
use Rattle.graphql_names.specs.Placed.{Place}
use Rattle.schema_types.specs.SchemaTree.{SchemaTree}
use Rattle.schema_types.specs.Out.{written}
use Rattle.schema_built_in.specs.Table.{built_in_definitions}
use Rattle.schema_fold.specs.BuildErrors as folding
use Rattle.schema_fold.specs.BuildErrors.{FoldingRules}
use Rattle.schema_building.specs.BuilderValue.{BuilderValue}
use Rattle.schema_building.specs.Building.{plain_settings, counted, folded, FailsIn}
use Rattle.schema_building.specs.Numbers.{HaveNumbers}
use Rattle.schema_building.specs.SourcesView.{Sources, with_sources}
use Rattle.schema_building.specs.declared.refusal.BuilderRefusal.{BuilderRefusal}
use Rattle.schema_building.specs.declared.refusal.BuilderRefusal.TheVariants as builder
use Rattle.rule_definitions.specs.Judged.{judged}
use Rattle.rule_definitions.specs.Kept.{validated}
use Rattle.rule_definitions.specs.Rules.{SchemaRules, RulesFail, BoundFails}
use Rattle.rule_definitions.specs.PlacedFaults.{PlacedFault, Told}
use Rattle.graphql_rules.specs.SchemaTold.{BreaksBesideCycles}
use Rattle.graphql_rules.specs.in_faults.DetailsTree.{of_rule, of_folding}
use Rattle.graphql_rules.specs.in_faults.DetailsView.{diagnostics_of}
use Rattle.checker_calls.specs.in_verdict_definitions.Texts.{Tree}
use Rattle.checker_calls.specs.in_verdict_definitions.Meaning.{all_definitions}
use Rattle.checker_calls.specs.in_verdict_definitions.Says.{AnyFault, spent}
use Rattle.checker_calls.specs.in_verdict_definitions.Answer.{IsToldUnlessFull}
use Rattle.checker_calls.specs.TellsOnly.{TellsOnly}
use Rattle.checker_calls.specs.declared.refusal.Refusal.{Refusal}
use Rattle.checker_calls.specs.declared.refusal.Refusal.TheVariants.{Faults, Memory, Failed}

-- ---- the definitions of all texts

-- The builder has not failed, and has the definitions of these trees, in order, each extension with a number from `number` on, and these sources.
pub record IsFilled (number : ℕ) (trees : List Tree) (origins : Sources) (b : BuilderValue) : Type 0 where
  pub first : b.first ≡ number
  pub are : b.texts ≡ all_definitions trees
  pub sources : b.sources ≡ with_sources [] origins
  pub plain : b.settings ≡ plain_settings
  pub running : b.failed ≡ false
  pub numbered : HaveNumbers number (all_definitions trees)

-- no number is left for an extension, which is the only fault told; or memory ran out
abbrev pub RefusalOfNumbers : ℕ → List Tree → Refusal → Type 0
RefusalOfNumbers number trees (Faults list) = (diagnostics_of list ≡ spent ∷ []) × (HaveNumbers number (all_definitions trees) → ⊥)
RefusalOfNumbers number trees Memory = Unit {0}
RefusalOfNumbers number trees Failed = ⊥

-- the refusal that answers a refusal of a builder that had not failed
abbrev pub IsOfBuilder : BuilderRefusal → Refusal → Type 0
IsOfBuilder builder.Spent refusal = TellsOnly spent refusal
IsOfBuilder builder.Memory refusal = refusal ≡ Memory
IsOfBuilder builder.Failed refusal = ⊥

-- ---- folding

-- This is what the builder's definitions fold to, and these are all breaches of folding rules.
pub record BuildsSchema (b : BuilderValue) (schema : SchemaTree Place) (faults : List AnyFault) : Type 0 where
  pub is : schema ≡ folded b
  pub right : (fault : AnyFault) → Contains faults fault → (f : folding.BuildFault) × ((fault ≡ of_folding f) × FailsIn b f)
  pub full : (f : folding.BuildFault) → FailsIn b f → Contains faults (of_folding f)
  pub faultless : (faults ≡ []) ↔ FoldingRules built_in_definitions b.first (counted b)

-- folding rules are broken, and all that breaks them is told
pub record RefusesFolding (b : BuilderValue) (faults : List AnyFault) : Type 0 where
  pub some : faults ≢ []
  pub right : (fault : AnyFault) → Contains faults fault → (f : folding.BuildFault) × ((fault ≡ of_folding f) × FailsIn b f)
  pub full : (f : folding.BuildFault) → FailsIn b f → Contains faults (of_folding f)

-- no schema is built: folding rules are broken, or memory ran out
abbrev pub RefusalOfFolding : BuilderValue → Refusal → Type 0
RefusalOfFolding b (Faults list) = RefusesFolding b (diagnostics_of list)
RefusalOfFolding b Memory = Unit {0}
RefusalOfFolding b Failed = ⊥

-- ---- rules on schemas

-- rules on schemas are broken, or the bound on references is passed; each breach is told, but of rules on cycles some may be missing, unless as
-- many are told as one call tells
pub record RefusesSchemaRules (schema : SchemaTree Place) (faults : List AnyFault) : Type 0 where
  pub some : faults ≢ []
  pub right : (fault : AnyFault) → Contains faults fault → (f : PlacedFault) × ((fault ≡ of_rule f) × (RulesFail schema f ⊎ BoundFails schema f))
  pub full : (f : PlacedFault) → Told schema BreaksBesideCycles f → IsToldUnlessFull faults (of_rule f)

abbrev pub RefusalOfSchemaRules : SchemaTree Place → Refusal → Type 0
RefusalOfSchemaRules schema (Faults list) = RefusesSchemaRules schema (diagnostics_of list)
RefusalOfSchemaRules schema Memory = Unit {0}
RefusalOfSchemaRules schema Failed = ⊥

-- ---- both

-- The builder's definitions break no rule; this is the schema over which documents are judged, and this is written of it as it was built.
pub record IsJudgedSchema (b : BuilderValue) (schema : SchemaTree Place) (out : Tree) : Type 0 where
  pub folds : FoldingRules built_in_definitions b.first (counted b)
  pub holds : SchemaRules (judged (folded b))
  pub for_documents : schema ≡ validated (folded b)
  pub written : out ≡ written (folded b)

-- folding rules are broken; or none is, and rules on schemas are
abbrev pub RefusesBuilder : BuilderValue → List AnyFault → Type 0
RefusesBuilder b faults = RefusesFolding b faults ⊎ (FoldingRules built_in_definitions b.first (counted b) × RefusesSchemaRules (folded b) faults)

abbrev pub RefusalOfBuilder : BuilderValue → Refusal → Type 0
RefusalOfBuilder b (Faults list) = RefusesBuilder b (diagnostics_of list)
RefusalOfBuilder b Memory = Unit {0}
RefusalOfBuilder b Failed = ⊥
