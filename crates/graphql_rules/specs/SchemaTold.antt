-- What is told of a schema (GraphQL, October 2021, sections 3 and 5).
use Rattle.std.specs.Prelude.{◌≡◌, ℕ, List, take, Contains, ◌⊎◌}
use Rattle.graphql_names.specs.Placed.{Place}
use Rattle.rule_definitions.specs.in_schema_types.SchemaTree.{SchemaTree}
use Rattle.rule_definitions.specs.Faults.{SchemaFault}
use Rattle.rule_definitions.specs.Judged.{Judged, judged}
use Rattle.rule_definitions.specs.Cycles.{PassesReferenceBound}
use Rattle.rule_definitions.specs.Rules.{ReferencesBreak, EmptyBreaks, InterfacesBreak, SchemaUsesBreak, Breaks, SchemaRules}
use Rattle.rule_definitions.specs.PlacedFaults.{PlacedFault, Told}
use Rattle.rule_definitions.specs.Room.{most_told}
use Rattle.rule_schema_laws.specs.Literals.{HasTheFiveAlone, HasNoKeywordValue, InputTypesHaveLiterals}
use Rattle.rule_cycles.specs.SchemaCycles.{IsInputCycle, IsDirectiveCycle, AnswersInput, AnswersDirective}
use Rattle.graphql_faults.specs.DetailsTree.{Telling}
use Rattle.graphql_rules.specs.Appends.{AppendsThese}

-- a rule is broken or the bound on references is passed, with this fault
abbrev pub RulesOrBoundFail : Judged → SchemaFault → Type 0
RulesOrBoundFail s fault = Breaks s fault ⊎ PassesReferenceBound s fault

-- a rule other than those against definitions that lead back to themselves is broken, with this fault
abbrev pub BreaksBesideCycles : Judged → SchemaFault → Type 0
BreaksBesideCycles s fault = ReferencesBreak s fault ⊎ (EmptyBreaks s fault ⊎ (InterfacesBreak s fault ⊎ SchemaUsesBreak s fault))

-- nothing passes the bound on references
abbrev pub IsWithinReferenceBound : Judged → Type 0
IsWithinReferenceBound s = (fault : SchemaFault) → PassesReferenceBound s fault → ⊥

-- each of these faults is true of the schema, and none is missing; of a definition that leads back to itself there is at least one, for the
-- cycle or for the bound
pub record TellsSchema (s : SchemaTree Place) (told : List PlacedFault) : Type 0 where
  pub right : (f : PlacedFault) → Contains told f → Told s RulesOrBoundFail f
  pub full : (f : PlacedFault) → Told s BreaksBesideCycles f → Contains told f
  pub inputs : (n : List ℕ) → IsInputCycle (judged s) n → (f : PlacedFault) × (Contains told f × AnswersInput n f)
  pub directives : (n : List ℕ) → IsDirectiveCycle (judged s) n → (f : PlacedFault) × (Contains told f × AnswersDirective n f)

-- the new list is the old one, then the first 1,000 of what is told of the schema
abbrev pub SchemaTold : SchemaTree Place → Telling → Telling → Type 0
SchemaTold s old new = (all : List PlacedFault) × (AppendsThese old new (take most_told all) × TellsSchema s all)

-- if a schema keeps every rule and nothing in it passes the bound on references, nothing is told
abbrev pub ValidSchemaMeansSilence : SchemaTree Place → Telling → Telling → Type 0
ValidSchemaMeansSilence s old new = SchemaRules (judged s) → IsWithinReferenceBound (judged s) → new ≡ old

-- if nothing is told of a schema, each input type of the schema that is left has a literal, provided that the built-in scalars are among
-- the five and no enum value is `true`, `false` or `null`
abbrev pub SilenceGivesLiterals : SchemaTree Place → SchemaTree Place → Telling → Telling → Type 0
SilenceGivesLiterals s left old new = new ≡ old → HasTheFiveAlone (judged s) → HasNoKeywordValue (judged s) → InputTypesHaveLiterals (judged left)
