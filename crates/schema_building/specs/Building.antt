-- What a schema builder returns (GraphQL, October 2021, section 3).
use Rattle.std.specs.Prelude.{◌≡◌, true, false, List, [], ◌++◌, map, if◌then◌else◌}
use Rattle.graphql_names.specs.Placed.{Place, Text}
use Rattle.schema_components.specs.Lists.{firsts}
use Rattle.schema_built_in.specs.in_schema_types.SchemaTree.{SchemaTree}
use Rattle.schema_built_in.specs.in_fold.NumberedDefinition.{Definitions}
use Rattle.schema_built_in.specs.in_fold.Adoption.{Settings, settled, orphans, parts_name}
use Rattle.schema_built_in.specs.Table.{built_in_definitions}
use Rattle.schema_built_in.specs.in_fold.BuildErrors.{BuildFault, Fails}
use Rattle.schema_built_in.specs.in_fold.Fold.{fold}
use Rattle.schema_building.specs.BuilderValue.{BuilderValue}
use Rattle.schema_building.specs.Numbers.{HaveNumbers}
use Rattle.schema_building.specs.SourcesView.{Sources, with_sources}
use Rattle.schema_building.specs.declared.refusal.BuilderRefusal.{BuilderRefusal}
use Rattle.schema_building.specs.declared.refusal.BuilderRefusal.TheVariants.{Memory, Spent, Failed}

-- the settings that neither adopt orphan extensions nor ignore redefinitions
abbrev pub plain_settings : Settings
plain_settings = record { adopts = false; ignores = false }

-- a builder with the definitions and the sources of a document added after the others
abbrev pub with_document : Definitions → Sources → BuilderValue → BuilderValue
with_document more given b = record b { texts = b.texts ++ more; sources = with_sources b.sources given }

-- the definitions that count; the built-in ones come before them
abbrev pub counted : BuilderValue → Definitions
counted b = settled built_in_definitions b.settings b.texts

-- the schema that the definitions of a builder fold to
abbrev pub folded : BuilderValue → SchemaTree Place
folded b = fold built_in_definitions b.first (counted b)

-- a folding rule is broken with this fault
abbrev pub FailsIn : BuilderValue → BuildFault → Type 0
FailsIn b fault = Fails built_in_definitions b.first (counted b) fault

-- ---- orphans

-- the names that are extended and not defined, in the order of their first extensions
abbrev pub orphan_names : Definitions → List (Text Place)
orphan_names texts = map (λ e. e.name) (firsts (parts_name built_in_definitions) (orphans built_in_definitions texts))

-- the names that a builder lends; one that has failed lends none
abbrev pub lent_names : BuilderValue → List (Text Place)
lent_names b = if b.failed then [] else orphan_names b.texts

-- ---- refusals

-- definitions are not added: at `Memory`, and at `Spent` because numbers do not suffice, the builder had not failed, and now it has; at
-- `Failed` it had, and it is unchanged
abbrev pub IsAddRefusal : BuilderValue → Definitions → BuilderValue → BuilderRefusal → Type 0
IsAddRefusal old more new Memory = (old.failed ≡ false) × (new.failed ≡ true)
IsAddRefusal old more new Spent = (old.failed ≡ false) × (new.failed ≡ true) × (HaveNumbers old.first (old.texts ++ more) → ⊥)
IsAddRefusal old more new Failed = (old.failed ≡ true) × (new ≡ old)

-- no schema is built: `Memory` if the builder had not failed, `Failed` if it had; `Spent` never
abbrev pub IsBuildRefusal : BuilderValue → BuilderRefusal → Type 0
IsBuildRefusal b Memory = b.failed ≡ false
IsBuildRefusal b Spent = ⊥
IsBuildRefusal b Failed = b.failed ≡ true
