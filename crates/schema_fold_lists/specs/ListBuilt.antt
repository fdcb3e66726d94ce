-- Private: leads to `folded`. What a whole list with its numbers builds.
use Rattle.std.specs.Prelude.{◌≡◌, ◌↔◌, ℕ, List, ◌++◌, length, Contains}
use Rattle.graphql_names.specs.Placed.{Place}
use Rattle.schema_fold.specs.in_schema_types.SchemaTree.{SchemaTree}
use Rattle.schema_fold.specs.NumberedDefinition.{Definitions, NumberedDefinition, numbered, definitions_of}
use Rattle.schema_built_in.specs.Table.{built_in_definitions}
use Rattle.schema_fold.specs.BuildErrors.{BuildFault, Fails}
use Rattle.schema_fold.specs.Fold.{fold}

-- if the list is that of the built-in definitions followed by those of some texts, this is the schema that they fold to, with exactly their faults
abbrev pub FoldsParts : List NumberedDefinition → List NumberedDefinition → List NumberedDefinition → SchemaTree Place → List BuildFault → Type 0
FoldsParts list built_in texts schema faults = (first : ℕ) (ds : Definitions) → list ≡ numbered first (built_in_definitions ++ ds)
    → definitions_of built_in ≡ built_in_definitions → definitions_of texts ≡ ds
    → (schema ≡ fold built_in_definitions first ds) × ((f : BuildFault) → Contains faults f ↔ Fails built_in_definitions first ds f)

-- the same for a list whose first part, of that length, is the built-in definitions
abbrev pub FoldsList : List NumberedDefinition → ℕ → SchemaTree Place → List BuildFault → Type 0
FoldsList list built_in schema faults = (first : ℕ) (ds : Definitions) → list ≡ numbered first (built_in_definitions ++ ds) → built_in ≡ length built_in_definitions
    → (schema ≡ fold built_in_definitions first ds) × ((f : BuildFault) → Contains faults f ↔ Fails built_in_definitions first ds f)
