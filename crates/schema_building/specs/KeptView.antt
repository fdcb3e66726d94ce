-- What a builder keeps.
use Rattle.std.specs.Prelude.{◌≡◌, ℕ, ◌+◌, ◌-◌, Bool, false, List, map, Option}
use Rattle.graphql_names.specs.Placed.{Place}
use Rattle.schema_components.specs.Given.{ExtensionTree}
use Rattle.schema_built_in.specs.in_fold.NumberedDefinition.{Definitions, NumberedDefinition, numbered, definitions_of}
use Rattle.schema_fold_index.specs.Index.{IsIndexOf}
use Rattle.schema_building.specs.Numbers.{extension_count, HaveNumbers}
use Rattle.schema_building.specs.TextsView.{texts_view}
use Rattle.schema_building.specs.declared.texts.Texts.{Texts}

abbrev pub definitions : Texts → Definitions
definitions t = definitions_of (texts_view t).list

-- the number from which its extensions were counted
abbrev pub first_number : Texts → ℕ
first_number t = t.extensions - extension_count (definitions t)

abbrev pub numbers_of : List NumberedDefinition → List (Option (ExtensionTree Place))
numbers_of list = map (λ l. l.extension) list

-- the extensions are numbered from `first`, there are numbers for all, and the next number is the one after theirs
abbrev pub AreNumbered : ℕ → Definitions → Texts → Type 0
AreNumbered first ds t = (numbers_of (texts_view t).list ≡ numbers_of (numbered first ds)) × (t.extensions ≡ first + extension_count ds) × HaveNumbers first ds

-- if the builder has not failed, its extensions are numbered, and its index has the positions of the definitions and
-- extensions of types by name
abbrev pub IsKept : Texts → Bool → Type 0
IsKept texts failed = failed ≡ false → AreNumbered (first_number texts) (definitions texts) texts × IsIndexOf (definitions texts) texts.index

-- if the index was that of the definitions, it still is
abbrev pub KeepsIndex : Texts → Texts → Type 0
KeepsIndex old new = IsIndexOf (definitions old) old.index → IsIndexOf (definitions new) new.index
