-- Private: leads to `specs/Building.antt`. The definitions of texts with their numbers.
use Rattle.std.specs.Prelude.{◌≡◌, ℕ, ◌+◌, ◌++◌}
use Rattle.schema_built_in.specs.in_fold.NumberedDefinition.{Definitions, numbered}
use Rattle.schema_building.specs.Numbers.{extension_count, HaveNumbers}
use Rattle.schema_building.specs.declared.refusal.BuilderRefusal.{BuilderRefusal}
use Rattle.schema_building.specs.declared.refusal.BuilderRefusal.TheVariants.{Memory, Spent, Failed}
use Rattle.schema_building.specs.TextsView.{TextsView}

-- the list is that of these definitions, numbered from `first`; there are numbers for all; the next number is the one after theirs
pub record IsListOf (first : ℕ) (ds : Definitions) (t : TextsView) : Type 0 where
  pub list : t.list ≡ numbered first ds
  pub next : t.next ≡ first + extension_count ds
  pub numbers : HaveNumbers first ds

-- these definitions are added after those that the list had
abbrev pub AddsDefinitions : Definitions → TextsView → TextsView → Type 0
AddsDefinitions more old new = (first : ℕ) (ds : Definitions) → IsListOf first ds old → IsListOf first (ds ++ more) new

-- definitions are not added: out of memory, or no numbers are left for their extensions
abbrev pub IsListRefusal : Definitions → TextsView → BuilderRefusal → Type 0
IsListRefusal more old Memory = Unit {0}
IsListRefusal more old Spent = (first : ℕ) (ds : Definitions) → IsListOf first ds old → HaveNumbers first (ds ++ more) → ⊥
IsListRefusal more old Failed = ⊥
