-- Private: leads to `specs/Fold.antt` and `specs/BuildErrors.antt`. What keeping the first component of each name does.
use Rattle.std.specs.Prelude.{◌≡◌, ℕ, List, [], ◌∷◌, ◌++◌, map, if◌then◌else◌}
use Rattle.graphql_names.specs.NameValue.{NameValue}
use Rattle.graphql_names.specs.Placed.{Placed, Place, Text}
use Rattle.schema_types.specs.in_components.Lists.{firsts, has_name}
use Rattle.schema_types.specs.in_components.Names.{Entries}
use Rattle.schema_types.specs.in_components.Given.{Given, given_name}
use Rattle.schema_fold.specs.Components.{keyed_firsts}
use Rattle.schema_fold.specs.BuildErrors.{BuildFault}
use Rattle.schema_fold.specs.FaultView.{repeat_breach}
use Rattle.schema_fold.specs.declared.build_error.Repeat.{Repeat}

module _ {X : Type 0} (key : X → List ℕ) (note : X → BuildFault) where
  -- the fault of x after these, if one of them has its name
  abbrev pub told_after : List X → X → List BuildFault
  told_after before x = map note (if has_name key (key x) before then x ∷ [] else [])

  -- what adding x after others does: if the first of each name were kept, they still are, and the fault of x, if there is one, is told
  abbrev pub KeepsOn : X → Entries X → List BuildFault → Entries X → List BuildFault → Type 0
  KeepsOn x kept faults kept' faults' = (before : List X) → kept ≡ keyed_firsts key before → (kept' ≡ keyed_firsts key (before ++ x ∷ [])) × (faults' ≡ faults ++ told_after before x)

  -- the same for what is kept as a set
  abbrev pub KeepsNames : X → List X → List BuildFault → List X → List BuildFault → Type 0
  KeepsNames x kept faults kept' faults' = (before : List X) → kept ≡ firsts key before → (kept' ≡ firsts key (before ++ x ∷ [])) × (faults' ≡ faults ++ told_after before x)

-- the name of a component, if `name` gives that of its content
abbrev pub content_key : {A : Type 0} → (A → NameValue) → Given Place (Placed Place A) → List ℕ
content_key name g = (name g.it.it).text

-- the fault of a second component of one name
abbrev pub component_fault : {A : Type 0} → (A → NameValue) → Repeat → List ℕ → Given Place (Placed Place A) → BuildFault
component_fault name repeat type_name g = record { place = g.it.place; breach = repeat_breach repeat type_name (content_key name g) }

abbrev pub name_fault : Repeat → List ℕ → Given Place (Text Place) → BuildFault
name_fault repeat type_name g = record { place = g.it.place; breach = repeat_breach repeat type_name (given_name g) }
