-- Private: leads to `specs/Fold.antt` and `specs/BuildErrors.antt`. What is collected of a type, and what is told of repeated components.
use Rattle.std.specs.Prelude.{◌≡◌, ℕ, List, ◌∷◌, ◌++◌, map, Vec, None}
use Rattle.std.specs.List.{flat_map}
use Rattle.std.specs.declared.alloc.Global.{Global}
use Rattle.graphql_names.specs.NameValue.{NameValue}
use Rattle.graphql_names.specs.Placed.{Placed, Place, Text}
use Rattle.schema_types.specs.in_components.Given.{Given, component_name_tree, given_name}
use Rattle.schema_types.specs.in_components.Lists.{repeats}
use Rattle.schema_types.specs.in_components.declared.component_name.ComponentName.{ComponentName}
use Rattle.schema_types.specs.TypeParts.{TypeParts}
use Rattle.schema_fold.specs.BuildErrors.{BuildFault}
use Rattle.schema_fold.specs.Components.{extension_here}
use Rattle.schema_fold.specs.FaultView.{repeat_breach}
use Rattle.schema_fold.specs.Keeping.{content_key, component_fault, name_fault}
use Rattle.schema_fold.specs.NumberedDefinition.{NumberedDefinition}
use Rattle.schema_fold.specs.declared.build_error.Repeat.{Repeat}

-- the parts of a definition, then those of each extension in the list of its name and kind
abbrev pub parts_from : TypeParts Place → List NumberedDefinition → List (Given Place (TypeParts Place))
parts_from defined list = record { extension = None; it = defined } ∷ flat_map (extension_here defined) list

-- the new names are the old ones followed by these
abbrev pub AddsNames : Vec ComponentName Global → Vec ComponentName Global → List (Given Place (Text Place)) → Type 0
AddsNames old new names = map component_name_tree new.items ≡ map component_name_tree old.items ++ names

-- the fault of a component at that place, in a type of that name, whose own name an earlier component has
abbrev pub repeat_fault : Place → Repeat → List ℕ → List ℕ → BuildFault
repeat_fault place repeat type_name name = record { place = place; breach = repeat_breach repeat type_name name }

-- the faults of all components that are not the first of their name
abbrev pub told_of_components : {A : Type 0} → (A → NameValue) → Repeat → List ℕ → List (Given Place (Placed Place A)) → List BuildFault
told_of_components name repeat type_name gs = map (component_fault name repeat type_name) (repeats (content_key name) gs)

abbrev pub told_of_names : Repeat → List ℕ → List (Given Place (Text Place)) → List BuildFault
told_of_names repeat type_name gs = map (name_fault repeat type_name) (repeats given_name gs)
