-- Private: leads to `specs/Building.antt`. What is added to the list of definitions that counts.
use Rattle.std.specs.Prelude.{◌≡◌, ◌++◌, List, [], ◌∷◌, map, None, Vec}
use Rattle.std.specs.declared.alloc.Global.{Global}
use Rattle.graphql_names.specs.Node.{content, place}
use Rattle.graphql_names.specs.declared.node.Node.{Node}
use Rattle.schema_built_in.specs.in_definitions.declared.definition.Definition.{Definition}
use Rattle.schema_built_in.specs.Table.{built_in_definitions}
use Rattle.schema_built_in.specs.in_fold.NumberedDefinition.{NumberedDefinition}
use Rattle.schema_built_in.specs.in_fold.ListedView.{listed_view}
use Rattle.schema_built_in.specs.in_fold.declared.numbered_definition.NumberedDefinition.{NumberedDefinition as Rust}
use Rattle.schema_building.specs.Settling.{unnumbered, settled_from}
use Rattle.schema_building.specs.SettingsView.{settings_view}
use Rattle.schema_building.specs.TextsView.{texts_view}
use Rattle.schema_building.specs.Waiting.{orphan_kinds}
use Rattle.schema_building.specs.declared.settle.Settings.{Settings}
use Rattle.schema_building.specs.declared.texts.Texts.{Texts}

-- what contracts see of a list
abbrev pub listed_in : Vec Rust Global → List NumberedDefinition
listed_in list = map listed_view list.items

-- the new list is the old one followed by these
abbrev pub Lists : Vec Rust Global → Vec Rust Global → List NumberedDefinition → Type 0
Lists old new more = listed_in new ≡ listed_in old ++ more

-- the new list is the old one followed by a definition with this content and without a place, which is not an extension
abbrev pub ListsUnplaced : {T : Type 0} → (Node T → Definition → Type 0) → T → Vec Rust Global → Vec Rust Global → Type 0
ListsUnplaced {T} gives value old new = (n : Node T) × (d : Definition) × (
    (content n ≡ value) × (place n ≡ None) × gives n d × (new.items ≡ old.items ++ record { definition = d; extension = None } ∷ []))

-- the built-in definitions, followed by what the settings make of these texts
abbrev pub settled_list : Settings → Texts → List NumberedDefinition
settled_list settings texts = settled_from (settings_view settings) (texts_view texts).list (orphan_kinds texts.index) (map unnumbered built_in_definitions)
