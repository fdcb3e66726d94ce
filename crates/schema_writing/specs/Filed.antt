-- Private: leads to `specs/Out.antt` of `schema_types`. What is filed under a giver: the definition, or an extension by its number.
use Rattle.std.specs.Prelude.{◌≡◌, List, [], ◌∷◌, ◌++◌, map, Option, Vec, if◌then◌else◌}
use Rattle.std.specs.Option.{option_map_or}
use Rattle.std.specs.Map.{lookup}
use Rattle.std.specs.Global.{Global}
use Rattle.graphql_names.specs.Placed.{Placed, Place}
use Rattle.schema_components.specs.Given.{Given, ExtensionTree, origin_tree, component_tree}
use Rattle.schema_components.specs.declared.component.Component.{Component}
use Rattle.schema_components.specs.declared.component.ComponentOrigin.{ComponentOrigin}
use Rattle.schema_types.specs.Out.{same_giver}

-- what is filed under this giver
abbrev pub filed_under : {X : Type 0} → Option (ExtensionTree Place) → List (ComponentOrigin × Vec X Global) → List X
filed_under giver es = option_map_or (λ v. v.items) (lookup (λ o. same_giver giver (origin_tree o)) es) []

-- item is added last under its giver, and nothing changes under any other giver
abbrev pub FilesOn : {X : Type 0} → List (ComponentOrigin × Vec X Global) → ComponentOrigin → X → List (ComponentOrigin × Vec X Global) → Type 0
FilesOn old o item new = (giver : Option (ExtensionTree Place)) → filed_under giver new ≡ filed_under giver old ++ (if same_giver giver (origin_tree o) then item ∷ [] else [])

-- the content, unchanged
abbrev pub itself : {A : Type 0} → A → A
itself x = x

-- components as contracts see them, with the contents of their nodes unchanged
abbrev pub given_contents : {A : Type 0} → List (Component A) → List (Given Place (Placed Place A))
given_contents cs = map (component_tree itself) cs

-- what was given, without who gave it
abbrev pub without_givers : {A : Type 0} → List (Given Place A) → List A
without_givers gs = map (λ g. g.it) gs
