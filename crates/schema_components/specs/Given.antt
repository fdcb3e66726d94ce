-- What a definition or an extension gives to a schema: a value and its origin.
use Rattle.std.specs.Prelude.{ℕ, List, Option, None, Some}
use Rattle.std.specs.Option.{option_map}
use Rattle.tree_literals.specs.in_names.Placed.{Placed, Place, Text, name_tree, node_tree}
use Rattle.schema_components.specs.declared.extension.ExtensionId.{ExtensionId}
use Rattle.schema_components.specs.declared.component.Component.{Component}
use Rattle.schema_components.specs.declared.component.ComponentOrigin.{ComponentOrigin}
use Rattle.schema_components.specs.declared.component.ComponentOrigin.TheVariants.{Definition, Extension}
use Rattle.schema_components.specs.declared.component_name.ComponentName.{ComponentName}

-- an extension: its number and its place
pub record ExtensionTree (P : Type 0) : Type 0 where
  pub number : ℕ
  pub place : P

-- a value, and the extension that gave it; `None` if the definition gave it
pub record Given (P A : Type 0) : Type 0 where
  pub extension : Option (ExtensionTree P)
  pub it : A

-- the number of an extension, and its place
abbrev pub number_of : ExtensionId → ℕ
number_of e = e.number

abbrev pub place_of : ExtensionId → Place
place_of e = e.location

abbrev pub extension_tree : ExtensionId → ExtensionTree Place
extension_tree e = record { number = number_of e; place = place_of e }

-- the extension, if the origin is one
abbrev pub extension_id : ComponentOrigin → Option ExtensionId
extension_id Definition = None
extension_id (Extension e) = Some e

abbrev pub origin_tree : ComponentOrigin → Option (ExtensionTree Place)
origin_tree o = option_map extension_tree (extension_id o)

abbrev pub component_tree : {A B : Type 0} → (A → B) → Component A → Given Place (Placed Place B)
component_tree f c = record { extension = origin_tree c.origin; it = node_tree f c.node }

abbrev pub component_name_tree : ComponentName → Given Place (Text Place)
component_name_tree c = record { extension = origin_tree c.origin; it = name_tree c.name }

module _ {P : Type 0} where
  -- what was given, without its origin and place
  abbrev pub plain_given : {A B : Type 0} → (A → B) → Given P (Placed P A) → B
  plain_given f g = f g.it.it

  -- the name that was given
  abbrev pub given_name : Given P (Text P) → List ℕ
  given_name g = g.it.it
