-- The components of a type: what its definition and the extensions of its kind give (GraphQL, October 2021, sections 3.4 to 3.10).
use Rattle.std.specs.Prelude.{ℕ, Bool, ◌&&◌, List, [], ◌∷◌, map, Option, None, if◌then◌else◌}
use Rattle.std.specs.List.{flat_map}
use Rattle.std.specs.Option.{option_map_or}
use Rattle.std.specs.Str.{bytes_eq}
use Rattle.graphql_names.specs.Placed.{Placed, Place}
use Rattle.tree_directives.specs.DirectiveTree.{InputValueTree}
use Rattle.schema_types.specs.in_type_members.TypeSystemTree.{FieldDefinitionTree, EnumValueTree}
use Rattle.schema_types.specs.in_components.Given.{Given, ExtensionTree}
use Rattle.schema_types.specs.in_components.Lists.{firsts}
use Rattle.schema_types.specs.SchemaTree.{same_kind}
use Rattle.schema_types.specs.TypeParts.{TypeParts, TypeDefinition, type_extension_here}
use Rattle.schema_fold.specs.NumberedDefinition.{NumberedDefinition}

-- each of these, with its origin: the definition, or that extension
abbrev pub all_given : {A : Type 0} → Option (ExtensionTree Place) → List A → List (Given Place A)
all_given giver xs = map (λ x. record { extension = giver; it = x }) xs

-- whether these parts have the same name and kind
abbrev pub go_together : TypeParts Place → TypeParts Place → Bool
go_together defined parts = bytes_eq defined.name.it parts.name.it && same_kind defined.kind parts.kind

-- the parts that l gives, if it is an extension of that type and of its kind
abbrev pub extension_here : TypeParts Place → NumberedDefinition → List (Given Place (TypeParts Place))
extension_here defined l = option_map_or (λ parts. if go_together defined parts then record { extension = l.extension; it = parts } ∷ [] else []) (type_extension_here l.definition) []

-- all parts of a type: those of its definition, then those of its extensions of the same kind, by position, wherever in the list
abbrev pub parts_of : List NumberedDefinition → TypeDefinition Place → List (Given Place (TypeParts Place))
parts_of list t = record { extension = None; it = t.parts } ∷ flat_map (extension_here t.parts) list

-- the components of a type of one class, repeated ones too, each with its origin
abbrev pub components : {A : Type 0} → (TypeParts Place → List A) → List NumberedDefinition → TypeDefinition Place → List (Given Place A)
components of list t = flat_map (λ g. all_given g.extension (of g.it)) (parts_of list t)

-- the names of fields, of enum values and of input fields
abbrev pub field_key : Given Place (Placed Place (FieldDefinitionTree Place)) → List ℕ
field_key g = g.it.it.name.it

abbrev pub value_key : Given Place (Placed Place (EnumValueTree Place)) → List ℕ
value_key g = g.it.it.value.it

abbrev pub input_key : Given Place (Placed Place (InputValueTree Place)) → List ℕ
input_key g = g.it.it.name.it

-- the first of each name, under its name
abbrev pub keyed_firsts : {A : Type 0} → (A → List ℕ) → List A → List (List ℕ × A)
keyed_firsts key xs = map (λ x. (key x, x)) (firsts key xs)
