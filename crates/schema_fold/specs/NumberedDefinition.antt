-- The list of definitions: the types and directives that are defined in it, and the numbers of its extensions (GraphQL, October 2021, section 3).
use Rattle.std.specs.Prelude.{ℕ, ◌+◌, List, [], ◌∷◌, length, map, Option, None, Some, if◌then◌else◌, option_to_list}
use Rattle.std.specs.List.{flat_map, filter, find}
use Rattle.std.specs.Str.{bytes_eq}
use Rattle.graphql_names.specs.Placed.{Placed, Place}
use Rattle.tree_directives.specs.DirectiveTree.{DirectiveDefinitionTree}
use Rattle.tree_definitions.specs.DefinitionTree.{DefinitionTree, DirectiveDefinition}
use Rattle.tree_definitions.specs.Queries.{is_extension, definition_place}
use Rattle.schema_types.specs.in_components.Lists.{each_place}
use Rattle.schema_types.specs.in_components.Given.{ExtensionTree}
use Rattle.schema_types.specs.TypeParts.{TypeDefinition, type_here}

abbrev pub Definitions : Type 0
Definitions = List (DefinitionTree Place)

-- ---- extensions

-- a definition, and its number and place if it is an extension
pub record NumberedDefinition : Type 0 where
  pub definition : DefinitionTree Place
  pub extension : Option (ExtensionTree Place)

-- the number of an extension after these, if extensions are counted from `first`
abbrev pub extension_number : ℕ → Definitions → ℕ
extension_number first before = first + length (filter is_extension before)

abbrev pub listed_after : ℕ → Definitions → DefinitionTree Place → NumberedDefinition
listed_after first before d = record {
  definition = d;
  extension = if is_extension d then Some (record { number = extension_number first before; place = definition_place d }) else None;
}

-- the definitions in order, each extension with its number, even if it is not folded
abbrev pub numbered : ℕ → Definitions → List NumberedDefinition
numbered first ds = each_place (λ before d. listed_after first before d ∷ []) ds

-- the definitions of a list, without its numbers
abbrev pub definitions_of : List NumberedDefinition → Definitions
definitions_of list = map (λ l. l.definition) list

-- ---- types

abbrev pub type_name : TypeDefinition Place → List ℕ
type_name t = t.parts.name.it

-- the types that are defined, in order, repeated ones too
abbrev pub types_in : Definitions → List (TypeDefinition Place)
types_in ds = flat_map (λ d. option_to_list (type_here d)) ds

-- the definition of a type: the one at the least position at which the name is defined
abbrev pub type_named : List ℕ → Definitions → Option (TypeDefinition Place)
type_named n ds = find (λ t. bytes_eq n (type_name t)) (types_in ds)

-- ---- directives

abbrev pub directive_here : DefinitionTree Place → Option (Placed Place (DirectiveDefinitionTree Place))
directive_here (DirectiveDefinition p d) = Some (record { it = d; place = p })
directive_here _ = None

abbrev pub directive_name : Placed Place (DirectiveDefinitionTree Place) → List ℕ
directive_name d = d.it.name.it

-- the directives that are defined, in order, repeated ones too
abbrev pub directives_in : Definitions → List (Placed Place (DirectiveDefinitionTree Place))
directives_in ds = flat_map (λ d. option_to_list (directive_here d)) ds
