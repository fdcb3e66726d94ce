-- Private: leads to `WrittenTwice`. Definitions written whole: those of a list, in the order in which they are written, without numbers and folding.
use Rattle.std.specs.Prelude.{Bool, not, List, [], ◌∷◌, ◌++◌, map, if◌then◌else◌}
use Rattle.std.specs.List.{flat_map}
use Rattle.std.specs.Option.{option_map_or}
use Rattle.graphql_names.specs.Places.{is_built_in}
use Rattle.graphql_names.specs.Placed.{Placed, Place}
use Rattle.tree_definitions.specs.DefinitionTree.{DefinitionTree}
use Rattle.tree_definitions.specs.Queries.{definition_place}
use Rattle.schema_types.specs.TypeParts.{TypeParts, TypeDefinition, type_extension_here, definition_by, extension_by}
use Rattle.schema_types.specs.Out.{is_empty}
use Rattle.schema_fold.specs.NumberedDefinition.{Definitions}
use Rattle.schema_fold.specs.Components.{go_together}
use Rattle.verdict_laws.specs.Arranged.{arranged}

-- an extension of a type: its place and its parts
abbrev pub Extension : Type 0
Extension = Placed Place (TypeParts Place)

-- the extension that is here, if it is one of that type and of its kind
abbrev pub extension_at : TypeParts Place → DefinitionTree Place → List Extension
extension_at defined d = option_map_or (λ parts. if go_together defined parts then record { it = parts; place = definition_place d } ∷ [] else []) (type_extension_here d) []

abbrev pub extensions_in : Definitions → TypeParts Place → List Extension
extensions_in ds defined = flat_map (extension_at defined) ds

-- the classes of extensions: those that give directives, interfaces, fields, members, values, input fields
abbrev pub classes : List (Extension → Bool)
classes =
    (λ x. not (is_empty x.it.directives))
    ∷ (λ x. not (is_empty x.it.interfaces))
    ∷ (λ x. not (is_empty x.it.fields))
    ∷ (λ x. not (is_empty x.it.members))
    ∷ (λ x. not (is_empty x.it.values))
    ∷ (λ x. not (is_empty x.it.inputs))
    ∷ []

abbrev pub whole_definition : TypeDefinition Place → DefinitionTree Place
whole_definition t = definition_by t.parts.kind t.place t.description t.parts

-- an extension unchanged, but its name has the place of the definition's name
abbrev pub whole_extension : TypeDefinition Place → Extension → DefinitionTree Place
whole_extension t x = extension_by t.parts.kind x.place (record x.it { kind = t.parts.kind; name = t.parts.name })

-- a type of the list: its definition unchanged, unless it is built in, and then its extensions, arranged
abbrev pub whole_type : Definitions → TypeDefinition Place → List (DefinitionTree Place)
whole_type ds t = (if is_built_in t.place then [] else whole_definition t ∷ []) ++ map (whole_extension t) (arranged classes (extensions_in ds t.parts))
