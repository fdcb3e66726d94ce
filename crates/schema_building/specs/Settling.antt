-- Private: leads to `specs/Building.antt`. The steps that lead to the list of definitions that counts.
use Rattle.std.specs.Prelude.{Bool, not, ◌&&◌, List, [], ◌∷◌, ◌++◌, map, None, is_some, if◌then◌else◌}
use Rattle.std.specs.List.{filter, list_any}
use Rattle.graphql_names.specs.Placed.{Place}
use Rattle.schema_built_in.specs.in_definitions.DefinitionTree.{DefinitionTree}
use Rattle.schema_built_in.specs.in_schema_types.TypeParts.{bare, definition_by}
use Rattle.schema_built_in.specs.in_fold.NumberedDefinition.{Definitions, NumberedDefinition, definitions_of}
use Rattle.schema_built_in.specs.in_fold.SchemaFold.{schema_extension_here, schema_is_defined}
use Rattle.schema_built_in.specs.in_fold.Adoption.{Settings, is_redefinition, empty_schema}
use Rattle.schema_built_in.specs.Table.{built_in_definitions}
use Rattle.schema_fold_index.specs.Index.{NamedKind}

-- a definition that is not an extension
abbrev pub unnumbered : DefinitionTree Place → NumberedDefinition
unnumbered d = record { definition = d; extension = None }

-- the empty definition of a type of that name and kind
abbrev pub empty_of : NamedKind → DefinitionTree Place
empty_of k = definition_by k.1 None None (bare k.1 k.0 [])

-- whether a definition is kept: it is not a redefinition, or redefinitions are not ignored
abbrev pub is_kept : Bool → NumberedDefinition → Bool
is_kept ignores l = not (ignores && is_redefinition built_in_definitions l.definition)

-- the empty schema definition, if the whole list extends the schema and does not define it
abbrev pub adopted_schema : Definitions → Definitions
adopted_schema all = if list_any (λ d. is_some (schema_extension_here d)) all && not (schema_is_defined all) then empty_schema built_in_definitions ∷ [] else []

-- the list, with the empty definitions added that adopt extensions, if `adopts` is true
abbrev pub adopting : Bool → List NamedKind → List NumberedDefinition → List NumberedDefinition
adopting adopts waiting list = if adopts then adopt_schema (list ++ map (λ k. unnumbered (empty_of k)) waiting) else list
  where
    adopt_schema : List NumberedDefinition → List NumberedDefinition
    adopt_schema all = all ++ map unnumbered (adopted_schema (definitions_of all))

-- a list, followed by what the settings make of these texts and of the types that wait for a definition
abbrev pub settled_from : Settings → List NumberedDefinition → List NamedKind → List NumberedDefinition → List NumberedDefinition
settled_from s texts waiting list = adopting s.adopts waiting (list ++ filter (is_kept s.ignores) texts)
