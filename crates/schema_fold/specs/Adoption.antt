-- What the two settings of a builder make of the list of definitions.
use Rattle.std.specs.Prelude.{ℕ, Bool, false, not, ◌&&◌, List, [], ◌∷◌, ◌++◌, map, None, if◌then◌else◌, is_none, is_some, option_to_list}
use Rattle.std.specs.List.{flat_map, filter, list_any}
use Rattle.std.specs.Option.{option_map_or}
use Rattle.graphql_names.specs.Placed.{Place}
use Rattle.tree_definitions.specs.DefinitionTree.{DefinitionTree, Schema}
use Rattle.schema_types.specs.in_components.Lists.{firsts}
use Rattle.schema_types.specs.TypeParts.{TypeParts, type_here, type_extension_here, bare, definition_by}
use Rattle.schema_fold.specs.NumberedDefinition.{Definitions, type_name, type_named}
use Rattle.schema_fold.specs.SchemaFold.{schema_extension_here, schema_is_defined}

-- which settings are on
pub record Settings : Type 0 where
  pub adopts : Bool
  pub ignores : Bool

module _ (built_in : Definitions) where
  -- ---- ignored redefinitions of built-in types

  -- whether this is the definition of a type with the name of a built-in type
  abbrev pub is_redefinition : DefinitionTree Place → Bool
  is_redefinition d = option_map_or (λ t. is_some (type_named (type_name t) built_in)) (type_here d) false

  -- the list without such redefinitions
  abbrev pub without_redefinitions : Definitions → Definitions
  without_redefinitions texts = filter (λ d. not (is_redefinition d)) texts

  -- ---- adopted extensions

  abbrev pub parts_name : TypeParts Place → List ℕ
  parts_name e = e.name.it

  -- the extensions of types that are not defined anywhere, in order
  abbrev pub orphans : Definitions → List (TypeParts Place)
  orphans texts = filter (λ e. is_none (type_named (parts_name e) (built_in ++ texts))) (flat_map (λ d. option_to_list (type_extension_here d)) texts)

  -- the definition of a type of that kind and name, with nothing in it
  abbrev pub empty_type : TypeParts Place → DefinitionTree Place
  empty_type e = definition_by e.kind None None (bare e.kind e.name [])

  -- the list, followed by an empty definition for each name of an orphan, of the kind of the first orphan of that name
  abbrev pub with_types : Definitions → Definitions
  with_types texts = texts ++ map empty_type (firsts parts_name (orphans texts))

  abbrev pub empty_schema : DefinitionTree Place
  empty_schema = Schema None None (record { directives = []; roots = [] })

  -- whether the schema is extended and not defined
  abbrev pub has_orphan_schema : Definitions → Bool
  has_orphan_schema texts = list_any (λ d. is_some (schema_extension_here d)) texts && not (schema_is_defined (built_in ++ texts))

  -- the list, followed by an empty schema definition if the schema is extended and not defined
  abbrev pub with_schema : Definitions → Definitions
  with_schema texts = texts ++ (if has_orphan_schema texts then empty_schema ∷ [] else [])

  -- the list of definitions that counts, given the settings
  abbrev pub settled : Settings → Definitions → Definitions
  settled s texts = adopted (if s.ignores then without_redefinitions texts else texts)
    where
      adopted : Definitions → Definitions
      adopted ds = if s.adopts then with_schema (with_types ds) else ds
