-- Lists of definitions that differ only in order and places: a document is a list of definitions, and their order counts only
-- within one sort (GraphQL, October 2021, sections 2.2 and 3).
use Rattle.std.specs.Prelude.{◌≡◌, ℕ, Bool, false, List, filter, bytes_eq, is_some}
use Rattle.std.specs.List.{list_any}
use Rattle.std.specs.Option.{option_map_or}
use Rattle.graphql_names.specs.Placed.{Place}
use Rattle.schema_fold.specs.in_definitions.DefinitionTree.{DefinitionTree, unplaced_document}
use Rattle.schema_fold.specs.in_definitions.Queries.{is_executable}
use Rattle.schema_fold.specs.in_schema_types.TypeParts.{type_here, type_extension_here}
use Rattle.schema_fold.specs.NumberedDefinition.{Definitions, type_name, directive_here, directive_name}
use Rattle.schema_fold.specs.SchemaFold.{schema_here, schema_extension_here}

-- ---- the sorts

module _ (n : List ℕ) where
  -- the definition of the type of that name
  abbrev pub defines_type : DefinitionTree Place → Bool
  defines_type d = option_map_or (λ t. bytes_eq n (type_name t)) (type_here d) false

  -- an extension of the type of that name
  abbrev pub extends_type : DefinitionTree Place → Bool
  extends_type d = option_map_or (λ e. bytes_eq n e.name.it) (type_extension_here d) false

  -- the definition of the directive of that name
  abbrev pub defines_directive : DefinitionTree Place → Bool
  defines_directive d = option_map_or (λ x. bytes_eq n (directive_name x)) (directive_here d) false

abbrev pub defines_schema : DefinitionTree Place → Bool
defines_schema d = is_some (schema_here d)

abbrev pub is_schema_extension : DefinitionTree Place → Bool
is_schema_extension d = is_some (schema_extension_here d)

-- ---- rearranged

-- the definitions of one sort are the same in both lists, in the same order, apart from places
abbrev pub AgreeOn : (DefinitionTree Place → Bool) → Definitions → Definitions → Type 0
AgreeOn sort ds es = unplaced_document (filter sort ds) ≡ unplaced_document (filter sort es)

-- the same definitions of types, directives and the schema, and the same extensions, in the same order within each sort; and an
-- operation or fragment is in one list exactly if one is in the other
pub record IsRearranged (ds es : Definitions) : Type 0 where
  pub types : (n : List ℕ) → AgreeOn (defines_type n) ds es
  pub extensions : (n : List ℕ) → AgreeOn (extends_type n) ds es
  pub directives : (n : List ℕ) → AgreeOn (defines_directive n) ds es
  pub schemas : AgreeOn defines_schema ds es
  pub schema_extensions : AgreeOn is_schema_extension ds es
  pub executables : list_any is_executable ds ≡ list_any is_executable es
