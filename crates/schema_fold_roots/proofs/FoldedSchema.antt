-- The schema definition of a list with its numbers is that of its definitions.
use Rattle.std.proofs.Common.{◌≡◌, ℕ, List, [], ◌∷◌, ◌++◌, ◌||◌, Option, None, ap, ◌∙◌, if◌then◌else◌, is_some, slice_get}
use Rattle.std.specs.List.{flat_map}
use Rattle.std.specs.Option.{option_map_or}
use Rattle.graphql_names.specs.Placed.{Place}
use Rattle.schema_fold.specs.in_schema_types.SchemaTree.{SchemaRoots}
use Rattle.schema_fold.specs.NumberedDefinition.{Definitions, NumberedDefinition, numbered, definitions_of}
use Rattle.schema_fold.specs.SchemaFold.{SchemaGiver, implicit_roots, schema_definition_in, schema_base, schema_is_defined, extends_schema, schema_parts_given, roots_given, root_key}
use Rattle.schema_fold.specs.BuildErrors.{BuildFault, DuplicateRootOperationIn}
use Rattle.schema_fold_roots.specs.ListFold.{Parts, parts_given, roots_from, schema_from, schema_of, root_fault, root_faults, IsFoldOf, TellsRoots}
use Rattle.schema_fold_roots.proofs.Listing.{definitions_numbered}
use Rattle.schema_fold_roots.proofs.Telling.{told, told_more}

abbrev parts_over : List NumberedDefinition → Definitions → List Parts
parts_over list ds = record { extension = None; it = (schema_base ds).parts } ∷ (if schema_is_defined ds then flat_map extends_schema list else [])

abbrev schema_over : List NumberedDefinition → Definitions → SchemaRoots Place
schema_over list ds = schema_from (schema_base ds).place (schema_base ds).description (parts_over list ds)

parts_numbered : (first : ℕ) (ds : Definitions) → parts_given (numbered first ds) ≡ schema_parts_given first ds
parts_numbered first ds = ap (parts_over (numbered first ds)) (definitions_numbered first ds)

pub is_fold : (list : List NumberedDefinition) (s : SchemaRoots Place) → s ≡ schema_of list → IsFoldOf list s
is_fold list s is first ds e = is ∙ ap schema_of e ∙ ap (schema_over (numbered first ds)) (definitions_numbered first ds)

pub tells_roots : (list : List NumberedDefinition) (old new : List BuildFault) → new ≡ old ++ root_faults (roots_from (parts_given list)) → TellsRoots list old new
tells_roots list old new is first built_in texts e f =
    told_more old (root_faults (roots_given first (built_in ++ texts))) new f (DuplicateRootOperationIn built_in texts first f)
    (is ∙ ap (λ l. old ++ root_faults (roots_from (parts_given l))) e ∙ ap (λ ps. old ++ root_faults (roots_from ps)) (parts_numbered first (built_in ++ texts)))
    (told root_key root_fault (roots_given first (built_in ++ texts)) f)

-- ---- by whether there is a schema definition

module _ (list : List NumberedDefinition) where
  abbrev implicit : SchemaGiver
  implicit = record { place = None; description = None; parts = record { directives = []; roots = implicit_roots (definitions_of list) } }

  abbrev base_by : Option SchemaGiver → SchemaGiver
  base_by o = option_map_or (λ s. s) o implicit

  abbrev parts_by : Option SchemaGiver → List Parts
  parts_by o = record { extension = None; it = (base_by o).parts } ∷ (if is_some o || is_some (slice_get (implicit_roots (definitions_of list)) 0) then flat_map extends_schema list else [])

  abbrev schema_by : Option SchemaGiver → SchemaRoots Place
  schema_by o = schema_from (base_by o).place (base_by o).description (parts_by o)

  -- the same for any definition that is the first one, or none
  pub parts_is : (o : Option SchemaGiver) → o ≡ schema_definition_in (definitions_of list) → parts_by o ≡ parts_given list
  parts_is o e = ap parts_by e

  pub schema_is : (o : Option SchemaGiver) → o ≡ schema_definition_in (definitions_of list) → schema_by o ≡ schema_of list
  schema_is o e = ap schema_by e
