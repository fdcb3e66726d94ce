-- Private: leads to `folded_schema` and `DuplicateRootOperationIn`. The schema definition of a list with numbered extensions, and the faults of its roots.
use Rattle.std.specs.Prelude.{◌≡◌, ◌↔◌, ◌⊎◌, ℕ, List, [], ◌∷◌, ◌++◌, map, Option, None, if◌then◌else◌, Contains, is_some, slice_get}
use Rattle.std.specs.List.{flat_map}
use Rattle.graphql_names.specs.Placed.{Place, Text}
use Rattle.tree_directives.specs.declared.operation_type.OperationType.TheVariants as operation
use Rattle.tree_type_members.specs.TypeSystemTree.{SchemaParts}
use Rattle.schema_components.specs.Lists.{repeats}
use Rattle.schema_components.specs.Given.{Given}
use Rattle.schema_components.specs.Applied.{Applied}
use Rattle.schema_fold.specs.in_schema_types.SchemaTree.{SchemaRoots}
use Rattle.schema_fold.specs.NumberedDefinition.{Definitions, NumberedDefinition, numbered, definitions_of}
use Rattle.schema_fold.specs.Components.{all_given}
use Rattle.schema_fold.specs.SchemaFold.{Root, schema_base, schema_is_defined, implicit_roots, extends_schema, root_key, root_in, folded_schema}
use Rattle.schema_fold.specs.BuildErrors.{BuildFault, DuplicateRootOperation, DuplicateRootOperationIn}

abbrev pub Parts : Type 0
Parts = Given Place (SchemaParts Place)

-- all parts of the schema: `schema_parts_given` for a list with numbered extensions
abbrev pub parts_given : List NumberedDefinition → List Parts
parts_given list = record { extension = None; it = (schema_base (definitions_of list)).parts } ∷ (if schema_is_defined (definitions_of list) then flat_map extends_schema list else [])

-- the same for a list without a schema definition: the implicit roots and, if there are any, the schema extensions
abbrev pub implicit_parts : List NumberedDefinition → List Parts
implicit_parts list = record { extension = None; it = record { directives = []; roots = implicit_roots (definitions_of list) } } ∷ (if is_some (slice_get (implicit_roots (definitions_of list)) 0) then flat_map extends_schema list else [])

-- the directives and the roots of some parts, repeated roots too
abbrev pub directives_from : List Parts → Applied Place
directives_from gs = flat_map (λ g. all_given g.extension g.it.directives) gs

abbrev pub roots_from : List Parts → List (Given Place Root)
roots_from gs = flat_map (λ g. all_given g.extension g.it.roots) gs

-- a schema definition with these parts
abbrev pub schema_from : Place → Option (Text Place) → List Parts → SchemaRoots Place
schema_from place description gs = record {
  place = place;
  description = description;
  directives = directives_from gs;
  query = root_in operation.Query (roots_from gs);
  mutation = root_in operation.Mutation (roots_from gs);
  subscription = root_in operation.Subscription (roots_from gs);
}

-- the schema definition of a list: `folded_schema` for a list with numbered extensions
abbrev pub schema_of : List NumberedDefinition → SchemaRoots Place
schema_of list = schema_from (schema_base (definitions_of list)).place (schema_base (definitions_of list)).description (parts_given list)

-- the fault of a root after another one for the same operation
abbrev pub root_fault : Given Place Root → BuildFault
root_fault g = record { place = g.it.place; breach = DuplicateRootOperation g.it.it.operation_type }

abbrev pub root_faults : List (Given Place Root) → List BuildFault
root_faults gs = map root_fault (repeats root_key gs)

-- if the list is that of some definitions, numbered from `first`, this is the schema definition that they fold to
abbrev pub IsFoldOf : List NumberedDefinition → SchemaRoots Place → Type 0
IsFoldOf list s = (first : ℕ) (ds : Definitions) → list ≡ numbered first ds → s ≡ folded_schema first ds

-- the faults that are added are those of repeated roots in the list
abbrev pub TellsRoots : List NumberedDefinition → List BuildFault → List BuildFault → Type 0
TellsRoots list old new = (first : ℕ) (built_in texts : Definitions) → list ≡ numbered first (built_in ++ texts)
    → (f : BuildFault) → Contains new f ↔ (Contains old f ⊎ DuplicateRootOperationIn built_in texts first f)
