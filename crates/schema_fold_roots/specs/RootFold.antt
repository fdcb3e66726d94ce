-- Private: leads to `folded_schema`. The steps that collect the parts of the schema and keep its roots.
use Rattle.std.specs.Prelude.{◌≡◌, List, [], ◌∷◌, ◌++◌, Option, Some}
use Rattle.graphql_names.specs.Placed.{Place, Text}
use Rattle.tree_directives.specs.declared.operation_type.OperationType.{OperationType}
use Rattle.tree_directives.specs.declared.operation_type.OperationType.TheVariants as operation
use Rattle.schema_components.specs.Given.{Given}
use Rattle.schema_components.specs.Applied.{Applied}
use Rattle.schema_fold.specs.in_schema_types.SchemaTree.{SchemaRoots}
use Rattle.schema_fold.specs.Components.{all_given}
use Rattle.schema_fold.specs.SchemaFold.{Root, root_key, root_in}
use Rattle.schema_fold.specs.BuildErrors.{BuildFault}
use Rattle.schema_fold.specs.Keeping.{told_after}
use Rattle.schema_fold_roots.specs.ListFold.{Parts, directives_from, roots_from, root_fault}

-- ---- collected

pub record AllOfSchema : Type 0 where
  pub directives : Applied Place
  pub roots : List (Given Place Root)

-- the directives and roots that these parts give, in order
abbrev pub all_from : List Parts → AllOfSchema
all_from gs = record { directives = directives_from gs; roots = roots_from gs }

-- these directives and roots, followed by those of the parts
abbrev pub all_and : AllOfSchema → Parts → AllOfSchema
all_and all g = record {
  directives = all.directives ++ all_given g.extension g.it.directives;
  roots = all.roots ++ all_given g.extension g.it.roots;
}

-- if `all` was what some parts give, it is now what these parts followed by `more` give
abbrev pub CollectsParts : AllOfSchema → List Parts → AllOfSchema → Type 0
CollectsParts all more all' = (gs : List Parts) → all ≡ all_from gs → all' ≡ all_from (gs ++ more)

-- the schema definition with these directives and, for each operation, the first of these roots
abbrev pub made_from : Place → Option (Text Place) → AllOfSchema → SchemaRoots Place
made_from place description all = record {
  place = place;
  description = description;
  directives = all.directives;
  query = root_in operation.Query all.roots;
  mutation = root_in operation.Mutation all.roots;
  subscription = root_in operation.Subscription all.roots;
}

-- ---- kept

pub record RootNames : Type 0 where
  pub query : Option (Given Place (Text Place))
  pub mutation : Option (Given Place (Text Place))
  pub subscription : Option (Given Place (Text Place))

-- the root of an operation
abbrev pub root_for : OperationType → RootNames → Option (Given Place (Text Place))
root_for operation.Query roots = roots.query
root_for operation.Mutation roots = roots.mutation
root_for operation.Subscription roots = roots.subscription

-- these roots, with this one for the operation
abbrev pub with_root : OperationType → Given Place (Text Place) → RootNames → RootNames
with_root operation.Query root roots = record { query = Some root; mutation = roots.mutation; subscription = roots.subscription }
with_root operation.Mutation root roots = record { query = roots.query; mutation = Some root; subscription = roots.subscription }
with_root operation.Subscription root roots = record { query = roots.query; mutation = roots.mutation; subscription = Some root }

-- the first root of each operation
abbrev pub first_roots : List (Given Place Root) → RootNames
first_roots gs = record { query = root_in operation.Query gs; mutation = root_in operation.Mutation gs; subscription = root_in operation.Subscription gs }

-- the name of a root
abbrev pub root_name : Given Place Root → Given Place (Text Place)
root_name g = record { extension = g.extension; it = g.it.it.name }

-- what adding the root g after others does: if the first root of each operation was kept, it still is, and the fault of g, if any, is told
abbrev pub KeepsRoot : Given Place Root → RootNames → List BuildFault → RootNames → List BuildFault → Type 0
KeepsRoot g kept faults kept' faults' = (before : List (Given Place Root)) → kept ≡ first_roots before
    → (kept' ≡ first_roots (before ++ g ∷ [])) × (faults' ≡ faults ++ told_after root_key root_fault before g)
