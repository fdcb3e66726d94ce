-- What is required of the table of built-in definitions, and of the definitions of texts that are folded with it.
use Rattle.std.specs.Prelude.{◌≡◌, true, false, None}
use Rattle.std.specs.List.{AllByRecursion, find}
use Rattle.std.specs.Str.{bytes_eq}
use Rattle.schema_components.specs.in_operations.OperationQueries.{default_root_name}
use Rattle.schema_components.specs.in_operations.in_directives.declared.operation_type.OperationType.TheVariants as operation
use Rattle.graphql_names.specs.Places.{is_built_in}
use Rattle.schema_components.specs.Lists.{firsts}
use Rattle.schema_types.specs.TypeParts.{type_extension_here}
use Rattle.schema_fold.specs.NumberedDefinition.{Definitions, type_name, types_in, directive_name, directives_in}
use Rattle.schema_fold.specs.SchemaFold.{schema_here, schema_extension_here}

-- no two types or directives of the table have one name, all are in the file of what is built in, and it has no extensions and no schema definition
pub record IsTable (built_in : Definitions) : Type 0 where
  pub types_distinct : firsts type_name (types_in built_in) ≡ types_in built_in
  pub types_marked : AllByRecursion (λ t. is_built_in t.place ≡ true) (types_in built_in)
  pub no_extension : AllByRecursion (λ d. type_extension_here d ≡ None) built_in
  pub directives_distinct : firsts directive_name (directives_in built_in) ≡ directives_in built_in
  pub directives_marked : AllByRecursion (λ d. is_built_in d.place ≡ true) (directives_in built_in)
  pub no_schema : AllByRecursion (λ d. schema_here d ≡ None) built_in
  pub no_schema_extension : AllByRecursion (λ d. schema_extension_here d ≡ None) built_in

-- no type or directive that the texts define is in that file
pub record AreOwn (texts : Definitions) : Type 0 where
  pub types : AllByRecursion (λ t. is_built_in t.place ≡ false) (types_in texts)
  pub directives : AllByRecursion (λ d. is_built_in d.place ≡ false) (directives_in texts)

-- no type of the table has the default name of a query root
abbrev pub HasNoQuery : Definitions → Type 0
HasNoQuery built_in = find (λ t. bytes_eq (default_root_name operation.Query) (type_name t)) (types_in built_in) ≡ None
