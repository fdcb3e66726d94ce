-- Private: leads to `operation_keyword` and `location_keyword`, which it re-exports from two crates. The keywords of operation types and directive locations.
pub use Rattle.tree_operations.specs.OperationQueries.{operation_keyword, default_root_name, location_of_operation}
pub use Rattle.tree_operations.specs.in_directives.DirectivePlaces.{location_keyword}
