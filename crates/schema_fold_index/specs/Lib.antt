pub mod Index
pub use Rattle.schema_fold.specs as in_fold
pub use Rattle.schema_fold.specs.in_operations as in_operations
pub use Rattle.schema_fold.specs.in_components as in_components
pub use Rattle.schema_fold.specs.in_schema_types as in_schema_types
pub use Rattle.schema_fold.specs.in_definitions as in_definitions
pub use Rattle.schema_fold.specs.in_type_members as in_type_members
