pub mod Table
pub mod MetaFields
pub mod Rows
pub use Rattle.schema_fold.specs as in_fold
pub use Rattle.schema_fold.specs.in_schema_types as in_schema_types
pub use Rattle.schema_fold.specs.in_definitions as in_definitions
