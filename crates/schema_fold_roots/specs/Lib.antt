pub mod ListFold
pub mod KindNamed
pub mod RootFold
pub mod RootsView
pub mod DirectiveFold
pub mod DirectivesView
pub mod ListFoldSteps
pub use Rattle.schema_fold.specs as in_fold
pub use Rattle.schema_fold.specs.in_schema_types as in_schema_types
pub use Rattle.schema_fold.specs.in_definitions as in_definitions
