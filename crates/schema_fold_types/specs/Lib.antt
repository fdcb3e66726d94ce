pub mod TypeFaults
pub mod ListTypes
pub mod Filing
pub mod OwnNames
pub mod Misplaced
pub mod DefinedKinds
pub mod DefinedKindsView
pub mod TextDefinitionsView
pub mod TypeFoldSteps
pub use Rattle.schema_fold_index.specs.in_fold as in_fold
pub use Rattle.schema_fold_index.specs as in_fold_index
