pub mod Listing
pub mod Named
pub mod Telling
pub mod Gathering
pub mod KeepingRoots
pub mod FoldedSchema
pub mod Choosing
pub mod DirectiveFaults
pub use Rattle.schema_fold.proofs as in_fold
pub use Rattle.schema_fold.proofs.in_schema_types as in_schema_types
pub use Rattle.schema_components.proofs as in_components
