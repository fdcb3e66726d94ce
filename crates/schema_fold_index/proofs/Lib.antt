pub mod Under
pub mod Listing
pub mod Extending
pub mod Indexing
pub mod FiledKinds
pub use Rattle.schema_fold.proofs as in_fold
pub use Rattle.schema_fold.proofs.in_components as in_components
