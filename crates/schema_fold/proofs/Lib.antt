pub mod Samples
pub mod FoldRows
pub mod AdoptionRows
pub mod BreachRows
pub mod Keeping
pub mod Collecting
pub mod Grown
pub mod OfKind
pub use Rattle.schema_types.proofs as in_schema_types
pub use Rattle.schema_types.proofs.in_components as in_components
pub use Rattle.schema_types.proofs.in_operations as in_operations
