pub mod TypeEquality
pub mod Noted
pub mod UnderNames
pub use Rattle.schema_components.proofs as in_components
pub use Rattle.schema_components.proofs.in_operations as in_operations
