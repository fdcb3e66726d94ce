pub mod Numbering
pub mod Adding
pub mod Sourcing
pub mod Awaited
pub mod Settled
pub mod Growing
pub mod Keeping
pub mod Schemas
pub use Rattle.schema_built_in.proofs.in_schema_types as in_schema_types
