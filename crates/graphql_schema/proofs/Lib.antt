pub mod SchemaEquality
pub mod Lookups
pub mod Implementing
pub mod Implemented
pub mod Subtyping
pub mod FieldLooks
pub mod DistinctFacts
pub use Rattle.schema_building.proofs as in_schema_building
pub use Rattle.schema_writing.proofs as in_schema_writing
