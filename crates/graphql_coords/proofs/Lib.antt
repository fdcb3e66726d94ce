pub mod Answering
pub use Rattle.graphql_schema.proofs as in_schema
pub use Rattle.graphql_schema.proofs.in_schema_building as in_schema_building
pub use Rattle.graphql_schema.proofs.in_schema_writing as in_schema_writing
