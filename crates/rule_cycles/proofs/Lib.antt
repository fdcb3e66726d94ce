pub mod Ways
pub mod ReferenceFacts
pub mod Transport
pub mod Telling
pub mod Entries
pub mod Numbering
pub mod InputGraphs
pub mod InputBridge
pub mod InputsTold
pub mod UseFacts
pub mod UseBridge
pub mod DirectivesTold
pub mod BothTold
pub use Rattle.graphql_schema.proofs as in_schema
