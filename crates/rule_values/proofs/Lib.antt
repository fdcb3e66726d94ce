pub mod Tells
pub mod EntryKeys
pub mod NotedKeys
pub mod Looking
pub mod VariablesTold
pub mod KeysTold
pub mod FormsTold
pub mod TypesTold
pub mod RoomSteps
pub mod Adding
pub mod Looping
pub mod KnownFields
pub mod Examples
pub use Rattle.fault_data.proofs as in_fault_data
pub use Rattle.graphql_schema.proofs as in_schema
pub use Rattle.schema_inputs.proofs as in_inputs
pub use Rattle.fault_data.proofs.in_rule_definitions as in_rule_definitions
