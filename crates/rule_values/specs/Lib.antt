pub mod Wanting
pub mod Telling
pub mod ValueFaults
pub mod VariableFaults
pub mod KeyFaults
pub use Rattle.fault_data.specs as in_fault_data
pub use Rattle.fault_data.specs.in_rule_definitions as in_rule_definitions
pub use Rattle.graphql_schema.specs as in_schema
pub use Rattle.schema_inputs.specs as in_inputs
pub use Rattle.schema_inputs.specs.Firsts as Firsts
