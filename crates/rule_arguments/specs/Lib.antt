pub mod Moved
pub mod SchemaUses
pub mod Laws
pub mod Trees
pub mod Alone
pub mod UseFaults
pub mod AddedFaults
pub mod GivenArguments
pub mod Telling
-- Re-exported from the crates below, for those above.
pub use Rattle.rule_values.specs.in_rule_definitions as in_rule_definitions
pub use Rattle.rule_values.specs.in_fault_data as in_fault_data
pub use Rattle.rule_values.specs as in_rule_values
