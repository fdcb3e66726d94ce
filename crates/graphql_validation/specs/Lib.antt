pub mod Operations
pub mod ValidationFaults
pub mod TellsDocument
pub mod Parts
pub mod LastingRules
pub mod Lasts
pub mod LastingLaws
pub mod TellsLasting
pub mod OperationChecks
pub use Rattle.rule_fragments.specs as in_fragments
pub use Rattle.rule_merging.specs as in_merging
pub use Rattle.rule_selections.specs.in_values as in_values
