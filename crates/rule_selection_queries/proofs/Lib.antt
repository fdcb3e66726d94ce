pub mod Noting
pub mod Turns
pub mod Deciding
pub mod ArgumentsTold
pub mod Equivalences
pub mod Leaves
pub use Rattle.rule_document_definitions.proofs as in_document_definitions
pub use Rattle.rule_definitions.proofs as in_definitions
pub mod Mapped
pub mod Inside
pub mod Closing
pub mod Lookups
pub mod Telling
pub mod Staying
pub mod Found
pub mod Sets
pub mod Entering
pub use Rattle.rule_reach.proofs as in_reach
