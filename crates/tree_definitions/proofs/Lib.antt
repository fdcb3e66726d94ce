pub mod Copies
pub mod DocumentExamples
pub mod PrefixExamples
pub mod TreeEquality
pub mod DefinitionEquality
pub use Rattle.spec_tree.proofs.in_operations as in_operations
