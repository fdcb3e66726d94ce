pub mod Places
pub mod Firsts
pub mod NamedEquality
pub mod NamedFacts
pub mod NamedLookups
pub mod NamedWrites
pub mod ComponentEquality
pub mod Copies
pub use Rattle.tree_operations.proofs as in_operations
