pub mod MemberEquality
pub use Rattle.tree_operations.proofs as in_operations
