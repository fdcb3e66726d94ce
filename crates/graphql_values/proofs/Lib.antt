pub mod Trees
pub use Rattle.tree_operations.proofs.Decided
pub use Rattle.tree_operations.proofs.TypeEquality
pub use Rattle.tree_operations.proofs.ValueEquality
pub use Rattle.tree_operations.proofs.DirectiveEquality
pub use Rattle.tree_operations.proofs.SelectionEquality
pub use Rattle.tree_operations.proofs.OperationEquality
