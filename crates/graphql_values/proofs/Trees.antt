-- Copies of the members of lists stand for the same.
pub use Rattle.tree_literals.proofs.in_names.Copies.{nodes-copies, equal-copies}
