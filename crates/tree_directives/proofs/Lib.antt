pub mod NamedNodes
pub mod DirectiveExamples
pub use Rattle.tree_literals.proofs as in_literals
