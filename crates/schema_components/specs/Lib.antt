pub mod Lists
pub mod Names
pub mod Given
pub mod Applied
pub mod LeftNamed
pub use Rattle.tree_operations.specs as in_operations
pub use Rattle.tree_operations.specs.in_directives as in_directives
pub use Rattle.tree_literals.specs as in_literals
