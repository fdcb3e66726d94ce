pub mod DefinitionTree
pub mod Queries
pub use Rattle.tree_operations.specs as in_operations
pub use Rattle.tree_type_members.specs as in_type_members
