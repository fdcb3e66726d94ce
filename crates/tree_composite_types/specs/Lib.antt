pub mod CompositeTree
pub mod FieldTrees
pub use Rattle.tree_type_members.specs as in_type_members
pub use Rattle.tree_type_members.specs.in_directives as in_directives
