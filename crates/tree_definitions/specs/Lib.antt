pub mod Descriptions
pub mod DefinitionTree
pub mod Sources
pub mod DocumentLayout
pub mod Writable
pub mod Printed
pub use Rattle.spec_tree.specs.Queries
pub use Rattle.tree_composite_types.specs as in_composite_types
pub use Rattle.tree_input_types.specs as in_input_types
pub use Rattle.tree_composite_types.specs.in_type_members as in_type_members
pub use Rattle.spec_tree.specs.in_operations as in_operations
