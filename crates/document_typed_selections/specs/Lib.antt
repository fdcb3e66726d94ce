pub mod TypedTree
pub mod TypedParts
pub mod OwnFields
pub use Rattle.tree_definitions.specs.in_type_members as in_type_members
pub use Rattle.tree_definitions.specs as in_definitions
