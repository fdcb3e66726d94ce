pub mod TypeSystemTree
pub mod ArgumentQueries
pub mod TypeSystemLayout
pub mod Printed
pub mod PartsWritable
pub use Rattle.tree_directives.specs as in_directives
