pub mod Filed
pub mod Contents
pub mod ContentsView
pub mod SchemaParts
pub mod Writing
pub mod FiledView
pub use Rattle.tree_definitions.specs as in_definitions
