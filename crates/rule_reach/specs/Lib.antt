pub mod Reach
pub mod Broken
pub mod Gathered
pub mod Fields
pub mod Lent
pub mod NotedNames
pub mod UsedNames
pub mod LoneKeys
pub mod Passed
pub use Rattle.document_typed_operations.specs as in_typed_operations
