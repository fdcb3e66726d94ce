pub mod Readings
pub use Rattle.tree_literals.specs as in_literals
pub mod Printed
pub mod WellFormed
pub mod Literals
pub mod ReadsAlone
pub mod Definitions
pub mod SelectionsLayout
pub mod TreeDepth
pub mod NestsAlike
pub mod ReadsAgain
pub use Rattle.graphql_read.specs as in_read
