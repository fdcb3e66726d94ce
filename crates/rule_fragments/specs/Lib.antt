pub mod Listed
pub mod Possible
pub mod Held
pub mod Noting
pub mod Applied
pub mod Applying
pub mod Used
pub mod Unused
pub mod Telling
pub mod SpreadNumbers
pub mod SpreadViews
pub mod SpreadGraph
pub mod CycleFaults
pub mod FragmentCycles
pub mod Broken
pub mod ListedBreaches
pub mod Nested
pub mod Rooted
pub mod Thinned
pub mod Labels
pub mod UnlessFull
pub mod Documents
pub use Rattle.rule_reach.specs.in_typed_operations as in_typed_operations
pub use Rattle.rule_cycles.specs.in_schema as in_schema
pub use Rattle.rule_reach.specs as in_reach
