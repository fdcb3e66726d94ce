pub mod Paired
pub mod Counted
pub mod Examined
pub mod Twos
pub mod Verdict
pub mod Merged
pub mod Merger
pub mod OfProgram
pub use Rattle.graphql_faults.specs as in_faults
