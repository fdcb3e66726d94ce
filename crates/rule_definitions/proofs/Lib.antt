pub mod Same
pub mod KeptFacts
pub mod Accepting
pub mod Examples
pub use Rattle.rule_cycle_search.proofs.Lists
pub mod Lookups
pub mod Tells
pub mod Listing
pub mod Room
pub mod Adding
pub mod Firsts
pub use Rattle.schema_types.proofs as in_schema_types
