pub mod Moves
pub mod MovedValues
pub mod MovedUses
pub mod SpottedUses
pub mod SchemaTold
pub mod Types
pub mod ReadPlaces
pub mod Known
pub mod RequiredOnly
pub mod Again
pub mod Numbered
pub mod Uses
pub mod Alone
pub mod SchemaSteps
pub use Rattle.rule_values.proofs as in_rule_values
