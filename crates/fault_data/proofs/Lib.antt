pub use Rattle.rule_definitions.proofs.Room
pub use Rattle.rule_definitions.proofs.Adding
pub mod GapTexts
pub mod Judgings
pub use Rattle.rule_definitions.proofs as in_rule_definitions
