pub mod DiagnosticView
pub mod FaultView
pub use Rattle.rule_definitions.specs.Room
pub mod Adds
pub mod Messages
pub mod FilledTemplate
pub mod CopyGroups
pub use Rattle.rule_definitions.specs as in_rule_definitions
