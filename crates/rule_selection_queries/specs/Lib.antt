pub mod Tests
pub use Rattle.rule_document_definitions.specs as in_document_definitions
pub use Rattle.rule_document_definitions.specs.in_spec_document as in_spec_document
pub use Rattle.rule_definitions.specs as in_definitions
pub mod Always
pub mod Inside
pub mod Stays
pub mod Lent
pub use Rattle.rule_reach.specs as in_reach
