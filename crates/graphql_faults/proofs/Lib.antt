pub mod Writing
pub mod Growing
pub use Rattle.rule_document_definitions.proofs as in_document_rule_definitions
pub use Rattle.graphql_read.proofs as in_read
pub use Rattle.graphql_read.proofs.in_grammar as in_grammar
pub use Rattle.graphql_read.proofs.in_tokens as in_tokens
pub mod Parts
pub mod BreachEquality
pub mod Traces
pub mod DataEquality
pub mod Adding
pub mod InBuckets
pub mod Kept
pub mod SameDetails
