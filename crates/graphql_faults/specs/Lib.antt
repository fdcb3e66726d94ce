pub mod DetailsTree
pub mod DetailsView
pub mod DetailsMessages
pub mod DetailsNames
pub mod Words
pub use Rattle.fault_document_errors.specs as in_document_errors
pub use Rattle.fault_data.specs as in_fault_data
pub use Rattle.fault_data.specs.in_rule_definitions as in_rule_definitions
pub use Rattle.rule_document_definitions.specs as in_document_rule_definitions
pub use Rattle.graphql_read.specs as in_read
pub use Rattle.graphql_read.specs.in_grammar as in_grammar
pub use Rattle.graphql_read.specs.in_read_operations as in_read_operations
pub use Rattle.graphql_read.specs.in_tokens as in_tokens
pub mod Added
pub mod InBuckets
pub mod PlaceBucket
pub mod Once
pub mod PlacedBreach
pub mod ToldOfDocument
pub mod TracePlaces
