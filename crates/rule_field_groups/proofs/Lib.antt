pub mod Filing
pub mod OneGroup
pub mod Counts
pub mod Parts
pub mod Standing
pub mod Sharing
pub mod InOrder
pub mod Telling
pub mod Shaped
pub mod ShapesTold
pub mod Lists
pub mod Sets
pub mod Under
pub mod NodeFacts
pub mod Walking
pub mod Remembering
pub mod Looking
pub use Rattle.rule_field_sets.proofs as in_sets
pub use Rattle.rule_selection_queries.proofs.in_document_definitions as in_document_definitions
pub use Rattle.rule_selection_queries.proofs.in_definitions as in_definitions
pub use Rattle.rule_selection_queries.proofs.in_definitions.in_schema_types.in_components as in_components
