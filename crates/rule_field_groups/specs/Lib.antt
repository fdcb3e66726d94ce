pub mod Members
pub mod Kinds
pub mod Shapes
pub mod Grouped
pub mod KeyGroups
pub mod LaterField
pub mod Passes
pub mod Compared
pub mod Conflicts
pub mod Below
pub mod Under
pub mod NodeWalk
pub mod Paid
pub mod MergeState
pub mod Pairs
pub use Rattle.rule_field_sets.specs as in_sets
pub use Rattle.rule_selection_queries.specs.in_document_definitions as in_document_definitions
pub use Rattle.rule_selection_queries.specs.in_spec_document as in_spec_document
pub use Rattle.rule_selection_queries.specs.in_definitions as in_definitions
pub use Rattle.document_typed_selections.specs as in_typed_selections
