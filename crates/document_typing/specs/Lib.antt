pub use Rattle.spec_document.specs.MeantTree
pub use Rattle.document_typed_operations.specs.DocumentView
pub mod Meanings
pub mod KeptSelections
pub mod KeptDocument
pub mod TypingFaults
pub mod FullList
pub mod OutDoc
pub mod TypedByPlace
pub mod DefinedByPlace
pub use Rattle.fault_document_errors.specs.FaultView
pub mod MeaningView
pub mod SetView
pub mod SetFaults
pub mod DefinedField
pub mod Telling
pub mod TypedDefinitions
pub mod StepsView
pub mod BuilderView
pub use Rattle.graphql_schema.specs as in_schema
pub use Rattle.tree_literals.specs as in_literals
pub use Rattle.document_typed_operations.specs as in_typed_operations
pub use Rattle.graphql_schema.specs.in_schema_building as in_schema_building
pub use Rattle.graphql_schema.specs.in_built_in as in_built_in
