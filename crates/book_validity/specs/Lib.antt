pub mod Words
pub mod Coercion
pub mod Values
pub mod Arguments
pub mod Directives
pub mod Fields
pub mod FieldSelectionMerging
pub mod Fragments
pub mod Variables
pub mod Subscriptions
pub mod Defer
pub mod Document
pub mod FieldSets
pub mod Standalone
pub mod Members
pub mod Interfaces
pub mod Types
pub mod Schema
pub mod Typing
pub mod Folding
pub mod Yes
pub mod OfDifferent
pub mod MergingLaws
pub mod Laws
pub mod Exceptions
pub mod Refused
pub use Rattle.verdict_definitions.specs.in_typing as in_typing
pub use Rattle.verdict_definitions.specs as in_verdict_definitions
pub use Rattle.verdict_definitions.specs.in_schema as in_schema
