pub mod BuilderValue
pub mod SourcesView
pub mod KeptView
pub mod BuildingView
pub mod Building
pub mod Numbers
pub mod TextsView
pub mod TextsList
pub mod Noted
pub mod Waiting
pub mod SettingsView
pub mod Settling
pub mod ListView
pub use Rattle.schema_built_in.specs as in_built_in
pub use Rattle.schema_built_in.specs.in_fold as in_fold
pub use Rattle.schema_fold_index.specs as in_fold_index
pub use Rattle.schema_built_in.specs.in_schema_types as in_schema_types
