pub mod MeantTree
pub mod Unplaced
pub use Rattle.schema_components.specs as in_components
