pub mod SchemaTree
pub mod TypeView
pub mod SchemaView
pub mod Origins
pub mod OriginsLeft
pub mod Plain
pub mod TypeParts
pub mod Out
pub mod Looks
pub mod Addresses
pub mod Distinct
pub mod BuiltIn
pub use Rattle.schema_components.specs as in_components
pub use Rattle.spec_tree.specs.in_type_members as in_type_members
pub use Rattle.schema_components.specs.in_operations as in_operations
