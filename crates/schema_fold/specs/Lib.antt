pub mod NumberedDefinition
pub mod Components
pub mod SchemaFold
pub mod Fold
pub mod BuildErrors
pub mod Adoption
pub use Rattle.schema_types.specs.BuiltIn
pub mod FaultView
pub mod Messages
pub mod FilledTemplate
pub mod PartsView
pub mod Keeping
pub mod Collected
pub mod ListedView
pub mod Kept
pub mod RepeatedComponents
pub mod Made
pub use Rattle.schema_types.specs as in_schema_types
pub use Rattle.schema_types.specs.in_components as in_components
pub use Rattle.tree_definitions.specs as in_definitions
pub use Rattle.tree_directives.specs as in_directives
pub use Rattle.tree_directives.specs.in_literals as in_literals
pub use Rattle.tree_definitions.specs.in_operations as in_operations
pub use Rattle.schema_types.specs.in_type_members as in_type_members
