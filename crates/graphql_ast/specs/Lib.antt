pub mod Described
pub use Rattle.tree_definitions.specs.Descriptions
pub use Rattle.tree_definitions.specs.in_type_members.TypeSystemTree
pub use Rattle.tree_definitions.specs.in_type_members.TypeSystemLayout
pub use Rattle.tree_definitions.specs.in_type_members.ArgumentQueries
pub use Rattle.tree_definitions.specs.in_type_members.PartsWritable
pub use Rattle.tree_definitions.specs.in_composite_types.CompositeTree
pub use Rattle.tree_definitions.specs.in_input_types.InputTypeTree
pub use Rattle.tree_definitions.specs.DefinitionTree
pub use Rattle.tree_definitions.specs.Queries
pub use Rattle.tree_definitions.specs.Sources
pub use Rattle.tree_definitions.specs.DocumentLayout
pub use Rattle.tree_definitions.specs.Writable
pub use Rattle.tree_definitions.specs as in_definitions
pub use Rattle.graphql_values.specs.in_directives as in_directives
pub use Rattle.tree_definitions.specs.in_input_types as in_input_types
pub use Rattle.graphql_values.specs.in_literals as in_literals
pub use Rattle.graphql_values.specs.in_operations as in_operations
pub use Rattle.tree_definitions.specs.in_type_members as in_type_members
pub use Rattle.graphql_values.specs as in_values
