pub mod Meaning
pub mod Kinds
pub mod Rules
pub mod Locations
pub mod ValueGrammar
pub mod OperationGrammar
pub mod TypeSystemGrammar
pub mod Grammar
pub mod Places
pub mod Depth
pub mod Faults
pub mod Begins
pub mod Reading
pub mod ValueReading
pub mod OperationReading
pub mod TypeSystemReading
pub mod DocumentReading
pub mod Stops
pub use Rattle.graphql_ast.specs.in_definitions as in_definitions
pub use Rattle.graphql_ast.specs.in_input_types as in_input_types
pub use Rattle.graphql_ast.specs.in_operations as in_operations
pub use Rattle.graphql_ast.specs.in_type_members as in_type_members
pub use Rattle.graphql_ast.specs.in_values as in_values
