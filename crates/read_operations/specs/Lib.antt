pub mod OperationSteps
pub mod SelectionSteps
pub mod PartViews
pub mod Meanings
pub mod TypeSteps
pub mod ListSteps
pub use Rattle.read_grammar.specs as in_grammar
pub use Rattle.read_grammar.specs.in_definitions as in_definitions
pub use Rattle.tree_directives.specs as in_directives
pub use Rattle.read_tokens.specs as in_tokens
pub use Rattle.tree_literals.specs as in_literals
pub use Rattle.read_grammar.specs.in_operations as in_operations
pub use Rattle.read_grammar.specs.in_type_members as in_type_members
pub use Rattle.read_grammar.specs.in_values as in_values
pub mod StringBytes
