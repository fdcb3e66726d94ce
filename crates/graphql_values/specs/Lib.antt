pub mod OperationQueries
pub mod TreeLaws
pub use Rattle.tree_operations.specs.Writable
pub use Rattle.tree_literals.specs.in_names.Placed
pub use Rattle.tree_operations.specs.in_literals.Joined
pub use Rattle.tree_operations.specs.in_literals.Puts
pub use Rattle.tree_operations.specs.in_literals.Shown
pub use Rattle.tree_operations.specs.in_literals.Levels
pub use Rattle.tree_operations.specs.in_literals.EscapeRuns
pub use Rattle.tree_operations.specs.in_literals.LineLayout
pub use Rattle.tree_operations.specs.in_literals.StringLayout
pub use Rattle.tree_operations.specs.in_literals.Serialized
pub use Rattle.tree_literals.specs.NumberSyntax
pub use Rattle.tree_literals.specs.NumberValue
pub use Rattle.tree_literals.specs.TypeTree
pub use Rattle.tree_literals.specs.ValueTree
pub use Rattle.tree_literals.specs.TypeQueries
pub use Rattle.tree_literals.specs.ValueQueries
pub use Rattle.tree_literals.specs.ValueWritable
pub use Rattle.tree_operations.specs.in_directives.DirectiveTree
pub use Rattle.tree_operations.specs.in_directives.DirectiveQueries
pub use Rattle.tree_operations.specs.in_directives.DirectiveNodes
pub use Rattle.tree_operations.specs.in_directives.DirectivePlaces
pub use Rattle.tree_operations.specs.in_directives.NamedNodes
pub use Rattle.tree_operations.specs.in_directives.DirectiveLayout
pub use Rattle.tree_operations.specs.in_directives.InputLayout
pub use Rattle.tree_operations.specs.in_directives.DirectiveWritable
pub use Rattle.tree_operations.specs.SelectionTree
pub use Rattle.tree_operations.specs.SelectionParts
pub use Rattle.tree_operations.specs.OperationTree
pub use Rattle.tree_operations.specs.OperationLayout
pub use Rattle.tree_operations.specs.OperationWritable
pub use Rattle.tree_operations.specs.in_directives as in_directives
pub use Rattle.tree_literals.specs as in_literals
pub use Rattle.tree_literals.specs.in_names as in_names
pub use Rattle.tree_operations.specs as in_operations
