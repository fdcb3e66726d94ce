pub mod SelectionTree
pub mod SelectionParts
pub mod OperationTree
pub mod OperationLayout
pub mod Printed
pub mod OperationWritable
pub mod Writable
pub use Rattle.tree_directives.specs.in_literals.in_names.Placed
pub use Rattle.tree_directives.specs.in_literals.Joined
pub use Rattle.tree_directives.specs.in_literals.Levels
pub use Rattle.tree_directives.specs.in_literals.LineLayout
pub use Rattle.tree_directives.specs.in_literals.StringLayout
pub use Rattle.tree_directives.specs.in_literals.TypeTree
pub use Rattle.tree_directives.specs.in_literals.ValueTree
pub use Rattle.tree_directives.specs.in_literals.TypeQueries
pub use Rattle.tree_directives.specs.in_literals.ValueLayout
pub use Rattle.tree_directives.specs.in_literals.ValueWritable
pub use Rattle.tree_directives.specs.DirectiveTree
pub use Rattle.tree_directives.specs.DirectivePlaces
pub use Rattle.tree_directives.specs.OperationQueries
pub use Rattle.tree_directives.specs.DirectiveLayout
pub use Rattle.tree_directives.specs.DirectiveWritable
pub use Rattle.tree_directives.specs.in_literals.Puts
pub use Rattle.tree_directives.specs.in_literals.Shown
pub use Rattle.tree_directives.specs.in_literals.EscapeRuns
pub use Rattle.tree_directives.specs.in_literals.Serialized
pub use Rattle.tree_directives.specs.in_literals.NumberSyntax
pub use Rattle.tree_directives.specs.in_literals.NumberValue
pub use Rattle.tree_directives.specs.in_literals.ValueQueries
pub use Rattle.tree_directives.specs.DirectiveQueries
pub use Rattle.tree_directives.specs.DirectiveNodes
pub use Rattle.tree_directives.specs.NamedNodes
pub use Rattle.tree_directives.specs.InputLayout
pub use Rattle.tree_directives.specs.in_literals.in_names as in_names
pub use Rattle.tree_directives.specs as in_directives
pub use Rattle.tree_directives.specs.in_literals as in_literals
