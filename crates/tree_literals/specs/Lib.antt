pub mod NumberSyntax
pub mod NumberValue
pub mod TypeTree
pub mod ValueTree
pub mod TypeQueries
pub mod ValueQueries
pub mod ValueLayout
pub mod ValueWritable
pub use Rattle.graphql_names.specs.Placed
pub mod Joined
pub mod Puts
pub mod Shown
pub mod Levels
pub mod LineLayout
pub mod StringLayout
pub mod EscapeRuns
pub mod Serialized
pub use Rattle.graphql_names.specs as in_names
