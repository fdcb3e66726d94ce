pub mod Labels
pub mod References
pub mod Telling
pub mod Trees
pub mod Adds
pub mod Numbers
pub mod ReferenceViews
pub mod SchemaCycles
pub mod FaultLists
pub mod InputGraph
pub mod UseNumbers
pub mod UseViews
pub mod UseGraph
pub mod DirectiveFaults
pub use Rattle.graphql_schema.specs as in_schema
