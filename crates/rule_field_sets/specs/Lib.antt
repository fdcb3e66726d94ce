pub mod Fields
pub mod Kinds
pub mod Tables
pub mod Numbered
pub mod Found
pub mod Opened
pub mod Nodes
pub mod Read
pub mod Added
pub use Rattle.rule_reach.specs as in_reach
pub use Rattle.graphql_schema.specs as in_schema
