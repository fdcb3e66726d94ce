pub use Rattle.graphql_names.specs as in_names
