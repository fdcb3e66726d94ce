pub mod LookUps
pub mod LookUpView
pub use Rattle.schema_components.specs as in_components
pub use Rattle.graphql_schema.specs as in_schema
pub use Rattle.graphql_schema.specs.in_built_in as in_built_in
pub use Rattle.graphql_schema.specs.in_schema_building as in_schema_building
