pub mod Appends
pub mod SchemaTold
pub mod ValueTold
pub mod Given
pub mod Scalars
pub mod Putting
pub use Rattle.graphql_faults.specs as in_faults
