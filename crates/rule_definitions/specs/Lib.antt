pub mod Words
pub mod Diagnostics
pub mod Judged
pub mod Names
pub mod GivenValues
pub mod VariableUsage
pub mod RootTypes
pub mod Subtypes
pub mod Things
pub mod Spots
pub mod Faults
pub mod Roots
pub mod ReservedNames
pub mod TypesUsed
pub mod Empty
pub mod Interfaces
pub mod Cycles
pub mod Values
pub mod Accepts
pub mod Uses
pub mod Rules
pub mod PlacedFaults
pub mod Room
pub use Rattle.schema_types.specs.Distinct
pub mod Kept
pub mod Laws
pub use Rattle.schema_types.specs.in_components as in_components
pub use Rattle.schema_types.specs as in_schema_types
