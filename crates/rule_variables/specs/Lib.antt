pub mod Parts
pub mod UsedNames
pub mod VariableFaults
