pub mod CheckedSchemaValue
pub mod Refusals
pub mod Finishing
pub mod JudgedView
