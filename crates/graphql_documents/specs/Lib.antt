pub mod Introspection
pub mod FieldTypes
pub mod NewFields
