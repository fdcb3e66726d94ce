pub mod Noted
pub mod KnownInputs
pub mod Lookups
