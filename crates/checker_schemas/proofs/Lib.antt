pub mod Refusing
pub mod Sourcing
pub mod Filling
pub mod Building
pub mod Validating
pub mod Finishing
