pub mod Steps
pub mod Deprecations
pub mod UsesTold
pub mod Waiting
pub mod Found
pub mod Walked
