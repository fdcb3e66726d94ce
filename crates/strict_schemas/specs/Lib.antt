pub mod Inputs
pub mod Departing
pub mod Faults
pub mod Letter
pub mod Told
pub mod FaultsIn
