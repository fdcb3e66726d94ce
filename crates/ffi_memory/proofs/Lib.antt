pub mod Cuts
pub mod Pointers
