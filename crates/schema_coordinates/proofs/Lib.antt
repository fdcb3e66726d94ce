pub mod Cuts
pub mod CoordinateReads
