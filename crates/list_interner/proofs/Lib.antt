pub mod Found
pub mod Standing
pub mod Rising
pub mod Few
pub mod Words
pub mod Rows
pub mod Kept
pub mod Sets
pub mod Said
mod Parts
