pub mod Handles
pub mod Answers
pub mod Told
pub mod JsonLines
pub mod Named
