pub mod Asked
pub mod Counts
pub mod Answers
pub mod Folding
pub mod Sarif
