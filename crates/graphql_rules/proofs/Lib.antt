pub mod Stands
pub mod Whole
pub mod Appended
pub mod GivenFacts
pub mod Putting
pub mod Lawful
