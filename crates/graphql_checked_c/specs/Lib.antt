pub mod Json
pub mod CallResults
pub mod Held
pub mod HeldTexts
