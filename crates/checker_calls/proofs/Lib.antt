pub mod Deciding
pub mod Adding
pub mod TextsReading
pub mod AnswerBytes
pub mod InParts
pub mod ReadDevices
pub mod Arguments
pub mod Taken
