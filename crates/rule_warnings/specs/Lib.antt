pub mod Deprecated
pub mod Views
pub mod Told
pub mod Telling
pub mod TellingDocuments
