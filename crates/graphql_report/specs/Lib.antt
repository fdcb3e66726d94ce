pub mod ToldPlaces
pub mod FoundPlaces
pub mod Taken
pub mod Reports
pub mod Warnings
pub mod Offered
pub mod Alike
pub mod WarningViews
