pub mod Folds
pub mod SarifTexts
pub mod Texts
