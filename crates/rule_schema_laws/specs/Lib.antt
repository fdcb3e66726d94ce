pub mod Implementing
pub mod Literals
pub mod ReadTexts
pub mod Named
pub mod Laws
pub mod Small
pub mod BuiltInText
pub mod BuiltInTextReads
