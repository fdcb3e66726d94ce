pub mod Checking
pub mod Typing
pub mod Verdicts
pub mod Answering
pub mod Completing
pub use Rattle.book_validity.proofs as in_book_validity
