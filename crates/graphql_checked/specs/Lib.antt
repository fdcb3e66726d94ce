pub mod CheckerValue
pub mod CheckedView
pub mod DocumentRefusals
pub mod CheckerAnswers
pub mod Checking
pub mod Verdicts
pub mod Run
pub mod Called
pub use Rattle.book_validity.specs as in_book_validity
pub use Rattle.checker_schemas.specs as in_checker_schemas
