pub mod Trees
pub mod TypeLaws
pub mod NumberLemmas
pub mod IntegerText
pub mod PrintedValues
pub mod ValueExamples
pub mod Times
pub mod Runs
pub mod Lines
pub mod StringExamples
pub use Rattle.graphql_names.proofs as in_names
