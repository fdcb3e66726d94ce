pub mod Folding
pub mod BuiltIn
pub use Rattle.schema_fold_types.proofs as in_fold_types
