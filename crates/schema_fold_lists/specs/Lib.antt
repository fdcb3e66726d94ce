pub mod FoldedView
pub mod ListBuilt
pub use Rattle.schema_fold_roots.specs as in_fold_roots
pub use Rattle.schema_fold_types.specs as in_fold_types
pub use Rattle.schema_built_in.specs as in_built_in
pub use Rattle.schema_fold.specs as in_fold
