-- How the tree of a set goes on.
pub use Rattle.document_typed_selections.proofs.TypedTrees.{typed_set_tree_out}
