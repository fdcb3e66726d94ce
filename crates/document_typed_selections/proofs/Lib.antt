pub mod TypedTrees
pub mod TypedEquality
