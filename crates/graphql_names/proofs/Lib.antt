pub mod Pieces
pub mod SameLemmas
pub mod Copies
pub mod Narrowed
