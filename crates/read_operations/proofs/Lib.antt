pub mod Operations
pub mod SelectionRules
pub mod Arms
pub mod Leaves
pub mod Names
pub mod Numbers
pub mod Tokens
pub mod Types
pub use Rattle.read_grammar.proofs as in_grammar
pub use Rattle.read_tokens.proofs as in_tokens
