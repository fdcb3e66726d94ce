pub mod ToldUnlessFull
pub mod RowReading
pub mod RowTrees
pub mod RowJudging
pub mod RowMeanings
pub mod RowRules
pub mod AnswerRows
pub mod TextRows
pub mod OutRows
pub mod UnreadRows
pub mod VerdictRows
pub mod RefusedRows
pub mod RecursionRows
pub mod BoundRows
pub mod DocumentRows
pub mod BytesRows
pub mod AcceptedRows
pub mod FoldsRows
pub mod SchemaRows
pub mod PairRows
pub mod FullRows
pub mod RefusedDocumentRows
pub use Rattle.graphql_faults.proofs.in_read as in_read
pub use Rattle.graphql_faults.proofs.in_grammar as in_grammar
pub use Rattle.graphql_faults.proofs.in_tokens as in_tokens
