-- The message of what is wrong.
use Rattle.std.specs.Prelude.{ℕ, List, codes}
use Rattle.graphql_read.specs.declared.fault.SyntaxFaultKind.{SyntaxFaultKind}
use Rattle.graphql_read.specs.declared.fault.SyntaxFaultKind.TheVariants.{NoToken, Unexpected, End}
use Rattle.schema_fold.specs.Messages as folding
use Rattle.fault_document_errors.specs.DocumentMessages.{document_message}
use Rattle.fault_data.specs.Messages.{diagnostic_message}
use Rattle.graphql_faults.specs.DetailsTree.{DetailsTree, Syntax, Nesting, Spent, SchemaBuild, DocumentBuild, Data, RecursionLimitError}

abbrev pub syntax_message : SyntaxFaultKind → List ℕ
syntax_message NoToken = codes "no token starts here"
syntax_message Unexpected = codes "unexpected token"
syntax_message End = codes "unexpected end of text"

module _ {P E : Type 0} where
  abbrev pub details_message : DetailsTree P E → List ℕ
  details_message (Syntax kind) = syntax_message kind
  details_message Nesting = codes "too many open brackets"
  details_message Spent = codes "numbers are spent"
  details_message (SchemaBuild breach) = folding.message breach
  details_message (DocumentBuild breach) = document_message breach
  details_message (Data diagnostic) = diagnostic_message diagnostic
  details_message RecursionLimitError = codes "too much recursion"
