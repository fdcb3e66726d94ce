-- Private: leads to `built_in_definitions`. The text is read as the definitions that are built in.
use Rattle.std.specs.Prelude.{◌≡◌, ◌≤◌, List}
use Rattle.graphql_names.specs.declared.span.FileId.{FileId}
use Rattle.graphql_names.specs.Placed.{Place}
use Rattle.read_operations.specs.in_definitions.DefinitionTree.{DefinitionTree, unplaced_document}
use Rattle.read_operations.specs.in_tokens.Input.{Token}
use Rattle.read_operations.specs.in_tokens.Lex.{Lex}
use Rattle.read_operations.specs.in_grammar.Grammar.{Derives}
use Rattle.read_operations.specs.in_grammar.Depth.{depth}
use Rattle.read_operations.specs.Meanings.{in_file}
use Rattle.schema_built_in.specs.Table.{built_in_definitions}
use Rattle.rule_schema_laws.specs.BuiltInText.{built_in_text}

-- In the file the text is a document, with brackets nested at most two deep, and its definitions are those that are built
-- in, ignoring places.
pub record TextReads (file : FileId) : Type 0 where
  pub tokens : List Token
  pub tree : List (DefinitionTree Place)
  pub lexed : Lex built_in_text tokens
  pub derived : Derives (in_file file) tokens tree
  pub within : depth tokens ≤ 2
  pub same : unplaced_document tree ≡ unplaced_document built_in_definitions
