-- Private: leads to `Derives` and `Says`. How documents are read.
use Rattle.std.specs.Prelude.{ℕ, List, ◌⊎◌}
use Rattle.std.proofs.Common.{inl, inr}
use Rattle.graphql_ast.specs.in_directives.DirectiveTree.{DirectiveDefinitionTree}
use Rattle.graphql_ast.specs.in_definitions.DefinitionTree.{DefinitionTree, Operation, Fragment}
use Rattle.read_grammar.specs.Meaning.{Meaning}
use Rattle.read_grammar.specs.Kinds.{is_string, is_schema, is_directive, is_fragment, is_extend}
use Rattle.read_grammar.specs.Begins.{begins_kind, begins_operation, begins_type_system, begins_definition}
use Rattle.read_grammar.specs.TypeSystemGrammar.{KindTree, SchemaKind}
use Rattle.read_grammar.specs.Grammar.{type_system_of, extension_of, has_part}
use Rattle.read_grammar.specs.Reading.{Parser, mark, when, try, refuse, such_that, some, placed, ◌⊙◌, ◌<&>◌}
use Rattle.read_grammar.specs.OperationReading.{operation_definition, fragment_definition}
use Rattle.read_grammar.specs.TypeSystemReading.{description, schema_definition, type_definition, directive_definition, schema_extension}

module _ {P : Type 0} (m : Meaning P) where
  -- what follows a description
  unfoldable pub undescribed : ℕ → Parser (KindTree P ⊎ DirectiveDefinitionTree P)
  undescribed n =
      when begins_kind (inl <&> when is_schema (SchemaKind <&> schema_definition m n) (type_definition m n))
      (when is_directive (inr <&> directive_definition m n) refuse)

  unfoldable pub type_system_definition : ℕ → Parser (DefinitionTree P)
  type_system_definition n = type_system_of <&> placed m (try is_string (description m) ⊙ undescribed n)

  -- what follows `extend`
  unfoldable pub extension : ℕ → Parser (KindTree P)
  extension n = such_that has_part (when is_schema (SchemaKind <&> schema_extension m n) (type_definition m n))

  unfoldable pub type_system_extension : ℕ → Parser (DefinitionTree P)
  type_system_extension n = extension_of <&> placed m (mark is_extend ⊙ extension n)

  unfoldable pub definition : ℕ → Parser (DefinitionTree P)
  definition n =
      when begins_operation ((λ x. Operation x.place x.it) <&> placed m (operation_definition m n))
      (when is_fragment ((λ x. Fragment x.place x.it) <&> placed m (fragment_definition m n))
      (when begins_type_system (type_system_definition n) (when is_extend (type_system_extension n) refuse)))

  unfoldable pub document : ℕ → Parser (List (DefinitionTree P))
  document n = some begins_definition (definition n)
