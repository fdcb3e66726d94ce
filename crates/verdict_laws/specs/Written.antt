-- What is written of an accepted pair can be written by the grammar (GraphQL, October 2021, appendix B).
use Rattle.std.specs.Prelude.{◌≡◌, ◌≢◌, ℕ, true, List}
use Rattle.graphql_names.specs.Placed.{Place}
use Rattle.tree_definitions.specs.Writable.{document_writable}
use Rattle.schema_types.specs.SchemaTree.{SchemaTree}
use Rattle.document_typing.specs.TypingFaults.{TypingRules}
use Rattle.verdict_definitions.specs.Texts.{SourceText, Tree, Terms, ReadsText}
use Rattle.verdict_definitions.specs.Meaning.{meanings_over}
use Rattle.verdict_definitions.specs.Judge.{AreSchemasAccepted}
use Rattle.verdict_definitions.specs.Out.{Out, OutDoc}

-- what is written of accepted schema texts, none of which has the number of what is built in
abbrev pub AcceptedSchemasCanBeWritten : Type 0
AcceptedSchemasCanBeWritten = (terms : Terms) (schemas : List SourceText) → terms.first_text ≢ 0 → (accepted : AreSchemasAccepted terms schemas)
    → document_writable (Out terms accepted.judged.trees) ≡ true

-- what is written of a document that is read and breaks no rule of typing
abbrev pub TypedDocumentsCanBeWritten : Type 0
TypedDocumentsCanBeWritten = (schema : SchemaTree Place) (number : ℕ) (document : SourceText) (tree : Tree) → ReadsText number document tree
    → TypingRules (meanings_over schema) tree → document_writable (OutDoc tree) ≡ true
