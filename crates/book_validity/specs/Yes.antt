-- The book of a yes: when schema texts, and a document over them, are accepted. It says the same as `IsAccepted` (`AcceptedByTheBook`).
use Rattle.std.specs.Prelude.{◌≡◌, ℕ, List}
use Rattle.graphql_names.specs.Placed.{Place}
use Rattle.schema_types.specs.SchemaTree.{SchemaTree}
use Rattle.schema_building.specs.Numbers.{HaveNumbers}
use Rattle.rule_definitions.specs.Judged.{judged}
use Rattle.rule_definitions.specs.Kept.{kept}
use Rattle.spec_document.specs.Unplaced.{unplaced_document}
use Rattle.verdict_definitions.specs.Texts.{SourceText, Tree, Terms, ReadsText, ReadsAll, document_number, IsWithin, AreWithin}
use Rattle.verdict_definitions.specs.Meaning.{all_definitions, schema_of, meanings_over, document_over}
use Rattle.verdict_definitions.specs.in_typing.OutDoc.{written_document, out_doc}
use Rattle.schema_built_in.specs.Table.{built_in_definitions}
use Rattle.book_validity.specs.Folding.{AreFoldable}
use Rattle.book_validity.specs.Words.{Document}
use Rattle.book_validity.specs.Schema.{IsValidSchema}
use Rattle.book_validity.specs.Typing.{IsTypedDocument}
use Rattle.book_validity.specs.Document.{IsValidDocument, DoFieldsMerge}

-- what the document means over the schema, without places
abbrev pub meaning_over : SchemaTree Place → Tree → Document
meaning_over schema tree = unplaced_document (document_over schema tree)

-- 3.5: the schema over which documents are judged, without each built-in scalar that is the type of no field, argument or input field
abbrev pub schema_for_documents : Terms → List Tree → SchemaTree Place
schema_for_documents terms trees = kept (schema_of terms trees)

-- the schema texts are read, and their definitions fold to a schema, which is valid
pub record AreValidSchemas (terms : Terms) (schemas : List SourceText) : Type 0 where
  pub trees : List Tree
  pub read : ReadsAll terms.first_text schemas trees
  pub within : AreWithin terms.nesting terms.first_text schemas
  pub folds : AreFoldable built_in_definitions (all_definitions trees)
  pub numbered : HaveNumbers terms.first_extension (all_definitions trees)
  pub valid : IsValidSchema (judged (schema_of terms trees))

-- the document, which has this number, is read, and has a meaning over the schema, which is valid and whose fields merge
pub record IsValidOver (schema : SchemaTree Place) (nesting number : ℕ) (document : SourceText) : Type 0 where
  pub tree : Tree
  pub read : ReadsText number document tree
  pub within : IsWithin nesting number document
  pub typed : IsTypedDocument (meanings_over schema) tree
  pub valid : IsValidDocument (judged schema) (meaning_over schema tree)
  pub merges : DoFieldsMerge (judged schema) (meaning_over schema tree)

-- a law: the meaning of a typed document has all of the document, each operation and fragment with each of its selections
abbrev pub TypedIsKeptWhole : Type 0
TypedIsKeptWhole = (schema : SchemaTree Place) (tree : Tree) → IsTypedDocument (meanings_over schema) tree → written_document (document_over schema tree) ≡ out_doc tree

pub record IsYes (terms : Terms) (schemas : List SourceText) (document : SourceText) : Type 0 where
  pub schema : AreValidSchemas terms schemas
  pub over : IsValidOver (schema_for_documents terms schema.trees) terms.nesting (document_number terms schemas) document
