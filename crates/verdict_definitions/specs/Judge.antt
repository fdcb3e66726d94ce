-- The verdict: when schema texts, and a document over them, are accepted (GraphQL, October 2021, sections 2, 3 and 5).
use Rattle.std.specs.Prelude.{ℕ, List}
use Rattle.graphql_names.specs.Placed.{Place}
use Rattle.schema_types.specs.SchemaTree.{SchemaTree}
use Rattle.schema_built_in.specs.Table.{built_in_definitions}
use Rattle.schema_fold.specs.BuildErrors.{FoldingRules}
use Rattle.document_typing.specs.in_schema_building.Numbers.{HaveNumbers}
use Rattle.rule_definitions.specs.Judged.{judged}
use Rattle.rule_definitions.specs.Faults.{SchemaFault}
use Rattle.rule_definitions.specs.Cycles.{PassesReferenceBound}
use Rattle.rule_definitions.specs.Rules.{SchemaRules}
use Rattle.spec_document.specs.Unplaced.{unplaced_document}
use Rattle.document_typing.specs.TypingFaults.{TypingRules}
use Rattle.graphql_faults.specs.in_document_rule_definitions.PlacedDocumentFaults.{IsValidDocument}
use Rattle.graphql_faults.specs.in_document_rule_definitions.Verdict.{WithinBounds}
use Rattle.verdict_definitions.specs.Texts.{SourceText, Tree, Terms, ReadsText, ReadsAll, document_number, IsWithin, AreWithin}
use Rattle.verdict_definitions.specs.Meaning.{all_definitions, schema_of, document_schema, meanings_over, document_over}

-- no folding rule is broken
abbrev pub Folds : Terms → List Tree → Type 0
Folds terms trees = FoldingRules built_in_definitions terms.first_extension (all_definitions trees)

-- ---- the verdict

-- The schema texts are read, and every rule holds of the schema that they fold to.
pub record JudgeSchemas (terms : Terms) (schemas : List SourceText) : Type 0 where
  pub trees : List Tree
  pub read : ReadsAll terms.first_text schemas trees
  pub folds : Folds terms trees
  pub holds : SchemaRules (judged (schema_of terms trees))

-- The document, which has this number, is read, and every rule holds of it over the schema: those of typing, and then those
-- on documents and on merging.
pub record JudgeDocument (schema : SchemaTree Place) (number : ℕ) (document : SourceText) : Type 0 where
  pub tree : Tree
  pub read : ReadsText number document tree
  pub typed : TypingRules (meanings_over schema) tree
  pub holds : IsValidDocument schema (document_over schema tree)

-- The texts are read, and every rule holds of the schema and of the document over it.
pub record Judge (terms : Terms) (schemas : List SourceText) (document : SourceText) : Type 0 where
  pub schema : JudgeSchemas terms schemas
  pub over : JudgeDocument (document_schema terms schema.trees) (document_number terms schemas) document

-- ---- what is accepted: what the verdict accepts, within the bounds on brackets and on numbers

pub record AreSchemasAccepted (terms : Terms) (schemas : List SourceText) : Type 0 where
  pub judged : JudgeSchemas terms schemas
  pub within : AreWithin terms.nesting terms.first_text schemas
  pub numbered : HaveNumbers terms.first_extension (all_definitions judged.trees)

pub record IsDocumentAccepted (schema : SchemaTree Place) (nesting number : ℕ) (document : SourceText) : Type 0 where
  pub judged : JudgeDocument schema number document
  pub within : IsWithin nesting number document

pub record IsAccepted (terms : Terms) (schemas : List SourceText) (document : SourceText) : Type 0 where
  pub schema : AreSchemasAccepted terms schemas
  pub over : IsDocumentAccepted (document_schema terms schema.judged.trees) terms.nesting (document_number terms schemas) document

-- ---- certain: accepted, and passing none of the bounds ReferenceBound, SpreadBound, PathBound and ChainBound

-- ReferenceBound: no path along the references of directives or of input objects is too long
abbrev pub PassesNoReferenceBound : SchemaTree Place → Type 0
PassesNoReferenceBound schema = (fault : SchemaFault) → PassesReferenceBound (judged schema) fault → ⊥

-- SpreadBound, PathBound and ChainBound: no path of spreads, of selections or of fields is too long
abbrev pub PassesNoDocumentBound : SchemaTree Place → Tree → Type 0
PassesNoDocumentBound schema tree = WithinBounds (unplaced_document (document_over schema tree))

-- the accepted schema texts, the accepted document, the accepted pair, pass none of these bounds
abbrev pub AreSchemasCertain : Terms → List SourceText → Type 0
AreSchemasCertain terms schemas = (accepted : AreSchemasAccepted terms schemas) × PassesNoReferenceBound (schema_of terms accepted.judged.trees)

abbrev pub IsDocumentCertain : SchemaTree Place → ℕ → ℕ → SourceText → Type 0
IsDocumentCertain schema nesting number document = (accepted : IsDocumentAccepted schema nesting number document) × PassesNoDocumentBound schema accepted.judged.tree

pub record IsCertain (terms : Terms) (schemas : List SourceText) (document : SourceText) : Type 0 where
  pub accepted : IsAccepted terms schemas document
  pub references : PassesNoReferenceBound (schema_of terms accepted.schema.judged.trees)
  pub nests : PassesNoDocumentBound (document_schema terms accepted.schema.judged.trees) accepted.over.judged.tree
