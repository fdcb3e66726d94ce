-- The number of a text plays no part: neither the grammar nor a rule reads a place (GraphQL, October 2021, section 5 and appendix B).
use Rattle.std.specs.Prelude.{◌≡◌, ℕ, List, ◌↔◌}
use Rattle.graphql_names.specs.Placed.{Place}
use Rattle.tree_definitions.specs.DefinitionTree.{unplaced_document}
use Rattle.schema_types.specs.SchemaTree.{SchemaTree}
use Rattle.rule_definitions.specs.Laws.{AreEqual}
use Rattle.verdict_definitions.specs.Texts.{SourceText, Tree, ReadsText, PassesNumbers}
use Rattle.verdict_definitions.specs.Judge.{JudgeDocument, IsDocumentAccepted, IsDocumentCertain}
use Rattle.verdict_definitions.specs.Out.{Layout}
use Rattle.verdict_definitions.specs.Answer.{WritesDocument}

-- a text can have this number
abbrev pub IsNumber : ℕ → Type 0
IsNumber number = PassesNumbers number → ⊥

-- a text has one tree
abbrev pub TextsHaveOneTree : Type 0
TextsHaveOneTree = (number : ℕ) (text : SourceText) (tree other : Tree) → ReadsText number text tree → ReadsText number text other → tree ≡ other

-- a text that is read under one number is read under every other, as the same definitions apart from places
abbrev pub TextsAreReadAlike : Type 0
TextsAreReadAlike = (i j : ℕ) (text : SourceText) (tree : Tree) → ReadsText i text tree
    → (other : Tree) × (ReadsText j text other × (unplaced_document tree ≡ unplaced_document other))

-- the same is written of a document under any two numbers
abbrev pub DocumentsAreWrittenAlike : Type 0
DocumentsAreWrittenAlike = (layout : Layout) (i j : ℕ) (document : SourceText) (bytes : List ℕ) → WritesDocument layout i document bytes ↔ WritesDocument layout j document bytes

-- ---- over equal schemas, under any two numbers

-- a document gets the same verdict
abbrev pub EqualSchemasJudgeAlike : Type 0
EqualSchemasJudgeAlike = (a b : SchemaTree Place) → AreEqual a b → (i j : ℕ) (document : SourceText) → JudgeDocument a i document ↔ JudgeDocument b j document

-- if a text can have both numbers, it is accepted over both schemas or over neither
abbrev pub EqualSchemasAcceptAlike : Type 0
EqualSchemasAcceptAlike = (a b : SchemaTree Place) → AreEqual a b → (nesting i j : ℕ) → IsNumber i → IsNumber j → (document : SourceText)
    → IsDocumentAccepted a nesting i document ↔ IsDocumentAccepted b nesting j document

-- if a text can have both numbers, it is certain over both schemas or over neither
abbrev pub EqualSchemasAcceptForSureAlike : Type 0
EqualSchemasAcceptForSureAlike = (a b : SchemaTree Place) → AreEqual a b → (nesting i j : ℕ) → IsNumber i → IsNumber j → (document : SourceText)
    → IsDocumentCertain a nesting i document ↔ IsDocumentCertain b nesting j document
