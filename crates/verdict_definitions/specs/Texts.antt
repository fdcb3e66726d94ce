-- Texts and their trees: which have one, and within which bounds (GraphQL, October 2021, section 2 and appendix B).
use Rattle.std.specs.Prelude.{ℕ, ◌+◌, ◌≤◌, ◌^◌, List, [], ◌∷◌, length}
use Rattle.graphql_names.specs.Placed.{Place}
use Rattle.tree_definitions.specs.DefinitionTree.{DefinitionTree}
use Rattle.graphql_faults.specs.in_tokens.Input.{Token}
use Rattle.graphql_faults.specs.in_grammar.Grammar.{Derives}
use Rattle.graphql_faults.specs.in_read_operations.Meanings.{in_file}
use Rattle.graphql_faults.specs.in_read.Reads.{HasTree, NestingBound}

-- a text as its bytes; its tree, the definitions in it
abbrev pub SourceText : Type 0
SourceText = List ℕ

abbrev pub Tree : Type 0
Tree = List (DefinitionTree Place)

-- The terms on which texts are judged: how many brackets may be open at once, and the first numbers of texts and of
-- extensions.
pub record Terms : Type 0 where
  pub nesting : ℕ
  pub first_text : ℕ
  pub first_extension : ℕ

-- these tokens, of the text with this number, are a document with this tree
abbrev pub DerivesIn : ℕ → List Token → Tree → Type 0
DerivesIn number = Derives (in_file (record { 0 = number }))

-- the text with this number has this tree
abbrev pub ReadsText : ℕ → SourceText → Tree → Type 0
ReadsText number = HasTree (DerivesIn number)

-- the texts have these trees, in order; the first text has the number `first`, and each later one the next number
abbrev pub ReadsAll : ℕ → List SourceText → List Tree → Type 0
ReadsAll first [] [] = Unit {0}
ReadsAll first (text ∷ texts) (tree ∷ trees) = ReadsText first text tree × ReadsAll (first + 1) texts trees
ReadsAll first _ _ = ⊥

-- the number of the document, which comes after these schema texts
abbrev pub document_number : Terms → List SourceText → ℕ
document_number terms schemas = length schemas + terms.first_text

-- ---- bounds

-- no text can have this number: the greatest of 64 bits is given to none
abbrev pub PassesNumbers : ℕ → Type 0
PassesNumbers number = 2 ^ 64 ≤ number + 1

-- a text with this number passes no bound
pub record IsWithin (nesting number : ℕ) (text : SourceText) : Type 0 where
  pub nests : NestingBound nesting text → ⊥
  pub numbered : PassesNumbers number → ⊥

-- each text passes no bound; the first has the number `first`
abbrev pub AreWithin : ℕ → ℕ → List SourceText → Type 0
AreWithin nesting first [] = Unit {0}
AreWithin nesting first (text ∷ texts) = IsWithin nesting first text × AreWithin nesting (first + 1) texts

-- The text with this number is read.
pub record IsRead (nesting number : ℕ) (text : SourceText) : Type 0 where
  pub tree : Tree
  pub reads : ReadsText number text tree
  pub within : IsWithin nesting number text

-- each text is read; the first has the number `first`
abbrev pub AreRead : ℕ → ℕ → List SourceText → Type 0
AreRead nesting first [] = Unit {0}
AreRead nesting first (text ∷ texts) = IsRead nesting first text × AreRead nesting (first + 1) texts
