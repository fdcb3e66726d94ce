-- What the grammar takes after the beginning of a document.
use Rattle.std.specs.Prelude.{ℕ, ◌<◌, ◌∷◌, ◌++◌, List, length}
use Rattle.graphql_names.specs.declared.span.FileId.{FileId}
use Rattle.graphql_names.specs.Placed.{Place}
use Rattle.graphql_read.specs.Reads.{HasTree, IsDue}
use Rattle.read_grammar.specs.Faults.{End, Nesting}
use Rattle.read_grammar.specs.Grammar.{Derives}
use Rattle.read_types.specs.in_definitions.DefinitionTree.{DefinitionTree}
use Rattle.read_types.specs.in_read_operations.Meanings.{in_file}

-- the text is a document
abbrev pub IsDocument : FileId → List ℕ → Type 0
IsDocument file text = (tree : List (DefinitionTree Place)) × HasTree (Derives (in_file file)) text tree

-- some document begins with the tokens of the text, which is none
abbrev pub EndsEarly : FileId → ℕ → List ℕ → Type 0
EndsEarly file nesting text = (offset : ℕ) × IsDue (Derives (in_file file)) nesting text (End offset)

-- some document begins with the tokens of the text up to a bracket past that place, which is one too many open at once
abbrev pub OpensAfter : FileId → ℕ → List ℕ → ℕ → Type 0
OpensAfter file nesting text place = (offset : ℕ) × (place < offset) × IsDue (Derives (in_file file)) nesting text (Nesting offset)

-- the form may follow the beginning of a document, in a line of its own
pub data IsTaken (file : FileId) (nesting : ℕ) (begun form : List ℕ) : Type 0 where
  Whole : IsDocument file (begun ++ 10 ∷ form) → IsTaken file nesting begun form
  Early : EndsEarly file nesting (begun ++ 10 ∷ form) → IsTaken file nesting begun form
  Opens : OpensAfter file nesting (begun ++ 10 ∷ form) (length begun) → IsTaken file nesting begun form
