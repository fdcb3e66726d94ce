-- What the reader of documents says of a text that goes on with a form.
use Rattle.std.proofs.Common.{◌≡◌, ℕ, List, ◌∷◌, ◌++◌, length, ◌<◌, subst}
use Rattle.graphql_names.specs.Placed.{Place}
use Rattle.graphql_names.specs.declared.span.FileId.{FileId}
use Rattle.graphql_read.specs.Reads.{ReadsWithin, IsDue}
use Rattle.read_grammar.specs.Faults.{End, Nesting}
use Rattle.read_grammar.specs.Grammar.{Derives}
use Rattle.read_types.specs.in_definitions.DefinitionTree.{DefinitionTree}
use Rattle.read_types.specs.in_read_operations.Meanings.{in_file}
use Rattle.graphql_report.specs.Taken as taken
use Rattle.graphql_report.specs.Taken.{IsTaken}

module _ (file : FileId) (nesting : ℕ) (begun form text : List ℕ) (is : text ≡ begun ++ 10 ∷ form) where
  pub whole : (tree : List (DefinitionTree Place)) → ReadsWithin (Derives (in_file file)) nesting text tree → IsTaken file nesting begun form
  whole tree r = taken.Whole (tree, (subst (λ t. ReadsWithin (Derives (in_file file)) nesting t tree) is r).reads)

  pub early : (offset : ℕ) → IsDue (Derives (in_file file)) nesting text (End offset) → IsTaken file nesting begun form
  early offset due = taken.Early (offset, subst (λ t. IsDue (Derives (in_file file)) nesting t (End offset)) is due)

  pub opens : (offset : ℕ) → length begun < offset → IsDue (Derives (in_file file)) nesting text (Nesting offset) → IsTaken file nesting begun form
  opens offset after due = taken.Opens (offset, after, subst (λ t. IsDue (Derives (in_file file)) nesting t (Nesting offset)) is due)
