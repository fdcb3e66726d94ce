-- The sources of a document.
use Rattle.std.specs.Prelude.{ℕ, List, map}
use Rattle.std.specs.Rc.{rc_str_bytes}
use Rattle.std.specs.String.{string_bytes}
use Rattle.graphql_names.specs.declared.span.FileId.{FileId}
use Rattle.tree_definitions.specs.declared.document.SourceFile.{SourceFile}
use Rattle.tree_definitions.specs.declared.document.Document.{Document}

-- a path and a text, in bytes
pub record Source : Type 0 where
  pub path : List ℕ
  pub text : List ℕ

-- the path and the text of a source file
abbrev pub source_of : SourceFile → Source
source_of f = record { path = string_bytes f.path; text = rc_str_bytes f.text }

-- the number of a file, and its source
abbrev pub numbered_source : FileId × SourceFile → ℕ × Source
numbered_source e = (e.0.0, source_of e.1)

-- the sources of a document in the order of its entries
abbrev pub sources_of : Document → List (ℕ × Source)
sources_of d = map numbered_source d.sources.entries
