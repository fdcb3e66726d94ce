-- The sources of a builder: those of all documents, and of each file number the last.
use Rattle.std.specs.Prelude.{ℕ, List, [], ◌∷◌, map, nat_eq}
use Rattle.graphql_names.specs.declared.span.FileId.{FileId}
use Rattle.schema_built_in.specs.in_definitions.Sources.{Source, numbered_source}
use Rattle.schema_built_in.specs.in_definitions.declared.document.SourceFile.{SourceFile}
use Rattle.indexmap.specs.IndexMap.{IndexMap, insert_entry}

abbrev pub Sources : Type 0
Sources = List (ℕ × Source)

-- the old sources with those of a document added: one with the number of an earlier one replaces it
abbrev pub with_sources : Sources → Sources → Sources
with_sources old [] = old
with_sources old (s ∷ more) = with_sources (insert_entry nat_eq old s.0 s.1) more

abbrev pub sources_view : {S : Type 0} → IndexMap FileId SourceFile S → Sources
sources_view m = map numbered_source m.entries
