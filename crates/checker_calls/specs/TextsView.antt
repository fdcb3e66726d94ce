-- Private: leads to what `Checker::finish` answers. What contracts see of the schema texts that a checker was given.
use Rattle.std.specs.Prelude.{◌≡◌, ℕ, ◌+◌, ◌<◌, ◌^◌, List, map, flat_map}
use Rattle.std.specs.Rc.{rc_str_bytes}
use Rattle.graphql_names.specs.declared.span.FileId.{FileId}
use Rattle.tree_definitions.specs.DefinitionTree.{document_tree}
use Rattle.tree_definitions.specs.Sources.{sources_of}
use Rattle.tree_definitions.specs.declared.document.Document.{Document}
use Rattle.verdict_definitions.specs.in_faults.DetailsView.{diagnostics_of}
use Rattle.verdict_definitions.specs.Texts.{SourceText, Tree, Terms}
use Rattle.checker_calls.specs.TextSources.{Sources}
use Rattle.checker_calls.specs.Added.{AreAdded}
use Rattle.checker_calls.specs.declared.schema_texts.SchemaTexts.{SchemaTexts}

-- the terms on which they are judged
abbrev pub terms_of : SchemaTexts → Terms
terms_of s = record { nesting = s.nesting; first_text = s.first; first_extension = s.extensions }

-- the texts, in order
abbrev pub texts_of : SchemaTexts → List SourceText
texts_of s = map rc_str_bytes s.texts.items

-- the trees that were kept
abbrev pub trees_of : SchemaTexts → List Tree
trees_of s = map document_tree s.documents.items

-- the sources of documents, in order
abbrev pub all_sources : List Document → Sources
all_sources documents = flat_map (λ sources. sources) (map sources_of documents)

-- What reading gave is that of these texts, and the next one gets this number.
abbrev pub IsReadingAt : List SourceText → ℕ → SchemaTexts → Type 0
IsReadingAt texts number s = AreAdded (terms_of s) texts number (trees_of s) (all_sources s.documents.items) (diagnostics_of s.unread)

-- What reading gave is that of these texts.
abbrev pub IsReadingOf : List SourceText → SchemaTexts → Type 0
IsReadingOf texts s = IsReadingAt texts s.files s

-- What reading gave is that of these texts; the next one has the number `file`, which is taken already.
pub record IsBefore (texts : List SourceText) (file : FileId) (s : SchemaTexts) : Type 0 where
  pub added : IsReadingAt texts file.0 s
  pub number : s.files ≡ file.0 + 1
  pub left : file.0 + 1 < 2 ^ 64
