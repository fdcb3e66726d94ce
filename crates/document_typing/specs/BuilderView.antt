-- What contracts see of a builder of documents, and when it refuses.
use Rattle.std.specs.Prelude.{◌≡◌, Bool, true, false, List, [], ◌++◌, map, Option}
use Rattle.std.specs.Borrow.{Bor}
use Rattle.graphql_names.specs.Placed.{Place}
use Rattle.tree_definitions.specs.DefinitionTree.{DefinitionTree, definition_tree}
use Rattle.schema_types.specs.SchemaTree.{SchemaTree}
use Rattle.graphql_schema.specs.SourcesView.{Sources, sources_view, with_sources}
use Rattle.graphql_schema.specs.declared.schema.Schema.{Schema}
use Rattle.document_typing.specs.MeantTree.{MeantDocument}
use Rattle.document_typing.specs.Meanings.{Meanings}
use Rattle.document_typing.specs.KeptDocument.{kept_document}
use Rattle.document_typing.specs.MeaningView.{schema_under, meanings_under}
use Rattle.document_typing.specs.declared.refusal.BuilderRefusal.{BuilderRefusal}
use Rattle.document_typing.specs.declared.refusal.BuilderRefusal.TheVariants.{Memory, Failed}
use Rattle.document_typing.specs.declared.builder.ExecutableDocumentBuilder.{ExecutableDocumentBuilder}

-- the schema, if there is one, and what typing reads of it; the definitions and the sources that were added; whether memory ran out
pub record DocumentBuilder : Type 0 where
  pub schema : Option (SchemaTree Place)
  pub meanings : Meanings
  pub definitions : List (DefinitionTree Place)
  pub sources : Sources
  pub failed : Bool

abbrev pub document_builder : ExecutableDocumentBuilder → DocumentBuilder
document_builder b = record {
  schema = schema_under b.schema;
  meanings = meanings_under b.schema;
  definitions = map definition_tree b.definitions.items;
  sources = sources_view b.sources;
  failed = b.failed;
}

-- a builder without definitions, under the borrowed schema, if there is one
abbrev pub empty_builder : Option (Bor Schema) → DocumentBuilder
empty_builder schema = record {
  schema = schema_under schema;
  meanings = meanings_under schema;
  definitions = [];
  sources = [];
  failed = false;
}

-- the builder with the definitions and the sources of a document added after the others
abbrev pub and_document : DocumentBuilder → List (DefinitionTree Place) → Sources → DocumentBuilder
and_document b ds more = record b { definitions = b.definitions ++ ds; sources = with_sources b.sources more }

-- the document that is built: what is kept of all definitions that were added
abbrev pub built_document : DocumentBuilder → MeantDocument Place
built_document b = kept_document b.meanings b.definitions

-- a document is not added: at `Memory` the builder had not failed, and now it has; at `Failed` it had, and it is unchanged
abbrev pub IsDocumentAddRefusal : DocumentBuilder → DocumentBuilder → BuilderRefusal → Type 0
IsDocumentAddRefusal old new Memory = (old.failed ≡ false) × (new.failed ≡ true)
IsDocumentAddRefusal old new Failed = (old.failed ≡ true) × (new ≡ old)

-- no document is built: `Memory` if the builder had not failed, `Failed` if it had
abbrev pub IsDocumentBuildRefusal : DocumentBuilder → BuilderRefusal → Type 0
IsDocumentBuildRefusal b Memory = b.failed ≡ false
IsDocumentBuildRefusal b Failed = b.failed ≡ true
