-- What texts mean: the schema that schema texts fold to, and the document over it (GraphQL, October 2021, sections 2, 3 and 5).
use Rattle.std.specs.Prelude.{List}
use Rattle.std.specs.List.{flat_map}
use Rattle.graphql_names.specs.Placed.{Place}
use Rattle.schema_types.specs.SchemaTree.{SchemaTree}
use Rattle.schema_types.specs.Plain.{plain}
use Rattle.schema_built_in.specs.Table.{built_in_definitions}
use Rattle.schema_fold.specs.Fold.{fold}
use Rattle.rule_definitions.specs.Kept.{validated}
use Rattle.spec_document.specs.MeantTree.{MeantDocument}
use Rattle.document_typing.specs.Meanings.{Meanings, meanings}
use Rattle.document_typing.specs.KeptDocument.{kept_document}
use Rattle.verdict_definitions.specs.Texts.{Tree, Terms}

-- the definitions of the texts, in order
abbrev pub all_definitions : List Tree → Tree
all_definitions trees = flat_map (λ t. t) trees

module _ (terms : Terms) (trees : List Tree) where
  -- the schema that they fold to, after what is built in
  abbrev pub schema_of : SchemaTree Place
  schema_of = fold built_in_definitions terms.first_extension (all_definitions trees)

  -- the schema for documents: the one over which they are judged, without built-in scalars to which nothing refers
  abbrev pub document_schema : SchemaTree Place
  document_schema = validated schema_of

-- what typing reads of a schema, and what it keeps of a document over it
abbrev pub meanings_over : SchemaTree Place → Meanings
meanings_over schema = meanings (plain schema)

abbrev pub document_over : SchemaTree Place → Tree → MeantDocument Place
document_over schema tree = kept_document (meanings_over schema) tree
