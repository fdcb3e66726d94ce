-- What contracts see of a selection set that is typed without a document: what typing reads of its schema, and the selections passed in.
use Rattle.std.specs.Prelude.{List}
use Rattle.graphql_names.specs.Placed.{Place}
use Rattle.tree_operations.specs.SelectionTree.{SelectionTrees, selection_tree, selection_trees}
use Rattle.tree_operations.specs.declared.selection.Selection.{Selection}
use Rattle.schema_types.specs.Plain.{plain}
use Rattle.graphql_schema.specs.SchemaOf.{schema_tree}
use Rattle.graphql_schema.specs.declared.schema.Schema.{Schema}
use Rattle.document_typing.specs.Meanings.{Meanings, meanings}

-- what typing reads of a schema
abbrev pub schema_meanings : Schema → Meanings
schema_meanings s = meanings (plain (schema_tree s))

-- the selections that are passed in for the set
abbrev pub given_set : List Selection → SelectionTrees Place
given_set ss = selection_trees selection_tree ss
