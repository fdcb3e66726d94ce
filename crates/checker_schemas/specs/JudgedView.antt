-- Private: leads to `IsCheckedSchemaOf`. What contracts see of the schema of accepted texts before it checks documents.
use Rattle.tree_definitions.specs.DefinitionTree.{document_tree}
use Rattle.checker_calls.specs.in_schema.SchemaOf.{schema_tree}
use Rattle.schema_building.specs.SourcesView.{sources_view}
use Rattle.checker_schemas.specs.CheckedSchemaValue.{CheckedSchemaValue}
use Rattle.checker_schemas.specs.declared.finish.JudgedTexts.{JudgedTexts}

abbrev pub judged_value : JudgedTexts → CheckedSchemaValue
judged_value s = record { nesting = s.nesting; number = s.number; schema = schema_tree s.schema; sources = sources_view s.schema.sources; written = document_tree s.written }
