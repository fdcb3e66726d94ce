-- What contracts see of a schema.
use Rattle.graphql_names.specs.Placed.{Place}
use Rattle.schema_building.specs.in_schema_types.SchemaTree.{SchemaTree}
use Rattle.schema_building.specs.in_schema_types.SchemaView.{schema_view}
use Rattle.graphql_schema.specs.declared.schema.Schema.{Schema}

abbrev pub schema_tree : Schema → SchemaTree Place
schema_tree s = schema_view s.schema_definition s.directive_definitions s.types
