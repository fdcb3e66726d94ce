-- What contracts see of a schema builder.
use Rattle.schema_building.specs.BuilderValue.{BuilderValue}
use Rattle.schema_building.specs.BuildingView.{builder_view}
use Rattle.graphql_schema.specs.declared.builder.SchemaBuilder.{SchemaBuilder}

abbrev pub builder_value : SchemaBuilder → BuilderValue
builder_value b = builder_view b.building
