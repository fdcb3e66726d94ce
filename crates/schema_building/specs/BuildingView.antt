-- What contracts see of a schema builder's state.
use Rattle.schema_building.specs.BuilderValue.{BuilderValue}
use Rattle.schema_building.specs.KeptView.{definitions, first_number}
use Rattle.schema_building.specs.SettingsView.{settings_view}
use Rattle.schema_building.specs.SourcesView.{sources_view}
use Rattle.schema_building.specs.declared.state.Building.{Building}

abbrev pub builder_view : Building → BuilderValue
builder_view b = record {
  first = first_number b.texts;
  texts = definitions b.texts;
  sources = sources_view b.sources;
  settings = settings_view b.settings;
  failed = b.failed;
}
