-- Private: leads to `AreFound`. What contracts see of selected fields.
use Rattle.std.specs.Prelude.{List, map}
use Rattle.graphql_names.specs.Placed.{Place}
use Rattle.rule_document_definitions.specs.Selected.{StandingField}
use Rattle.rule_reach.specs.Fields.{field_of}
use Rattle.rule_reach.specs.declared.field_selection.FieldSelection.{FieldSelection}

abbrev pub fields_of : List FieldSelection → List (StandingField Place)
fields_of xs = map field_of xs
