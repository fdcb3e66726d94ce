use Rattle.std.proofs.Common.{sym, ap, ◌∙◌}
use Rattle.std.proofs.lemmas.Result.{on_ok_weaker}
use Rattle.schema_types.specs.TypeView.{extended_type}
use Rattle.graphql_schema.specs.SchemaOf.{schema_tree}
use Rattle.strict_documents.specs.DepartureViews.{departures_of}
use Rattle.strict_schemas.specs.Departing.{input_departures}
use Rattle.strict_schemas.specs.Told.{input_entry, input_entries}
use Rattle.strict_schemas.proofs.Found.{told_as}
use Rattle.strict_schemas.proofs.inputs.tell_input_fields_of.Goals as goal

pub returns-in-Some : goal.returns-in-Some
returns-in-Some c =
    let s = schema_tree c.args.schema.now in
    on_ok_weaker c.tell_input_fields_in.result
    (told_as input_entry (λ e. input_departures s e.1.it) (departures_of c.args.departures.now) (departures_of c.tell_input_fields_in.new.departures) c.in-Some.fields.now.entries (extended_type c.args.ty.now).inputs (ap input_entries (sym c.in-Some.is) ∙ c.input_fields_of.ensures))
    c.tell_input_fields_in.ensures
