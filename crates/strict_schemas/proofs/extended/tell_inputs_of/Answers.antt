use Rattle.std.proofs.Common.{sym, ap, ◌∙◌}
use Rattle.std.proofs.lemmas.Result.{on_ok_weaker}
use Rattle.schema_types.specs.TypeView.{extended_type}
use Rattle.strict_documents.specs.DepartureViews.{departures_of}
use Rattle.strict_schemas.specs.Departing.{added_input}
use Rattle.strict_schemas.specs.Told.{input_entry, input_entries}
use Rattle.strict_schemas.proofs.Found.{told_as}
use Rattle.strict_schemas.proofs.extended.tell_inputs_of.Goals as goal

pub returns-in-Some : goal.returns-in-Some
returns-in-Some c =
    on_ok_weaker c.tell_added_inputs.result
    (told_as input_entry added_input (departures_of c.args.departures.now) (departures_of c.tell_added_inputs.new.departures) c.in-Some.fields.now.entries (extended_type c.args.ty.now).inputs (ap input_entries (sym c.in-Some.is) ∙ c.input_fields_of.ensures))
    c.tell_added_inputs.ensures
