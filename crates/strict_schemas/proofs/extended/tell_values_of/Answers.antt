use Rattle.std.proofs.Common.{sym, ap, ◌∙◌}
use Rattle.std.proofs.lemmas.Result.{on_ok_weaker}
use Rattle.schema_types.specs.TypeView.{extended_type}
use Rattle.strict_documents.specs.DepartureViews.{departures_of}
use Rattle.strict_schemas.specs.Departing.{added_value}
use Rattle.strict_schemas.specs.Told.{value_entry, value_entries}
use Rattle.strict_schemas.proofs.Found.{told_as}
use Rattle.strict_schemas.proofs.extended.tell_values_of.Goals as goal

pub returns-in-Some : goal.returns-in-Some
returns-in-Some c =
    on_ok_weaker c.tell_added_values.result
    (told_as value_entry added_value (departures_of c.args.departures.now) (departures_of c.tell_added_values.new.departures) c.in-Some.values.now.entries (extended_type c.args.ty.now).values (ap value_entries (sym c.in-Some.is) ∙ c.values_of.ensures))
    c.tell_added_values.ensures
