use Rattle.std.proofs.Common.{sym, ap, ◌∙◌}
use Rattle.std.proofs.lemmas.Result.{on_ok_weaker}
use Rattle.schema_types.specs.TypeView.{extended_type}
use Rattle.strict_documents.specs.DepartureViews.{departures_of}
use Rattle.strict_schemas.specs.Departing.{added_field}
use Rattle.strict_schemas.specs.Told.{field_entry, field_entries}
use Rattle.strict_schemas.proofs.Found.{told_as}
use Rattle.strict_schemas.proofs.extended.tell_fields_of.Goals as goal

pub returns-in-Some : goal.returns-in-Some
returns-in-Some c =
    on_ok_weaker c.tell_added_fields.result
    (told_as field_entry added_field (departures_of c.args.departures.now) (departures_of c.tell_added_fields.new.departures) c.in-Some.fields.now.entries (extended_type c.args.ty.now).fields (ap field_entries (sym c.in-Some.is) ∙ c.fields_of.ensures))
    c.tell_added_fields.ensures
