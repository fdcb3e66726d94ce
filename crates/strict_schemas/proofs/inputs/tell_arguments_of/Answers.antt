use Rattle.std.proofs.Common.{sym, ap, ◌∙◌}
use Rattle.std.proofs.lemmas.Result.{on_ok_weaker}
use Rattle.schema_types.specs.TypeView.{extended_type}
use Rattle.graphql_schema.specs.SchemaOf.{schema_tree}
use Rattle.strict_documents.specs.DepartureViews.{departures_of}
use Rattle.strict_schemas.specs.Departing.{inputs_departures}
use Rattle.strict_schemas.specs.Told.{field_entry, field_entries}
use Rattle.strict_schemas.proofs.Found.{told_as}
use Rattle.strict_schemas.proofs.inputs.tell_arguments_of.Goals as goal

pub returns-in-Some : goal.returns-in-Some
returns-in-Some c =
    let s = schema_tree c.args.schema.now in
    on_ok_weaker c.tell_arguments_in.result
    (told_as field_entry (λ e. inputs_departures s e.1.it.it.arguments) (departures_of c.args.departures.now) (departures_of c.tell_arguments_in.new.departures) c.in-Some.fields.now.entries (extended_type c.args.ty.now).fields (ap field_entries (sym c.in-Some.is) ∙ c.fields_of.ensures))
    c.tell_arguments_in.ensures
