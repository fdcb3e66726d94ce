use Rattle.std.proofs.Common.{◌++◌, ◌∙◌, ap}
use Rattle.std.proofs.lemmas.Result.{on_ok_weaker}
use Rattle.schema_types.specs.TypeView.{extended_type}
use Rattle.graphql_schema.specs.SchemaOf.{schema_tree}
use Rattle.graphql_schema.specs.declared.schema.Schema.{Schema}
use Rattle.rule_definitions.specs.Room.{◌⊕◌}
use Rattle.strict_documents.specs.DepartureViews.{departures_of}
use Rattle.strict_schemas.specs.Departing.{extended_departures, extra_departures, arguments_departures, input_fields_departures}
use Rattle.strict_schemas.proofs.Found.{next}
use Rattle.strict_schemas.proofs.schema.tell_type.Goals as goal

pub returns : goal.returns
returns c =
    let s = schema_tree c.args.schema.now in
    let t = extended_type c.args.ty.now in
    let a = departures_of c.args.departures.now in
    let b = departures_of c.tell_extended.new.departures in
    let d = departures_of c.tell_extra.new.departures in
    let e = departures_of c.tell_arguments_of.new.departures in
    let f = departures_of c.tell_input_fields_of.new.departures in
    let extra = extra_departures s t in
    let arguments = arguments_departures s t.fields in
    let inputs = input_fields_departures s t.inputs in
    on_ok_weaker c.tell_input_fields_of.result
    (λ told.
    next a b f (extended_departures t) (extra ++ (arguments ++ inputs)) c.in_ok-tell_extended.ensures
    (next b d f extra (arguments ++ inputs) (c.in_ok-tell_extra.ensures ∙ ap (λ (x : Schema). b ⊕ extra_departures (schema_tree x) t) c.schema.ensures) (next d e f arguments inputs c.in_ok-tell_arguments_of.ensures told)))
    c.tell_input_fields_of.ensures
