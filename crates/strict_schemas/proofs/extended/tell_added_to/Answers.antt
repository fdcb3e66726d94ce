use Rattle.std.proofs.Common.{◌++◌, flat_map, ap, ◌∙◌}
use Rattle.std.proofs.lemmas.Result.{on_ok_weaker}
use Rattle.schema_types.specs.TypeView.{extended_type}
use Rattle.rule_definitions.specs.Room.{◌⊕◌}
use Rattle.strict_documents.specs.DepartureViews.{departures_of}
use Rattle.strict_schemas.specs.Departing.{added_directive, added_name, added_field, added_value, added_input}
use Rattle.strict_schemas.proofs.Found.{next}
use Rattle.strict_schemas.proofs.extended.tell_added_to.Goals as goal

pub returns : goal.returns
returns c =
    let t = extended_type c.args.ty.now in
    let a = departures_of c.args.departures.now in
    let b = departures_of c.tell_added_directives.new.departures in
    let d = departures_of c.tell_added_names.new.departures in
    let e = departures_of c.tell_fields_of.new.departures in
    let f = departures_of c.tell_added_names-2.new.departures in
    let g = departures_of c.tell_values_of.new.departures in
    let h = departures_of c.tell_inputs_of.new.departures in
    let directives = flat_map added_directive t.directives in
    let interfaces = flat_map added_name t.interfaces in
    let fields = flat_map added_field t.fields in
    let members = flat_map added_name t.members in
    let values = flat_map added_value t.values in
    let inputs = flat_map added_input t.inputs in
    on_ok_weaker c.tell_inputs_of.result
    (λ told.
    next a b h directives (interfaces ++ (fields ++ (members ++ (values ++ inputs)))) (c.in_ok-tell_added_directives.ensures ∙ ap (λ ds. a ⊕ flat_map added_directive ds) c.directives.ensures)
    (next b d h interfaces (fields ++ (members ++ (values ++ inputs))) (c.in_ok-tell_added_names.ensures ∙ ap (λ ns. b ⊕ flat_map added_name ns) c.interfaces_of.ensures)
    (next d e h fields (members ++ (values ++ inputs)) c.in_ok-tell_fields_of.ensures
    (next e f h members (values ++ inputs) (c.in_ok-tell_added_names-2.ensures ∙ ap (λ ns. e ⊕ flat_map added_name ns) c.members_of.ensures)
    (next f g h values inputs c.in_ok-tell_values_of.ensures told)))))
    c.tell_inputs_of.ensures
