use Rattle.std.proofs.Common.{flat_map, refl, ap, ◌∙◌}
use Rattle.std.proofs.lemmas.Result.{on_ok_weaker}
use Rattle.graphql_schema.specs.SchemaOf.{schema_tree}
use Rattle.graphql_schema.specs.declared.schema.Schema.{Schema}
use Rattle.rule_definitions.specs.Room.{◌⊕◌}
use Rattle.strict_documents.specs.DepartureViews.{departures_of}
use Rattle.strict_schemas.specs.Departing.{type_departures, definition_departures}
use Rattle.strict_schemas.specs.Told.{type_entry, definition_entry, types_in, definitions_in}
use Rattle.strict_schemas.proofs.Found.{next, told_as}
use Rattle.strict_schemas.proofs.schema.tell_schema.Goals as goal

pub returns : goal.returns
returns c =
    let whole = c.args.schema.now in
    let s = schema_tree whole in
    let a = departures_of c.args.departures.now in
    let b = departures_of c.tell_types.new.departures in
    let d = departures_of c.tell_definitions.new.departures in
    on_ok_weaker c.tell_definitions.result
    (λ told.
    next a b d (flat_map (λ e. type_departures s e.1) s.types) (flat_map (λ e. definition_departures s e.1) s.directives)
    (told_as type_entry (λ e. type_departures s e.1) a b whole.types.entries s.types refl (c.in_ok-tell_types.ensures ∙ ap (λ (x : Schema). a ⊕ types_in s x.types.entries) c.schema-whole.ensures))
    (told_as definition_entry (λ e. definition_departures s e.1) b d whole.directive_definitions.entries s.directives refl (told ∙ ap (λ (x : Schema). b ⊕ definitions_in s x.directive_definitions.entries) c.schema-whole.ensures)))
    c.tell_definitions.ensures
