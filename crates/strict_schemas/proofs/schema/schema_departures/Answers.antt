use Rattle.std.proofs.Common.{map, ◌∙◌}
use Rattle.graphql_schema.specs.SchemaOf.{schema_tree}
use Rattle.rule_definitions.specs.Room.{◌⊕◌}
use Rattle.rule_definitions.proofs.Room.{room_first}
use Rattle.strict_documents.specs.DepartureViews.{departure_tree}
use Rattle.strict_schemas.specs.Departing.{departures_of_schema}
use Rattle.strict_schemas.proofs.schema.schema_departures.Goals as goal

pub returns : goal.returns
returns c =
    let all = departures_of_schema (schema_tree c.args.schema.now) in
    c.in_ok-tell_schema.ensures ∙ (λ k. map departure_tree (c.new-departures.ensures.items k) ⊕ departures_of_schema (schema_tree (c.plain-schema.ensures k))) ∙ room_first all
