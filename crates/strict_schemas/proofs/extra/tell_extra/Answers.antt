use Rattle.std.proofs.Common.{flat_map, ap, ◌∙◌, arith}
use Rattle.schema_components.specs.Given.{component_name_tree}
use Rattle.schema_types.specs.TypeView.{extended_type}
use Rattle.graphql_schema.specs.SchemaOf.{schema_tree}
use Rattle.rule_definitions.specs.Room.{◌⊕◌}
use Rattle.strict_documents.specs.DepartureViews.{departures_of}
use Rattle.strict_schemas.specs.Departing.{extra_over}
use Rattle.strict_schemas.proofs.Found.{told_more, told_all}
use Rattle.strict_schemas.proofs.extra.tell_extra.Goals as goal

pub loop-interface-preserved : goal.loop-interface-preserved
loop-interface-preserved c =
    told_more component_name_tree (extra_over (schema_tree c.args.schema.now) (extended_type c.args.ty.now)) (departures_of c.args.departures.now) c.interfaces_of-interface-items.result.now c.loop-interface.interface-index
    (departures_of c.loop-interface.departures) (departures_of c.tell_over.new.departures) c.interface-item.result (omega arith) c.interface-item.is c.loop-interface.invariant c.in_ok-tell_over.ensures

pub returns : goal.returns
returns c =
    let f = extra_over (schema_tree c.args.schema.now) (extended_type c.args.ty.now) in
    let old = departures_of c.args.departures.now in
    told_all component_name_tree f old c.interfaces_of-interface-items.result.now c.loop-interface.interface-index (departures_of c.loop-interface.departures) (omega arith) c.loop-interface.invariant
    ∙ ap (λ l. old ⊕ flat_map f l) c.interfaces_of-interface-items.ensures
