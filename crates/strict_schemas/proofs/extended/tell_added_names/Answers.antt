use Rattle.std.proofs.Common.{◌∙◌, arith}
use Rattle.schema_components.specs.Given.{component_name_tree}
use Rattle.rule_definitions.specs.Room.{◌⊕◌}
use Rattle.strict_documents.specs.DepartureViews.{departures_of}
use Rattle.strict_schemas.specs.Departing.{added_departures, added_name}
use Rattle.strict_schemas.proofs.Found.{told_more}
use Rattle.strict_schemas.proofs.extended.tell_added_names.Goals as goal

pub loop-component-preserved : goal.loop-component-preserved
loop-component-preserved c =
    let now = departures_of c.loop-component.departures in
    told_more component_name_tree added_name (departures_of c.args.departures.now) c.args.names.now c.loop-component.component-index
    now (departures_of c.tell_added.new.departures) c.component-item.result (omega arith) c.component-item.is c.loop-component.invariant
    (c.in_ok-tell_added.ensures ∙ (λ k. now ⊕ added_departures (c.location.ensures.value k) c.component-item.result.name.text))
