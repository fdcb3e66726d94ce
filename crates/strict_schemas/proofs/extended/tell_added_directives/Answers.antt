use Rattle.std.proofs.Common.{◌∙◌, arith}
use Rattle.tree_directives.specs.DirectiveTree.{directive_tree}
use Rattle.schema_components.specs.Given.{component_tree}
use Rattle.rule_definitions.specs.Room.{◌⊕◌}
use Rattle.strict_documents.specs.DepartureViews.{departures_of}
use Rattle.strict_schemas.specs.Departing.{added_departures, added_directive}
use Rattle.strict_schemas.proofs.Found.{told_more}
use Rattle.strict_schemas.proofs.extended.tell_added_directives.Goals as goal

pub loop-directive-preserved : goal.loop-directive-preserved
loop-directive-preserved c =
    let now = departures_of c.loop-directive.departures in
    told_more (component_tree directive_tree) added_directive (departures_of c.args.departures.now) c.deref-directive-items.result.now c.loop-directive.directive-index
    now (departures_of c.tell_added.new.departures) c.directive-item.result (omega arith) c.directive-item.is c.loop-directive.invariant
    (c.in_ok-tell_added.ensures ∙ (λ k. now ⊕ added_departures (c.location.ensures k) (c.content.ensures k).name.text))
