use Rattle.std.proofs.Common.{true, ◌∙◌, arith}
use Rattle.graphql_names.specs.Placed.{node_tree}
use Rattle.tree_directives.specs.DirectiveTree.{directive_tree}
use Rattle.rule_definitions.specs.Room.{◌⊕◌}
use Rattle.strict_documents.specs.Departing.{departure_if}
use Rattle.strict_documents.specs.DepartureViews.{departures_of}
use Rattle.strict_documents.specs.declared.departure.DepartureKind.TheVariants as kind
use Rattle.strict_schemas.specs.Departing.{applied_departure}
use Rattle.strict_schemas.proofs.Found.{told_more}
use Rattle.strict_schemas.proofs.definitions.tell_applied.Goals as goal

pub loop-directive-preserved : goal.loop-directive-preserved
loop-directive-preserved c =
    let now = departures_of c.loop-directive.departures in
    told_more (node_tree directive_tree) applied_departure (departures_of c.args.departures.now) c.deref-directive-items.result.now c.loop-directive.directive-index
    now (departures_of c.tell_if.new.departures) c.directive-item.result (omega arith) c.directive-item.is c.loop-directive.invariant
    (c.in_ok-tell_if.ensures ∙ (λ k. now ⊕ departure_if true (c.location.ensures k) kind.DirectiveOnDirective (c.content.ensures k).name.text))
