use Rattle.std.proofs.Common.{◌<◌, length, arith}
use Rattle.graphql_names.specs.Placed.{node_tree}
use Rattle.tree_directives.specs.DirectiveTree.{directive_tree}
use Rattle.strict_documents.specs.Departing.{directive_departures}
use Rattle.strict_documents.specs.Given.{schema_of, variables_in}
use Rattle.strict_documents.specs.DepartureViews.{departures_of}
use Rattle.strict_documents.proofs.Found.{told_more, told_all}
use Rattle.strict_documents.proofs.arguments.tell_directives.Goals as goal

pub loop-directive-preserved : goal.loop-directive-preserved
loop-directive-preserved c =
    let told = directive_departures (schema_of c.args.strictness.now) (variables_in c.args.strictness.now) in
    let xs = c.args.directives.now in
    let i = c.loop-directive.directive-index in
    let h : i < length xs = omega arith in
    told_more (node_tree directive_tree) told (departures_of c.args.departures.now) xs i
    (departures_of c.loop-directive.departures) (departures_of c.tell_directive.new.departures) c.directive-item.result h c.directive-item.is c.loop-directive.invariant c.in_ok-tell_directive.ensures

pub returns : goal.returns
returns c =
    let told = directive_departures (schema_of c.args.strictness.now) (variables_in c.args.strictness.now) in
    told_all (node_tree directive_tree) told (departures_of c.args.departures.now) c.args.directives.now
    c.loop-directive.directive-index (departures_of c.loop-directive.departures) c.loop-directive-test.false c.loop-directive.invariant
