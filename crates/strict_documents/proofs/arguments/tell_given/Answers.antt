use Rattle.std.proofs.Common.{◌<◌, length, arith}
use Rattle.graphql_names.specs.Placed.{node_tree}
use Rattle.tree_directives.specs.DirectiveTree.{argument_tree, input_value_trees}
use Rattle.strict_documents.specs.Departing.{argument_departures, plain_inputs}
use Rattle.strict_documents.specs.Given.{schema_of, variables_in}
use Rattle.strict_documents.specs.DepartureViews.{departures_of}
use Rattle.strict_documents.proofs.Found.{told_more, told_all}
use Rattle.strict_documents.proofs.arguments.tell_given.Goals as goal

pub loop-argument-preserved : goal.loop-argument-preserved
loop-argument-preserved c =
    let told = argument_departures (schema_of c.args.strictness.now) (variables_in c.args.strictness.now) (plain_inputs (input_value_trees c.args.definitions.now)) in
    let xs = c.args.given.now in
    let i = c.loop-argument.argument-index in
    let h : i < length xs = omega arith in
    told_more (node_tree argument_tree) told (departures_of c.args.departures.now) xs i
    (departures_of c.loop-argument.departures) (departures_of c.tell_argument.new.departures) c.argument-item.result h c.argument-item.is c.loop-argument.invariant c.in_ok-tell_argument.ensures

pub returns : goal.returns
returns c =
    let told = argument_departures (schema_of c.args.strictness.now) (variables_in c.args.strictness.now) (plain_inputs (input_value_trees c.args.definitions.now)) in
    told_all (node_tree argument_tree) told (departures_of c.args.departures.now) c.args.given.now
    c.loop-argument.argument-index (departures_of c.loop-argument.departures) c.loop-argument-test.false c.loop-argument.invariant
