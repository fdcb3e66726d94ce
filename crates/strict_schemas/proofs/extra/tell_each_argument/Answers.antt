use Rattle.std.proofs.Common.{arith}
use Rattle.graphql_names.specs.Placed.{node_tree}
use Rattle.tree_directives.specs.DirectiveTree.{input_value_tree, input_value_trees}
use Rattle.strict_documents.specs.DepartureViews.{departures_of}
use Rattle.strict_schemas.specs.Departing.{extra_departure}
use Rattle.strict_schemas.proofs.Found.{told_more}
use Rattle.strict_schemas.proofs.extra.tell_each_argument.Goals as goal

pub loop-argument-preserved : goal.loop-argument-preserved
loop-argument-preserved c =
    told_more (node_tree input_value_tree) (extra_departure (input_value_trees c.args.wanted.now)) (departures_of c.args.departures.now) c.args.own.now c.loop-argument.argument-index
    (departures_of c.loop-argument.departures) (departures_of c.tell_extra_argument.new.departures) c.argument-item.result (omega arith) c.argument-item.is c.loop-argument.invariant c.in_ok-tell_extra_argument.ensures
