use Rattle.std.proofs.Common.{arith}
use Rattle.graphql_names.specs.Placed.{node_tree}
use Rattle.tree_directives.specs.DirectiveTree.{input_value_tree}
use Rattle.graphql_schema.specs.SchemaOf.{schema_tree}
use Rattle.strict_documents.specs.DepartureViews.{departures_of}
use Rattle.strict_schemas.specs.Departing.{input_departures}
use Rattle.strict_schemas.proofs.Found.{told_more}
use Rattle.strict_schemas.proofs.inputs.tell_inputs.Goals as goal

pub loop-input-preserved : goal.loop-input-preserved
loop-input-preserved c =
    told_more (node_tree input_value_tree) (input_departures (schema_tree c.args.schema.now)) (departures_of c.args.departures.now) c.args.inputs.now c.loop-input.input-index
    (departures_of c.loop-input.departures) (departures_of c.tell_input.new.departures) c.input-item.result (omega arith) c.input-item.is c.loop-input.invariant c.in_ok-tell_input.ensures
