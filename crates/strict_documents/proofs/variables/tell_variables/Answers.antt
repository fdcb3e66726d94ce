use Rattle.std.proofs.Common.{◌<◌, ◌∙◌, length, ap, arith}
use Rattle.graphql_names.specs.Placed.{node_tree}
use Rattle.graphql_schema.specs.SchemaOf.{schema_tree}
use Rattle.tree_operations.specs.OperationTree.{variable_definition_tree}
use Rattle.tree_operations.specs.declared.operation.VariableDefinition.{VariableDefinition}
use Rattle.rule_definitions.specs.Room.{◌⊕◌}
use Rattle.strict_documents.specs.DepartureViews.{departures_of}
use Rattle.strict_documents.specs.Telling.{variable_departures}
use Rattle.strict_documents.proofs.ToldTogether.{told_more, told_all}
use Rattle.strict_documents.proofs.variables.tell_variables.Goals as goal

pub loop-variable-preserved : goal.loop-variable-preserved
loop-variable-preserved c =
    let tells = variable_departures (schema_tree c.args.schema.now) in
    let xs = c.args.variables.now in
    let i = c.loop-variable.variable-index in
    let h : i < length xs = omega arith in
    told_more (node_tree variable_definition_tree) (λ v. tells v.it) (departures_of c.args.departures.now) xs i
    (departures_of c.loop-variable.departures) (departures_of c.tell_variable.new.departures) c.variable-item.result h c.variable-item.is c.loop-variable.invariant
    (c.in_ok-tell_variable.ensures ∙ ap (λ (v : VariableDefinition). departures_of c.loop-variable.departures ⊕ tells (variable_definition_tree v)) c.content.ensures)

pub returns : goal.returns
returns c =
    told_all (node_tree variable_definition_tree) (λ v. variable_departures (schema_tree c.args.schema.now) v.it) (departures_of c.args.departures.now) c.args.variables.now
    c.loop-variable.variable-index (departures_of c.loop-variable.departures) c.loop-variable-test.false c.loop-variable.invariant
