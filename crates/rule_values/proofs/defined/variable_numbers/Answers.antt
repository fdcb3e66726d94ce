use Rattle.std.proofs.Common.{◌<◌, length, refl, ap, arith}
use Rattle.graphql_names.specs.Placed.{node_tree}
use Rattle.tree_operations.specs.OperationTree.{variable_definition_tree}
use Rattle.tree_operations.specs.declared.operation.VariableDefinition.{VariableDefinition}
use Rattle.fault_data.specs.in_rule_definitions.Names.{defined_name}
use Rattle.schema_inputs.proofs.Noted.{noted_next}
use Rattle.rule_values.proofs.defined.variable_numbers.Goals as goal

pub loop-index-preserved : goal.loop-index-preserved
loop-index-preserved c =
    let xs = c.args.definitions.now in
    let i = c.loop-index.index in
    let x = c.index-definitions-index.result in
    let h : i < length xs = omega arith in
    noted_next defined_name (node_tree variable_definition_tree) (λ j v. j) c.loop-index.numbers c.note_first.new.firsts c.content.result.now.name i xs i x h c.index-definitions-index.is
    (ap (λ (v : VariableDefinition). v.name.text) c.content.ensures) refl c.in_ok-note_first.ensures.noted c.loop-index.invariant
