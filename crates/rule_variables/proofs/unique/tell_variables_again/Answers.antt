use Rattle.std.proofs.Common.{◌<◌, take, length, ap, ◌∙◌, arith}
use Rattle.graphql_names.specs.Placed.{node_tree}
use Rattle.tree_operations.specs.OperationTree.{variable_definition_tree}
use Rattle.tree_operations.specs.declared.operation.VariableDefinition.{VariableDefinition}
use Rattle.rule_definitions.specs.Names.{defined_name}
use Rattle.rule_arguments.specs.in_fault_data.FaultView.{faults_of}
use Rattle.rule_arguments.specs.in_rule_values.Firsts.{first_told}
use Rattle.rule_arguments.specs.in_rule_values.Wanting.{variables_of}
use Rattle.rule_arguments.proofs.in_rule_values.in_inputs.Noted.{noted_next}
use Rattle.rule_definitions.proofs.Adding.{places_more}
use Rattle.rule_variables.specs.VariableFaults.{repeated_variable}
use Rattle.rule_variables.proofs.Told.{variable_again_is}
use Rattle.rule_variables.proofs.unique.tell_variables_again.Goals as goal

pub loop-variable-preserved : goal.loop-variable-preserved
loop-variable-preserved c =
    let xs = c.args.variables.now in
    let i = c.loop-variable.variable-index in
    let x = c.variable-item.result in
    let h : i < length xs = omega arith in
    let before = variables_of (take i xs) in
    let noted = c.loop-variable.invariant.noted in
    let named = ap (λ (v : VariableDefinition). v.name.text) c.content.ensures in
    let first = c.in_ok-first.ensures.there ∙ noted c.content.result.now.name ∙ ap (first_told defined_name (λ j v. v.place) before) named in
    record {
      told = places_more (node_tree variable_definition_tree) repeated_variable (faults_of c.args.faults.now) (faults_of c.loop-variable.faults) (faults_of c.unique_variable.new.faults) _ xs i x h c.variable-item.is c.loop-variable.invariant.told c.in_ok-unique_variable.ensures
          (variable_again_is before (node_tree variable_definition_tree x) c.in_ok-first.first first);
      noted = noted_next defined_name (node_tree variable_definition_tree) (λ j v. v.place) c.loop-variable.places c.note_first.new.firsts c.content.result.now.name c.location.result xs i x h c.variable-item.is named c.location.ensures
          c.in_ok-first.ensures.noted noted;
    }
