use Rattle.std.proofs.lemmas.Result.{on_ok_weaker}
use Rattle.graphql_names.specs.Node.{content, place}
use Rattle.tree_literals.specs.ValueTree.{value_tree}
use Rattle.fault_data.specs.in_rule_definitions.Values.{UndefinedVariableIn}
use Rattle.rule_values.specs.Wanting.{variables_of}
use Rattle.rule_values.specs.VariableFaults.{variable_faults}
use Rattle.rule_values.proofs.Adding.{adds_told}
use Rattle.rule_values.proofs.VariablesTold.{variables_told}
use Rattle.rule_values.proofs.checks.undefined_variables.Goals as goal

pub returns : goal.returns
returns c =
    let vs = variables_of c.args.variables.now in
    let p = place c.args.value.now in
    let v = value_tree (content c.args.value.now) in
    on_ok_weaker c.tell_variable_faults.result
    (adds_told c.args.faults.now c.tell_variable_faults.new.faults (variable_faults vs p v) (UndefinedVariableIn vs p v) (variables_told vs p v))
    c.tell_variable_faults.ensures
