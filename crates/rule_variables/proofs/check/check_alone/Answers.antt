use Rattle.std.proofs.lemmas.Result.{on_ok_weaker}
use Rattle.schema_components.specs.Lists.{each_place}
use Rattle.rule_arguments.specs.in_fault_data.FaultView.{faults_of}
use Rattle.rule_arguments.specs.in_rule_values.Wanting.{variables_of}
use Rattle.rule_definitions.proofs.Adding.{gains_both, gains_list}
use Rattle.rule_variables.specs.VariableFaults.{repeated_variable}
use Rattle.rule_variables.proofs.Told.{lists_repeated_variables}
use Rattle.rule_variables.proofs.check.check_alone.Goals as goal

pub returns : goal.returns
returns c =
    let vs = variables_of c.args.variables.now in
    let a = faults_of c.args.faults.now in
    let b = faults_of c.tell_repeated_variables.new.faults in
    let e = faults_of c.check_default_keys.new.faults in
    let g = faults_of c.tell_unused_variables.new.faults in
    on_ok_weaker c.tell_unused_variables.result
    (λ h. gains_both a b g (gains_list a b (each_place repeated_variable vs) c.in_ok-tell_repeated_variables.ensures (lists_repeated_variables vs))
    (gains_both b e g c.in_ok-check_default_keys.ensures h))
    c.tell_unused_variables.ensures
