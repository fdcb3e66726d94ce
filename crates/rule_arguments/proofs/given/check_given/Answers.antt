use Rattle.std.proofs.lemmas.Result.{on_ok_weaker}
use Rattle.rule_values.specs.in_fault_data.FaultView.{faults_of}
use Rattle.rule_values.specs.Wanting.{variables_of}
use Rattle.rule_arguments.specs.Trees.{arguments_of}
use Rattle.rule_values.proofs.in_fault_data.Adding.{gains_both, gains_same}
use Rattle.rule_arguments.proofs.Alone.{given_apart}
use Rattle.rule_arguments.proofs.given.check_given.Goals as goal

pub returns : goal.returns
returns c =
    let a = faults_of c.args.faults.now in
    let d = faults_of c.check_variables_given.new.faults in
    on_ok_weaker c.check_variables_given.result
    (λ h at s. gains_same a d (given_apart at s (variables_of c.args.variables.now) (arguments_of c.args.given.now))
    (gains_both a (faults_of c.check_arguments_alone.new.faults) d c.in_ok-check_arguments_alone.ensures h))
    c.check_variables_given.ensures
