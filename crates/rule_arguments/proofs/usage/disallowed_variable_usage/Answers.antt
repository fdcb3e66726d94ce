use Rattle.std.proofs.Common.{map, option_to_list}
use Rattle.std.proofs.lemmas.Result.{on_ok_weaker}
use Rattle.rule_values.specs.in_fault_data.FaultView.{fault_of, faults_of}
use Rattle.rule_values.proofs.in_fault_data.Adding.{gains_list}
use Rattle.rule_arguments.proofs.usage.disallowed_variable_usage.Goals as goal

pub returns : goal.returns
returns c =
    on_ok_weaker c.tell.result
    (λ h. gains_list (faults_of c.args.faults.now) (faults_of c.tell.new.faults) (map fault_of (option_to_list c.in_ok-fault.fault)) h c.in_ok-fault.ensures)
    c.tell.ensures.told
