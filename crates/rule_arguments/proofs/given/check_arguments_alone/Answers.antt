use Rattle.std.proofs.Common.{[], None}
use Rattle.std.proofs.lemmas.Result.{on_ok_weaker}
use Rattle.schema_components.specs.Lists.{each_place}
use Rattle.rule_values.specs.in_fault_data.FaultView.{faults_of}
use Rattle.rule_values.specs.in_rule_definitions.Judged.{judged}
use Rattle.rule_arguments.specs.Trees.{arguments_of, no_schema_tree}
use Rattle.rule_arguments.specs.UseFaults.{repeated_argument}
use Rattle.rule_values.proofs.in_fault_data.Adding.{gains_both, gains_list}
use Rattle.rule_arguments.proofs.Uses.{lists_repeated_arguments}
use Rattle.rule_arguments.proofs.given.check_arguments_alone.Goals as goal

pub returns : goal.returns
returns c =
    let given = arguments_of c.args.given.now in
    let a = faults_of c.args.faults.now in
    let b = faults_of c.tell_repeated_arguments.new.faults in
    on_ok_weaker c.check_keys_given.result
    (gains_both a b (faults_of c.check_keys_given.new.faults)
    (gains_list a b (each_place repeated_argument given) c.in_ok-tell_repeated_arguments.ensures (lists_repeated_arguments (λ x. None) (judged no_schema_tree) [] given)))
    c.check_keys_given.ensures
