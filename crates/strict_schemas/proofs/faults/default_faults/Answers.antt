use Rattle.std.proofs.lemmas.Result.{on_ok_weaker}
use Rattle.rule_definitions.proofs.Adding.{gains_both}
use Rattle.fault_data.specs.FaultView.{faults_of}
use Rattle.strict_schemas.proofs.faults.default_faults.Goals as goal

pub returns : goal.returns
returns c =
    on_ok_weaker c.check_scalars.result
    (gains_both (faults_of c.args.faults.now) (faults_of c.check_defaults.new.faults) (faults_of c.check_scalars.new.faults) c.in_ok-check_defaults.ensures)
    c.check_scalars.ensures
