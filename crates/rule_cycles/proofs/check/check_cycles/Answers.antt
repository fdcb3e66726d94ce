use Rattle.std.proofs.lemmas.Result.{on_ok_weaker}
use Rattle.graphql_schema.specs.SchemaOf.{schema_tree}
use Rattle.fault_data.specs.FaultView.{faults_of}
use Rattle.rule_cycles.proofs.BothTold.{both_told}
use Rattle.rule_cycles.proofs.check.check_cycles.Goals as goal

pub returns : goal.returns
returns c =
    on_ok_weaker c.check_directive_cycles.result
    (both_told (schema_tree c.args.schema.now) (faults_of c.args.faults.now) (faults_of c.check_input_cycles.new.faults) (faults_of c.check_directive_cycles.new.faults) c.in_ok-check_input_cycles.ensures)
    c.check_directive_cycles.ensures
