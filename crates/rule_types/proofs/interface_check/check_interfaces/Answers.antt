use Rattle.std.proofs.Common.{refl}
use Rattle.std.proofs.lemmas.Result.{IfOk-weaker}
use Rattle.graphql_schema.specs.SchemaOf.{schema_tree}
use Rattle.fault_data.specs.FaultView.{faults_of}
use Rattle.rule_types.proofs.InterfacesWhole.{told_after}
use Rattle.rule_types.proofs.interface_check.check_interfaces.Goals as goal

pub returns : goal.returns
returns c =
    let s = c.args.schema.now in
    IfOk-weaker _ _ _ (λ _ told. told_after (schema_tree s) c.requires.distinct s.types.entries refl (faults_of c.args.faults.now) (faults_of c.check_each_type.new.faults) told) c.check_each_type.ensures
