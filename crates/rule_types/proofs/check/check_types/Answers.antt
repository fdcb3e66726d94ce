use Rattle.std.proofs.Common.{refl}
use Rattle.std.proofs.lemmas.Result.{IfOk-weaker}
use Rattle.graphql_schema.specs.SchemaOf.{schema_tree}
use Rattle.fault_data.specs.FaultView.{faults_of}
use Rattle.rule_types.proofs.Whole.{told_after}
use Rattle.rule_types.proofs.check.check_types.Goals as goal

pub returns : goal.returns
returns c =
    let s = c.args.schema.now in
    IfOk-weaker _ _ _ (λ _ told.
    told_after (schema_tree s) c.requires.distinct s.types.entries refl s.directive_definitions.entries refl
    (faults_of c.args.faults.now) (faults_of c.check_all.new.faults) told) c.check_all.ensures
