use Rattle.std.proofs.lemmas.Result.{on_ok_weaker}
use Rattle.rule_cycles.specs.in_schema.SchemaOf.{schema_tree}
use Rattle.fault_data.specs.FaultView.{faults_of}
use Rattle.rule_reach.specs.Reach.{reached_members, reached_fragments_of}
use Rattle.rule_fragments.proofs.Targeted.{gains_targets}
use Rattle.rule_fragments.proofs.targets.check_targets.Goals as goal

pub returns : goal.returns
returns c =
    let r = c.args.reach.now in
    on_ok_weaker c.check_inline_targets.result
    (λ h d o reach. gains_targets d o (reached_members r) (reached_fragments_of r) reach (schema_tree c.args.schema.now) (faults_of c.args.faults.now) (faults_of c.check_fragment_targets.new.faults) (faults_of c.check_inline_targets.new.faults) c.in_ok-check_fragment_targets.ensures h)
    c.check_inline_targets.ensures
