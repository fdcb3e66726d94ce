use Rattle.std.proofs.Common.{◌<◌, ◌≤◌, length, arith}
use Rattle.rule_cycles.specs.in_schema.SchemaOf.{schema_tree}
use Rattle.fault_data.specs.FaultView.{faults_of}
use Rattle.rule_reach.specs.Reach.{fragment_of}
use Rattle.rule_fragments.specs.Listed.{fragment_target}
use Rattle.rule_fragments.proofs.Telling.{told_more, told_all}
use Rattle.rule_fragments.proofs.targets.check_fragment_targets.Goals as goal

pub loop-index-preserved : goal.loop-index-preserved
loop-index-preserved c =
    let xs = c.args.reach.now.fragments.items in
    let i = c.loop-index.index in
    let h : i < length xs = omega arith in
    told_more fragment_of (fragment_target (schema_tree c.args.schema.now)) (faults_of c.args.faults.now) (faults_of c.loop-index.faults) (faults_of c.fragment_target.new.faults) xs i c.index.result.now h c.index.ensures c.loop-index.invariant
    c.in_ok-fragment_target.ensures

pub returns : goal.returns
returns c =
    let past : length c.args.reach.now.fragments.items ≤ c.loop-index.index = omega arith in
    told_all fragment_of (fragment_target (schema_tree c.args.schema.now)) (faults_of c.args.faults.now) (faults_of c.loop-index.faults) c.args.reach.now.fragments.items c.loop-index.index past c.loop-index.invariant
