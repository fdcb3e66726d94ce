use Rattle.std.proofs.Common.{◌<◌, map, length, ap, ◌∙◌, arith}
use Rattle.std.specs.List.{flat_map}
use Rattle.graphql_names.specs.Placed.{Place}
use Rattle.rule_cycles.specs.in_schema.SchemaOf.{schema_tree}
use Rattle.fault_data.specs.FaultView.{faults_of}
use Rattle.rule_definitions.specs.Room.{◌⊕◌}
use Rattle.rule_reach.specs.Reach.{Member, member_of}
use Rattle.rule_fragments.specs.Listed.{inline_target}
use Rattle.rule_fragments.proofs.Telling.{told_more, told_all}
use Rattle.rule_fragments.proofs.targets.check_inline_targets.Goals as goal

pub loop-selection-preserved : goal.loop-selection-preserved
loop-selection-preserved c =
    let s = schema_tree c.args.schema.now in
    let xs = c.deref-selection-items.result.now in
    let i = c.loop-selection.selection-index in
    let h : i < length xs = omega arith in
    told_more member_of (λ (e : Member Place). inline_target s e.1) (faults_of c.args.faults.now) (faults_of c.loop-selection.faults) (faults_of c.inline_target.new.faults) xs i c.loop-selection-item.result h c.loop-selection-item.is c.loop-selection.invariant
    c.in_ok-inline_target.ensures

pub returns : goal.returns
returns c =
    let tells = λ (e : Member Place). inline_target (schema_tree c.args.schema.now) e.1 in
    told_all member_of tells (faults_of c.args.faults.now) (faults_of c.loop-selection.faults) c.deref-selection-items.result.now c.loop-selection.selection-index c.loop-selection-test.false c.loop-selection.invariant
    ∙ ap (λ l. faults_of c.args.faults.now ⊕ flat_map tells (map member_of l)) c.deref-selection-items.ensures.value
