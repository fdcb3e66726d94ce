use Rattle.std.proofs.Common.{◌<◌, map, length, ap, ◌∙◌, arith}
use Rattle.std.specs.List.{flat_map}
use Rattle.graphql_names.specs.Placed.{Place}
use Rattle.fault_data.specs.FaultView.{faults_of}
use Rattle.rule_definitions.specs.Room.{◌⊕◌}
use Rattle.rule_reach.specs.Reach.{Member, member_of, meant_fragments, reached_members, reached_fragments_of}
use Rattle.rule_fragments.specs.Listed.{undefined_fragment}
use Rattle.rule_fragments.proofs.Telling.{told_more, told_all}
use Rattle.rule_fragments.proofs.Undefined.{lists_undefined}
use Rattle.rule_fragments.proofs.spreads.check_spreads.Goals as goal

pub loop-selection-preserved : goal.loop-selection-preserved
loop-selection-preserved c =
    let fs = meant_fragments c.args.fragments.now in
    let xs = c.deref-selection-items.result.now in
    let i = c.loop-selection.selection-index in
    let h : i < length xs = omega arith in
    told_more member_of (λ (e : Member Place). undefined_fragment fs e.1) (faults_of c.args.faults.now) (faults_of c.loop-selection.faults) (faults_of c.undefined_fragment.new.faults) xs i c.loop-selection-item.result h c.loop-selection-item.is c.loop-selection.invariant
    c.in_ok-undefined_fragment.ensures

pub returns : goal.returns
returns c = λ d o reach same.
    let fs = meant_fragments c.args.fragments.now in
    let r = c.args.reach.now in
    let tells = λ (e : Member Place). undefined_fragment fs e.1 in (
      flat_map tells (reached_members r),
      (
        told_all member_of tells (faults_of c.args.faults.now) (faults_of c.loop-selection.faults) c.deref-selection-items.result.now c.loop-selection.selection-index c.loop-selection-test.false c.loop-selection.invariant
            ∙ ap (λ l. faults_of c.args.faults.now ⊕ flat_map tells (map member_of l)) c.deref-selection-items.ensures.value,
        lists_undefined d o (reached_members r) (reached_fragments_of r) reach fs same,
      ),
    )
