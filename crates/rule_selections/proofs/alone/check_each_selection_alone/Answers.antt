use Rattle.std.proofs.Common.{◌<◌, ◌+◌, map, take, length, subst, ◌∙◌, arith}
use Rattle.std.proofs.lemmas.List.{take_all}
use Rattle.graphql_names.specs.Placed.{Place}
use Rattle.fault_data.specs.FaultView.{faults_of}
use Rattle.fault_data.specs.Adds.{Adds}
use Rattle.rule_definitions.specs.Words.{AtSomeIndex}
use Rattle.rule_reach.specs.Reach.{Member, member_of}
use Rattle.rule_definitions.proofs.Listing.{mapped_more}
use Rattle.rule_definitions.proofs.Adding.{gains_none, gains_more}
use Rattle.rule_selections.specs.SelectionFaults.{SelectionAloneBreaks}
use Rattle.rule_selections.proofs.alone.check_each_selection_alone.Goals as goal

pub loop-selection-init : goal.loop-selection-init
loop-selection-init c = gains_none {X = Member Place} (faults_of c.args.faults.now) (λ k e f. SelectionAloneBreaks e f)

pub loop-selection-preserved : goal.loop-selection-preserved
loop-selection-preserved c =
    let xs = c.deref-selection-items.result.now in
    let i = c.loop-selection.selection-index in
    let x = c.loop-selection-item.result in
    let h : i < length xs = omega arith in
    gains_more (faults_of c.args.faults.now) (faults_of c.loop-selection.faults) (faults_of c.check_selection_alone.new.faults) (map member_of (take i xs)) (map member_of (take (i + 1) xs)) (member_of x)
    (λ k e f. SelectionAloneBreaks e f) (mapped_more member_of xs i x h c.loop-selection-item.is) c.loop-selection.invariant (c.in_ok-check_selection_alone.ensures x.0.now)

pub returns : goal.returns
returns c = subst (λ l. Adds c.args.faults.now c.loop-selection.faults (λ f. AtSomeIndex (map member_of l) (λ i e. SelectionAloneBreaks e f)))
    (take_all c.loop-selection.selection-index c.deref-selection-items.result.now c.loop-selection-test.false ∙ c.deref-selection-items.ensures.value) c.loop-selection.invariant
