use Rattle.std.proofs.Common.{◌<◌, ◌+◌, map, take, length, subst, ◌∙◌, arith, Contains}
use Rattle.std.proofs.lemmas.List.{take_all}
use Rattle.graphql_names.specs.Placed.{Place}
use Rattle.graphql_schema.specs.SchemaOf.{schema_tree}
use Rattle.fault_data.specs.FaultView.{faults_of}
use Rattle.fault_data.specs.Adds.{Adds}
use Rattle.rule_definitions.specs.Words.{AtSomeIndex}
use Rattle.rule_arguments.specs.in_rule_values.Wanting.{variables_of}
use Rattle.rule_reach.specs.Reach.{Member, member_of}
use Rattle.rule_definitions.proofs.Listing.{mapped_more}
use Rattle.rule_definitions.proofs.Adding.{gains_none, gains_more}
use Rattle.rule_selections.specs.SelectionFaults.{SelectionBreaks}
use Rattle.rule_selections.proofs.Members.{comes_to}
use Rattle.rule_selections.proofs.selections.check_each_selection.Goals as goal

pub loop-parent-init : goal.loop-parent-init
loop-parent-init c typed = gains_none {X = Member Place} (faults_of c.args.faults.now) (λ k e f. SelectionBreaks (schema_tree c.args.schema.now) (variables_of c.args.variables.now) e f)

pub loop-parent-preserved : goal.loop-parent-preserved
loop-parent-preserved c typed =
    let xs = c.deref-parent-items.result.now in
    let i = c.loop-parent.parent-index in
    let x = c.loop-parent-item.result in
    let h : i < length xs = omega arith in
    gains_more (faults_of c.args.faults.now) (faults_of c.loop-parent.faults) (faults_of c.check_selection.new.faults) (map member_of (take i xs)) (map member_of (take (i + 1) xs)) (member_of x)
    (λ k e f. SelectionBreaks (schema_tree c.args.schema.now) (variables_of c.args.variables.now) e f) (mapped_more member_of xs i x h c.loop-parent-item.is)
    (c.loop-parent.invariant typed)
    (c.in_ok-check_selection.ensures (typed (member_of x) (subst (λ l. Contains (map member_of l) (member_of x)) c.deref-parent-items.ensures.value (comes_to member_of xs i x h c.loop-parent-item.is))))

pub returns : goal.returns
returns c typed =
    subst (λ l. Adds c.args.faults.now c.loop-parent.faults (λ f. AtSomeIndex (map member_of l) (λ i e. SelectionBreaks (schema_tree c.args.schema.now) (variables_of c.args.variables.now) e f)))
    (take_all c.loop-parent.parent-index c.deref-parent-items.result.now c.loop-parent-test.false ∙ c.deref-parent-items.ensures.value) (c.loop-parent.invariant typed)
