use Rattle.std.proofs.Common.{◌<◌, ◌≤◌, ◌+◌, map, take, length, ap, subst, ◌∙◌, arith}
use Rattle.std.proofs.lemmas.List.{take_all}
use Rattle.graphql_names.specs.Placed.{Place}
use Rattle.spec_document.specs.MeantTree.{MeantFragment}
use Rattle.tree_directives.specs.DirectiveTree.{Directives, directives_tree}
use Rattle.document_typed_operations.specs.declared.operation.Fragment.{Fragment}
use Rattle.fault_data.specs.FaultView.{faults_of}
use Rattle.fault_data.specs.Adds.{Adds}
use Rattle.rule_definitions.specs.Words.{AtSomeIndex}
use Rattle.rule_arguments.specs.Alone.{DirectivesAloneBreak}
use Rattle.rule_arguments.specs.Trees.{directives_of}
use Rattle.rule_definitions.proofs.Listing.{mapped_more}
use Rattle.rule_definitions.proofs.Adding.{gains_none, gains_more}
use Rattle.rule_reach.specs.Reach.{fragment_of}
use Rattle.rule_selections.proofs.alone.check_fragments_alone.Goals as goal

pub loop-index-init : goal.loop-index-init
loop-index-init c = gains_none {X = MeantFragment Place} (faults_of c.args.faults.now) (λ k x f. DirectivesAloneBreak x.directives f)

pub loop-index-preserved : goal.loop-index-preserved
loop-index-preserved c =
    let xs = c.args.reach.now.fragments.items in
    let i = c.loop-index.index in
    let x = c.index.result.now in
    let h : i < length xs = omega arith in
    gains_more (faults_of c.args.faults.now) (faults_of c.loop-index.faults) (faults_of c.check_directives_alone.new.faults) (map fragment_of (take i xs)) (map fragment_of (take (i + 1) xs)) (fragment_of x)
    (λ k x f. DirectivesAloneBreak x.directives f) (mapped_more fragment_of xs i x h c.index.ensures) c.loop-index.invariant
    (subst (λ (l : Directives Place). Adds c.loop-index.faults c.check_directives_alone.new.faults (DirectivesAloneBreak l))
    (ap directives_of c.deref.ensures.value ∙ ap (λ (g : Fragment). directives_tree g.directives) c.content.ensures) c.in_ok-check_directives_alone.ensures)

pub returns : goal.returns
returns c =
    let past : length c.args.reach.now.fragments.items ≤ c.loop-index.index = omega arith in
    subst (λ l. Adds c.args.faults.now c.loop-index.faults (λ f. AtSomeIndex (map fragment_of l) (λ i x. DirectivesAloneBreak x.directives f)))
    (take_all c.loop-index.index c.args.reach.now.fragments.items past) c.loop-index.invariant
