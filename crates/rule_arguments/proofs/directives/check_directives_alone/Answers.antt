use Rattle.std.proofs.Common.{◌<◌, ◌+◌, take, length, subst, arith}
use Rattle.std.proofs.lemmas.List.{take_all}
use Rattle.graphql_names.specs.Placed.{node_tree, Placed, Place}
use Rattle.tree_directives.specs.DirectiveTree.{directive_tree, DirectiveTree}
use Rattle.rule_values.specs.in_fault_data.FaultView.{faults_of}
use Rattle.rule_values.specs.in_fault_data.Adds.{Adds}
use Rattle.rule_arguments.specs.Trees.{directives_of}
use Rattle.rule_arguments.specs.Alone.{DirectiveAloneBreaks, DirectivesAloneBreak}
use Rattle.rule_values.proofs.in_rule_definitions.Listing.{mapped_more}
use Rattle.rule_values.proofs.in_fault_data.Adding.{gains_none, gains_more}
use Rattle.rule_arguments.proofs.directives.check_directives_alone.Goals as goal

pub loop-directive-init : goal.loop-directive-init
loop-directive-init c =
    gains_none {X = Placed Place (DirectiveTree Place)} (faults_of c.args.faults.now) (λ k d f. DirectiveAloneBreaks d f)

pub loop-directive-preserved : goal.loop-directive-preserved
loop-directive-preserved c =
    let xs = c.args.directives.now in
    let i = c.loop-directive.directive-index in
    let x = c.directive-item.result in
    let h : i < length xs = omega arith in
    gains_more (faults_of c.args.faults.now) (faults_of c.loop-directive.faults) (faults_of c.check_directive_alone.new.faults) (directives_of (take i xs)) (directives_of (take (i + 1) xs)) (node_tree directive_tree x)
    (λ k d f. DirectiveAloneBreaks d f) (mapped_more (node_tree directive_tree) xs i x h c.directive-item.is) c.loop-directive.invariant c.in_ok-check_directive_alone.ensures

pub returns : goal.returns
returns c = subst (λ l. Adds c.args.faults.now c.loop-directive.faults (DirectivesAloneBreak (directives_of l))) (take_all c.loop-directive.directive-index c.args.directives.now c.loop-directive-test.false) c.loop-directive.invariant
