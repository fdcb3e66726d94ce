use Rattle.std.proofs.Common.{◌<◌, ◌+◌, take, length, subst, arith}
use Rattle.std.proofs.lemmas.List.{take_all}
use Rattle.graphql_names.specs.Node.{content}
use Rattle.graphql_names.specs.Placed.{node_tree, Placed, Place}
use Rattle.tree_literals.specs.ValueTree.{value_tree}
use Rattle.tree_directives.specs.DirectiveTree.{argument_tree, ArgumentTree}
use Rattle.tree_directives.specs.declared.directive.Argument.{Argument}
use Rattle.rule_values.specs.in_fault_data.FaultView.{faults_of}
use Rattle.rule_values.specs.in_fault_data.Adds.{Adds}
use Rattle.rule_values.specs.in_rule_definitions.Values.{UniqueInputValueIn}
use Rattle.rule_arguments.specs.Trees.{arguments_of}
use Rattle.rule_arguments.specs.Alone.{KeysBreak}
use Rattle.rule_values.proofs.in_rule_definitions.Listing.{mapped_more}
use Rattle.rule_values.proofs.in_fault_data.Adding.{gains_none, gains_more}
use Rattle.rule_arguments.proofs.given.check_keys_given.Goals as goal

pub loop-argument-init : goal.loop-argument-init
loop-argument-init c =
    gains_none {X = Placed Place (ArgumentTree Place)} (faults_of c.args.faults.now) (λ k a f. UniqueInputValueIn a.it.value.it f)

pub loop-argument-preserved : goal.loop-argument-preserved
loop-argument-preserved c =
    let xs = c.args.given.now in
    let i = c.loop-argument.argument-index in
    let x = c.argument-item.result in
    let h : i < length xs = omega arith in
    gains_more (faults_of c.args.faults.now) (faults_of c.loop-argument.faults) (faults_of c.unique_input_values.new.faults) (arguments_of (take i xs)) (arguments_of (take (i + 1) xs)) (node_tree argument_tree x)
    (λ k a f. UniqueInputValueIn a.it.value.it f) (mapped_more (node_tree argument_tree) xs i x h c.argument-item.is) c.loop-argument.invariant
    (subst (λ (a : Argument). Adds c.loop-argument.faults c.unique_input_values.new.faults (λ f. UniqueInputValueIn (value_tree (content a.value)) f)) c.content.ensures c.in_ok-unique_input_values.ensures)

pub returns : goal.returns
returns c = subst (λ l. Adds c.args.faults.now c.loop-argument.faults (KeysBreak (arguments_of l))) (take_all c.loop-argument.argument-index c.args.given.now c.loop-argument-test.false) c.loop-argument.invariant
