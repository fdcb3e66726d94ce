use Rattle.std.proofs.Common.{◌<◌, ◌+◌, take, length, subst, arith}
use Rattle.std.proofs.lemmas.List.{take_all}
use Rattle.graphql_names.specs.Placed.{node_tree, Placed, Place}
use Rattle.tree_directives.specs.DirectiveTree.{directive_tree, DirectiveTree}
use Rattle.rule_values.specs.in_schema.in_schema_types.Addresses.{place_at}
use Rattle.rule_values.specs.in_fault_data.FaultView.{faults_of}
use Rattle.rule_values.specs.in_schema.SchemaOf.{schema_tree}
use Rattle.rule_values.specs.in_rule_definitions.Judged.{judged}
use Rattle.rule_values.specs.in_rule_definitions.Uses.{UseBreaks}
use Rattle.rule_values.specs.in_rule_definitions.Words.{AtSomeIndex}
use Rattle.rule_values.specs.in_fault_data.Adds.{Adds}
use Rattle.rule_values.specs.Wanting.{variables_of}
use Rattle.rule_arguments.specs.Trees.{directives_of}
use Rattle.rule_values.proofs.in_rule_definitions.Listing.{mapped_more}
use Rattle.rule_values.proofs.in_fault_data.Adding.{gains_none, gains_more}
use Rattle.rule_arguments.proofs.directives.check_each_use.Goals as goal

pub loop-directive-init : goal.loop-directive-init
loop-directive-init c =
    let s = schema_tree c.args.judging.now.schema.now in
    gains_none {X = Placed Place (DirectiveTree Place)} (faults_of c.args.faults.now) (λ k d f. UseBreaks (place_at s) (judged s) (variables_of c.args.judging.now.variables.now) c.args.location d f)

pub loop-directive-preserved : goal.loop-directive-preserved
loop-directive-preserved c =
    let s = schema_tree c.args.judging.now.schema.now in
    let xs = c.args.directives.now in
    let i = c.loop-directive.directive-index in
    let x = c.directive-item.result in
    let h : i < length xs = omega arith in
    gains_more (faults_of c.args.faults.now) (faults_of c.loop-directive.faults) (faults_of c.check_use.new.faults) (directives_of (take i xs)) (directives_of (take (i + 1) xs)) (node_tree directive_tree x)
    (λ k d f. UseBreaks (place_at s) (judged s) (variables_of c.args.judging.now.variables.now) c.args.location d f) (mapped_more (node_tree directive_tree) xs i x h c.directive-item.is) c.loop-directive.invariant c.in_ok-check_use.ensures

pub returns : goal.returns
returns c =
    let s = schema_tree c.args.judging.now.schema.now in
    subst (λ l. Adds c.args.faults.now c.loop-directive.faults (λ f. AtSomeIndex (directives_of l) (λ i d. UseBreaks (place_at s) (judged s) (variables_of c.args.judging.now.variables.now) c.args.location d f)))
    (take_all c.loop-directive.directive-index c.args.directives.now c.loop-directive-test.false) c.loop-directive.invariant
