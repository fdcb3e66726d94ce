use Rattle.std.proofs.Common.{◌≡◌, ◌<◌, ◌+◌, take, find, length, sym, ap, subst, ◌∙◌, None, Some, arith, true≢false}
use Rattle.std.proofs.lemmas.List.{take_all}
use Rattle.graphql_names.specs.Node.{content}
use Rattle.graphql_names.specs.Placed.{node_tree, Placed, Place}
use Rattle.graphql_names.specs.declared.node.Node.{Node}
use Rattle.tree_directives.specs.DirectiveTree.{argument_tree, ArgumentTree, input_value_trees}
use Rattle.tree_directives.specs.DirectiveQueries.{argument_has_name}
use Rattle.tree_directives.specs.declared.directive.Argument.{Argument}
use Rattle.rule_values.specs.in_fault_data.FaultView.{faults_of}
use Rattle.rule_values.specs.in_schema.SchemaOf.{schema_tree}
use Rattle.rule_values.specs.in_rule_definitions.Names.{argument_name}
use Rattle.rule_values.specs.in_rule_definitions.Words.{AtSomeIndex}
use Rattle.rule_values.specs.in_fault_data.Adds.{Adds}
use Rattle.rule_values.specs.Wanting.{variables_of}
use Rattle.rule_arguments.specs.Trees.{arguments_of}
use Rattle.rule_arguments.specs.GivenArguments.{DefinedArgumentBreaks, FirstGivenBreaks}
use Rattle.rule_values.proofs.in_rule_definitions.Listing.{mapped_more}
use Rattle.rule_values.proofs.in_fault_data.Adding.{Gains, gains_none, gains_more}
use Rattle.rule_values.proofs.in_inputs.Noted.{there}
use Rattle.rule_arguments.proofs.Numbered.{first_gains, later_gains}
use Rattle.rule_arguments.proofs.taken.check_arguments.Goals as goal
use Rattle.rule_arguments.proofs.taken.check_arguments.Goals.{then-is_first+in_ok-check_if_defined, else-is_first}

pub loop-index-init : goal.loop-index-init
loop-index-init c =
    let s = schema_tree c.args.judging.now.schema.now in
    gains_none {X = Placed Place (ArgumentTree Place)} (faults_of c.args.faults.now) (λ j a f. FirstGivenBreaks s (variables_of c.args.judging.now.variables.now) (input_value_trees c.args.taker.now.definitions.now) (take j (arguments_of c.args.taker.now.given.now)) a f)

pub loop-index-preserved : goal.loop-index-preserved
loop-index-preserved c =
    let s = schema_tree c.args.judging.now.schema.now in
    let vs = variables_of c.args.judging.now.variables.now in
    let definitions = input_value_trees c.args.taker.now.definitions.now in
    let xs = c.args.taker.now.given.now in
    let i = c.loop-index.index in
    let x = c.index-taker-index.result in
    let h : i < length xs = omega arith in
    let before = faults_of c.loop-index.faults in
    let own = ap (λ (a : Argument). a.name.text) c.content.ensures ∙ ap (λ (a : Node Argument). (content a).name.text) (sym c.index-taker-index.is) in
    let step : Gains before (faults_of c.if-is_first.faults) (FirstGivenBreaks s vs definitions (take (length (arguments_of (take i xs))) (arguments_of xs)) (node_tree argument_tree x)) =
    elim c.if-is_first.branch [
      | then-is_first+in_ok-check_if_defined w ↦
          subst (λ l. Gains before (faults_of l) (FirstGivenBreaks s vs definitions (take (length (arguments_of (take i xs))) (arguments_of xs)) (node_tree argument_tree x))) (sym w.faults-is)
          (first_gains s vs definitions xs i x h before (faults_of w.check_if_defined.new.faults)
          (subst (λ t. find (argument_has_name t) (take i (arguments_of xs)) ≡ None) own (c.is_first.ensures.0 w.if-is_first.true))
          (subst (λ (a : Node Argument). Gains before (faults_of w.check_if_defined.new.faults) (DefinedArgumentBreaks s vs definitions (node_tree argument_tree a))) (sym c.index-taker-index.is) w.in_ok-check_if_defined.ensures))
      | else-is_first w ↦
          subst (λ l. Gains before (faults_of l) (FirstGivenBreaks s vs definitions (take (length (arguments_of (take i xs))) (arguments_of xs)) (node_tree argument_tree x))) (sym w.faults-is)
          (later_gains s vs definitions xs i x h before
          (λ none. true≢false (sym (c.is_first.ensures.1 (subst (λ t. find (argument_has_name t) (take i (arguments_of xs)) ≡ None) (sym own) none)) ∙ w.if-is_first.false)))
    ] in
    gains_more (faults_of c.args.faults.now) before (faults_of c.if-is_first.faults) (arguments_of (take i xs)) (arguments_of (take (i + 1) xs)) (node_tree argument_tree x)
    (λ j a f. FirstGivenBreaks s vs definitions (take j (arguments_of xs)) a f) (mapped_more (node_tree argument_tree) xs i x h c.index-taker-index.is) c.loop-index.invariant step

pub is_first-requires-clause-named : goal.is_first-requires-clause-named
is_first-requires-clause-named c =
    let xs = c.args.taker.now.given.now in
    let i = c.loop-index.index in
    let x = c.index-taker-index.result in
    let h : i < length xs = omega arith in
    let own = ap (λ (a : Argument). a.name.text) c.content.ensures ∙ ap (λ (a : Node Argument). (content a).name.text) (sym c.index-taker-index.is) in
    (x, (sym (there argument_name (node_tree argument_tree) xs i x h) ∙ ap Some (sym c.index-taker-index.is), sym own))

pub returns : goal.returns
returns c =
    let s = schema_tree c.args.judging.now.schema.now in
    let vs = variables_of c.args.judging.now.variables.now in
    let definitions = input_value_trees c.args.taker.now.definitions.now in
    let xs = c.args.taker.now.given.now in
    subst (λ l. Adds c.args.faults.now c.loop-index.faults (λ f. AtSomeIndex (arguments_of l) (λ j a. FirstGivenBreaks s vs definitions (take j (arguments_of xs)) a f)))
    (take_all c.loop-index.index xs c.loop-index-test.false) c.loop-index.invariant
