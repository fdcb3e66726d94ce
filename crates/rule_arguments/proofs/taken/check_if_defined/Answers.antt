use Rattle.std.proofs.Common.{sym, ap, ◌∙◌, find, is_some, true≢false}
use Rattle.std.proofs.lemmas.Result.{on_ok_weaker}
use Rattle.graphql_names.specs.Placed.{node_tree}
use Rattle.tree_directives.specs.DirectiveTree.{argument_tree, input_value_tree, input_value_trees}
use Rattle.tree_directives.specs.DirectiveQueries.{input_value_has_name}
use Rattle.tree_directives.specs.declared.directive.Argument.{Argument}
use Rattle.rule_values.specs.in_fault_data.FaultView.{faults_of}
use Rattle.rule_values.specs.in_schema.SchemaOf.{schema_tree}
use Rattle.rule_values.specs.Wanting.{variables_of}
use Rattle.rule_arguments.specs.GivenArguments.{DefinedArgumentBreaks}
use Rattle.rule_values.proofs.in_fault_data.Adding.{gains_same, gains_nothing}
use Rattle.rule_arguments.proofs.Known.{defined_known}
use Rattle.rule_arguments.proofs.taken.check_if_defined.Goals as goal

pub returns-in-Some : goal.returns-in-Some
returns-in-Some c =
    let s = schema_tree c.args.judging.now.schema.now in
    let vs = variables_of c.args.judging.now.variables.now in
    let definitions = input_value_trees c.args.taker.now.definitions.now in
    let found = ap (λ (x : Argument). find (input_value_has_name x.name.text) definitions) (sym c.content.ensures) ∙ sym c.in-Some.ensures in
    on_ok_weaker c.check_argument.result
    (gains_same (faults_of c.args.faults.now) (faults_of c.check_argument.new.faults) (defined_known s vs definitions (node_tree argument_tree c.args.argument.now) (node_tree input_value_tree c.in-Some.definition.now) found))
    c.check_argument.ensures

pub returns-in-None : goal.returns-in-None
returns-in-None c =
    let s = schema_tree c.args.judging.now.schema.now in
    let vs = variables_of c.args.judging.now.variables.now in
    let definitions = input_value_trees c.args.taker.now.definitions.now in
    let none = ap (λ (x : Argument). find (input_value_has_name x.name.text) definitions) (sym c.content.ensures) ∙ sym c.in-None.ensures in
    gains_nothing (faults_of c.args.faults.now) (DefinedArgumentBreaks s vs definitions (node_tree argument_tree c.args.argument.now)) (λ f q. true≢false (sym (ap is_some (sym none ∙ q.1.0))))
