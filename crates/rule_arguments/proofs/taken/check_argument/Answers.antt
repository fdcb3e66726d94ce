use Rattle.std.proofs.Common.{sym, subst}
use Rattle.std.proofs.lemmas.Result.{on_ok_weaker}
use Rattle.graphql_names.specs.Node.{content, place}
use Rattle.tree_directives.specs.DirectiveTree.{argument_tree, input_value_tree}
use Rattle.tree_directives.specs.declared.directive.Argument.{Argument}
use Rattle.tree_directives.specs.declared.input_value.InputValueDefinition.{InputValueDefinition}
use Rattle.rule_values.specs.in_fault_data.FaultView.{faults_of}
use Rattle.rule_values.specs.in_schema.SchemaOf.{schema_tree}
use Rattle.rule_values.specs.in_fault_data.Adds.{Adds}
use Rattle.rule_values.specs.Wanting.{variables_of}
use Rattle.rule_arguments.specs.GivenArguments.{DisallowedUsage, GivenArgumentBreaks}
use Rattle.rule_values.proofs.in_fault_data.Adding.{gains_both}
use Rattle.rule_arguments.proofs.taken.check_argument.Goals as goal

pub returns : goal.returns
returns c =
    let s = schema_tree c.args.judging.now.schema.now in
    let vs = variables_of c.args.judging.now.variables.now in
    let at = place c.args.argument.now in
    let a = faults_of c.args.faults.now in
    let b = faults_of c.disallowed_variable_usage.new.faults in
    let own = subst (λ (x : Argument). Adds c.args.faults.now c.disallowed_variable_usage.new.faults (DisallowedUsage vs (input_value_tree c.content-defined.result.now) (record { it = argument_tree x; place = at }))) (sym c.content.ensures) c.in_ok-disallowed_variable_usage.ensures in
    on_ok_weaker c.type_breaks.result
    (λ h. subst (λ (x : Argument). Adds c.args.faults.now c.type_breaks.new.faults (GivenArgumentBreaks s vs (input_value_tree (content c.args.definition.now)) (record { it = argument_tree x; place = at }))) c.content.ensures
    (subst (λ (v : InputValueDefinition). Adds c.args.faults.now c.type_breaks.new.faults (GivenArgumentBreaks s vs (input_value_tree v) (record { it = argument_tree c.content.result.now; place = at }))) c.content-defined.ensures
    (gains_both a b (faults_of c.type_breaks.new.faults) own h)))
    c.type_breaks.ensures
