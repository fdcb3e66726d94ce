use Rattle.std.proofs.Common.{[], ◌∷◌, sym, ap, subst, ◌∙◌, true≢false}
use Rattle.graphql_names.specs.Node.{content}
use Rattle.graphql_names.specs.Placed.{name_tree, node_tree}
use Rattle.tree_literals.specs.ValueTree.{value_tree}
use Rattle.tree_literals.specs.ValueQueries.{variable_name}
use Rattle.tree_literals.specs.declared.value.Value.{Value}
use Rattle.tree_directives.specs.DirectiveTree.{argument_tree, input_value_tree, unplaced_input_value}
use Rattle.tree_directives.specs.declared.directive.Argument.{Argument}
use Rattle.tree_operations.specs.OperationTree.{variable_definition_tree}
use Rattle.tree_operations.specs.declared.operation.VariableDefinition.{VariableDefinition}
use Rattle.rule_values.specs.in_rule_definitions.PlacedFaults.{PlacedFault}
use Rattle.rule_values.specs.in_rule_definitions.VariableUsage.{IsVariableUsageAllowed}
use Rattle.rule_values.specs.Wanting.{variables_of}
use Rattle.rule_arguments.specs.GivenArguments.{Lists, DisallowedUsage}
use Rattle.rule_arguments.proofs.Known.{usage_unknown, usage_fine, usage_told}
use Rattle.rule_arguments.proofs.usage.usage_fault.Goals as goal

pub returns-in_default-get : goal.returns-in_default-get
returns-in_default-get c =
    let given = ap (λ (x : Argument). variable_name (value_tree (content x.value))) (sym c.content.ensures) ∙ ap (λ (v : Value). variable_name (value_tree v)) (sym c.content-2.ensures) ∙ sym c.in-Some.ensures in
    usage_unknown (variables_of c.args.variables.now) (input_value_tree c.args.definition.now) (node_tree argument_tree c.args.argument.now) (name_tree c.in-Some.name.now) given (sym c.in_default-get.ensures)

pub returns-then-is_variable_usage_allowed : goal.returns-then-is_variable_usage_allowed
returns-then-is_variable_usage_allowed c =
    let v = input_value_tree c.args.definition.now in
    let given = ap (λ (x : Argument). variable_name (value_tree (content x.value))) (sym c.content.ensures) ∙ ap (λ (v : Value). variable_name (value_tree v)) (sym c.content-2.ensures) ∙ sym c.in-Some.ensures in
    usage_fine (variables_of c.args.variables.now) v (node_tree argument_tree c.args.argument.now) (name_tree c.in-Some.name.now) given
    (node_tree variable_definition_tree c.in-Some-get.variable.now) (sym c.in-Some-get.ensures)
    (subst (λ (x : VariableDefinition). IsVariableUsageAllowed (variable_definition_tree x) (unplaced_input_value v)) c.content-3.ensures (c.is_variable_usage_allowed.ensures.0 c.if-is_variable_usage_allowed.true))

pub returns : goal.returns
returns c =
    let v = input_value_tree c.args.definition.now in
    let vs = variables_of c.args.variables.now in
    let a = node_tree argument_tree c.args.argument.now in
    let given = ap (λ (x : Argument). variable_name (value_tree (content x.value))) (sym c.content.ensures) ∙ ap (λ (v : Value). variable_name (value_tree v)) (sym c.content-2.ensures) ∙ sym c.in-Some.ensures in
    let refused = λ (h : IsVariableUsageAllowed (variable_definition_tree (content c.in-Some-get.variable.now)) (unplaced_input_value v)).
    true≢false (sym (c.is_variable_usage_allowed.ensures.1 (subst (λ (x : VariableDefinition). IsVariableUsageAllowed (variable_definition_tree x) (unplaced_input_value v)) (sym c.content-3.ensures) h)) ∙ c.if-is_variable_usage_allowed.false) in
    subst (λ (f : PlacedFault). Lists (f ∷ []) (DisallowedUsage vs v a)) (sym c.in_ok-told_usage.ensures)
    (usage_told vs v a (name_tree c.in-Some.name.now) given (node_tree variable_definition_tree c.in-Some-get.variable.now) (sym c.in-Some-get.ensures) refused)
