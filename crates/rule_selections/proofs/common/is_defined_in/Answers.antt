use Rattle.std.proofs.Common.{◌∙◌, List, ℕ, ap, sym, subst, find, bytes_eq}
use Rattle.std.specs.Option.{option_map}
use Rattle.graphql_names.specs.Placed.{node_tree}
use Rattle.tree_operations.specs.OperationTree.{variable_definition_tree}
use Rattle.tree_operations.specs.declared.operation.VariableDefinition.{VariableDefinition}
use Rattle.rule_arguments.specs.in_rule_values.Wanting.{variables_of}
use Rattle.rule_definitions.specs.Names.{defined_name}
use Rattle.rule_selections.specs.Settled.{AreAlike}
use Rattle.rule_selections.proofs.common.is_defined_in.Goals as goal

pub returns-in-Some : goal.returns-in-Some
returns-in-Some c = λ h.
    let all = variables_of c.args.variables.now in
    let other = c.in-Some.other.now in
    let found = ap (λ (n : VariableDefinition). find (λ v. bytes_eq (defined_name v) n.name.text) all) (sym c.content-own.ensures)
    ∙ sym c.get.ensures ∙ ap (option_map (λ v. node_tree variable_definition_tree v.now)) c.in-Some.is in
    let alike = subst (λ (v : VariableDefinition). AreAlike (variable_definition_tree c.content-own.result.now) (variable_definition_tree v)) c.content.ensures (c.are_alike.ensures h) in
    (node_tree variable_definition_tree other, (found, subst (λ (v : VariableDefinition). AreAlike (variable_definition_tree v) (node_tree variable_definition_tree other).it) c.content-own.ensures alike))
