use Rattle.std.proofs.Common.{List, [], ap, subst, ◌∙◌}
use Rattle.std.proofs.lemmas.Result.{on_ok_weaker}
use Rattle.graphql_names.specs.Placed.{Place, node_tree}
use Rattle.graphql_names.specs.declared.node.Node.{Node}
use Rattle.tree_directives.specs.DirectiveTree.{Directives}
use Rattle.tree_directives.specs.declared.directive_location.DirectiveLocation.TheVariants as location
use Rattle.tree_operations.specs.OperationTree.{variable_definition_tree}
use Rattle.tree_operations.specs.declared.operation.VariableDefinition.{VariableDefinition}
use Rattle.schema_types.specs.Addresses.{place_at}
use Rattle.rule_definitions.specs.Judged.{judged}
use Rattle.rule_definitions.specs.Uses.{UsesBreak}
use Rattle.graphql_schema.specs.SchemaOf.{schema_tree}
use Rattle.rule_arguments.specs.in_fault_data.FaultView.{faults_of}
use Rattle.rule_arguments.specs.in_fault_data.Adds.{Adds}
use Rattle.rule_definitions.specs.Room.{◌⊕◌}
use Rattle.rule_arguments.specs.in_rule_values.Wanting.{variables_of}
use Rattle.rule_arguments.specs.Trees.{directives_of}
use Rattle.rule_definitions.proofs.Adding.{gains_both, gains_list}
use Rattle.rule_variables.specs.VariableFaults.{undefined_definition, variable_input_type}
use Rattle.rule_variables.proofs.Told.{lists_undefined, lists_input_type}
use Rattle.rule_variables.proofs.types.check_variable.Goals as goal

pub returns : goal.returns
returns c =
    let s = schema_tree c.args.schema.now in
    let x = node_tree variable_definition_tree c.args.variable.now in
    let a = faults_of c.args.faults.now in
    let b = faults_of c.undefined_definition.new.faults in
    let d = faults_of c.variable_input_type.new.faults in
    let e = faults_of c.check_judged_default.new.faults in
    let g = faults_of c.check_uses.new.faults in
    let used = ap directives_of c.deref.ensures.value ∙ ap (λ (v : VariableDefinition). directives_of v.directives.0.items) c.content.ensures in
    on_ok_weaker c.check_uses.result
    (λ h. gains_both a b g (gains_list a b (undefined_definition s x) (c.in_ok-undefined_definition.ensures ∙ ap (λ y. a ⊕ undefined_definition (schema_tree y) x) c.schema-whole.ensures) (lists_undefined s x))
    (gains_both b d g (gains_list b d (variable_input_type s x) (c.in_ok-variable_input_type.ensures ∙ ap (λ y. b ⊕ variable_input_type (schema_tree y) x) c.schema-whole.ensures) (lists_input_type s x))
    (gains_both d e g c.in_ok-check_judged_default.ensures
    (subst (λ (ds : Directives Place). Adds c.check_judged_default.new.faults c.check_uses.new.faults (UsesBreak (place_at s) (judged s) [] location.VariableDefinition ds)) used
    (subst (λ (vs : List (Node VariableDefinition)). Adds c.check_judged_default.new.faults c.check_uses.new.faults (UsesBreak (place_at s) (judged s) (variables_of vs) location.VariableDefinition (directives_of c.deref.result.now))) c.listed-variables.ensures h)))))
    c.check_uses.ensures
