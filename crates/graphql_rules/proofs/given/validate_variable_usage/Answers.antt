use Rattle.std.proofs.Common.{List, [], ◌∷◌, map, Option, option_to_list, sym, subst, append-nil}
use Rattle.graphql_names.specs.Placed.{node_tree}
use Rattle.graphql_names.specs.declared.node.Node.{Node}
use Rattle.tree_directives.specs.DirectiveTree.{argument_tree, input_value_tree}
use Rattle.tree_operations.specs.declared.operation.VariableDefinition.{VariableDefinition}
use Rattle.fault_data.specs.FaultView.{fault_of}
use Rattle.fault_data.specs.declared.fault.Fault.{Fault}
use Rattle.rule_arguments.specs.GivenArguments.{Lists, DisallowedUsage}
use Rattle.graphql_faults.specs.DetailsView.{diagnostics_of}
use Rattle.rule_arguments.specs.in_rule_values.Wanting.{variables_of}
use Rattle.graphql_rules.proofs.GivenFacts.{usage_told}
use Rattle.graphql_rules.proofs.given.validate_variable_usage.Goals as goal

pub returns-in-None-clause-told : goal.returns-in-None-clause-told
returns-in-None-clause-told c =
    ([], (sym (append-nil (diagnostics_of c.args.list.now)), usage_told (variables_of c.args.variables.now) c.args.definition.now (node_tree argument_tree c.args.argument.now) [] c.content.result.now c.content.ensures (subst (λ (o : Option Fault). Lists (map fault_of (option_to_list o)) (DisallowedUsage (variables_of c.args.variables.now) (input_value_tree c.content.result.now) (node_tree argument_tree c.args.argument.now))) c.in-None.is (subst (λ (ds : List (Node VariableDefinition)). Lists (map fault_of (option_to_list c.in_ok-fault.fault)) (DisallowedUsage (variables_of ds) (input_value_tree c.content.result.now) (node_tree argument_tree c.args.argument.now))) c.listed-variables.ensures c.in_ok-fault.ensures))))

pub returns-clause-told : goal.returns-clause-told
returns-clause-told c =
    (fault_of c.in-Some.fault ∷ [], (c.in_ok-push_fault-in-Some.ensures.added, usage_told (variables_of c.args.variables.now) c.args.definition.now (node_tree argument_tree c.args.argument.now) (fault_of c.in-Some.fault ∷ []) c.content.result.now c.content.ensures (subst (λ (o : Option Fault). Lists (map fault_of (option_to_list o)) (DisallowedUsage (variables_of c.args.variables.now) (input_value_tree c.content.result.now) (node_tree argument_tree c.args.argument.now))) c.in-Some.is (subst (λ (ds : List (Node VariableDefinition)). Lists (map fault_of (option_to_list c.in_ok-fault.fault)) (DisallowedUsage (variables_of ds) (input_value_tree c.content.result.now) (node_tree argument_tree c.args.argument.now))) c.listed-variables.ensures c.in_ok-fault.ensures))))
