use Rattle.std.proofs.Common.{map}
use Rattle.graphql_names.specs.NameValue.{NameValue}
use Rattle.graphql_names.specs.declared.node.Node.{Node}
use Rattle.tree_directives.specs.declared.directive.DirectiveDefinition.{DirectiveDefinition}
use Rattle.rule_values.specs.in_schema.in_schema_types.TypeView.{name_text}
use Rattle.rule_values.specs.in_schema.SchemaOf.{schema_tree}
use Rattle.rule_values.specs.in_fault_data.Adds.{Adds}
use Rattle.rule_arguments.specs.SchemaUses.{DefinitionsUses}
use Rattle.graphql_names.specs.Placed.{node_tree}
use Rattle.tree_directives.specs.DirectiveTree.{directive_definition_tree}
use Rattle.rule_arguments.proofs.schema_uses.check_definitions.Given as goal

abbrev pub invariant-loop-definition : goal.invariant-loop-definition
invariant-loop-definition l = Adds l.fn.faults l.faults (DefinitionsUses (schema_tree l.schema) (map (λ (e : NameValue × Node DirectiveDefinition). (name_text e.0, node_tree directive_definition_tree e.1)) (map (λ e. (e.0.now, e.1.now)) l.yielded)))
