use Rattle.std.proofs.Common.{map}
use Rattle.graphql_names.specs.NameValue.{NameValue}
use Rattle.schema_components.specs.declared.component.Component.{Component}
use Rattle.tree_directives.specs.declared.input_value.InputValueDefinition.{InputValueDefinition}
use Rattle.rule_values.specs.in_schema.in_schema_types.TypeView.{name_text}
use Rattle.rule_values.specs.in_schema.SchemaOf.{schema_tree}
use Rattle.rule_values.specs.in_fault_data.Adds.{Adds}
use Rattle.rule_arguments.specs.SchemaUses.{InputsUses}
use Rattle.schema_components.specs.Given.{component_tree}
use Rattle.tree_directives.specs.DirectiveTree.{input_value_tree}
use Rattle.rule_arguments.proofs.schema_uses.check_inputs.Given as goal

abbrev pub invariant-loop-field : goal.invariant-loop-field
invariant-loop-field l = Adds l.fn.faults l.faults (InputsUses (schema_tree l.schema) (map (λ (e : NameValue × Component InputValueDefinition). (name_text e.0, component_tree input_value_tree e.1)) (map (λ e. (e.0.now, e.1.now)) l.yielded)))
