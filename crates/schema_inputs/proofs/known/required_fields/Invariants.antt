use Rattle.std.proofs.Common.{◌≡◌, map}
use Rattle.std.specs.List.{flat_map}
use Rattle.graphql_names.specs.NameValue.{NameValue}
use Rattle.tree_directives.specs.declared.input_value.InputValueDefinition.{InputValueDefinition}
use Rattle.schema_components.specs.declared.component.Component.{Component}
use Rattle.schema_inputs.specs.Inputs.{if_field_required, listed_field}
use Rattle.schema_inputs.proofs.known.required_fields.Given as goal

abbrev pub invariant-loop-name : goal.invariant-loop-name
invariant-loop-name l = map listed_field l.required.items ≡ flat_map (λ (e : NameValue × Component InputValueDefinition). if_field_required (listed_field e)) (map (λ e. (e.0.now, e.1.now)) l.yielded)
