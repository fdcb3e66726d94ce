use Rattle.std.proofs.Common.{◌≡◌, map}
use Rattle.graphql_schema.specs.SchemaOf.{schema_tree}
use Rattle.rule_cycles.specs.Numbers.{field_references, each_value}
use Rattle.rule_cycles.specs.ReferenceViews.{field_tree, input_reference_view}
use Rattle.rule_cycles.proofs.inputs.references_of_fields.Given as goal

abbrev pub invariant-loop-field : goal.invariant-loop-field
invariant-loop-field l = map input_reference_view l.references.items ≡ each_value (λ c. field_references (schema_tree l.schema).types (field_tree c)) (map (λ e. (e.0.now, e.1.now)) l.yielded)
