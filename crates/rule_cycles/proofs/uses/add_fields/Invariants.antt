use Rattle.std.proofs.Common.{◌≡◌, ◌++◌, map}
use Rattle.graphql_schema.specs.SchemaOf.{schema_tree}
use Rattle.rule_cycles.specs.Numbers.{each_value}
use Rattle.rule_cycles.specs.UseViews.{use_view, field_uses}
use Rattle.rule_cycles.proofs.uses.add_fields.Given as goal

abbrev pub invariant-loop-field : goal.invariant-loop-field
invariant-loop-field l = map use_view l.references.items ≡ map use_view l.fn.references.items ++ each_value (field_uses (schema_tree l.schema)) (map (λ e. (e.0.now, e.1.now)) l.yielded)
