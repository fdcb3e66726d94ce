use Rattle.std.proofs.Common.{◌≡◌, ◌++◌, map}
use Rattle.graphql_schema.specs.SchemaOf.{schema_tree}
use Rattle.rule_cycles.specs.Numbers.{each_value}
use Rattle.rule_cycles.specs.UseViews.{use_view, value_uses}
use Rattle.rule_cycles.proofs.uses.add_values.Given as goal

abbrev pub invariant-loop-value : goal.invariant-loop-value
invariant-loop-value l = map use_view l.references.items ≡ map use_view l.fn.references.items ++ each_value (value_uses (schema_tree l.schema)) (map (λ e. (e.0.now, e.1.now)) l.yielded)
