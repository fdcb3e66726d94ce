use Rattle.std.proofs.Common.{◌≡◌, ℕ, [], map, take, Contains}
use Rattle.graphql_schema.specs.SchemaOf.{schema_tree}
use Rattle.rule_cycles.specs.Labels.{targets}
use Rattle.rule_cycles.specs.UseNumbers.{uses_at}
use Rattle.rule_cycles.specs.UseViews.{use_view}
use Rattle.rule_cycles.proofs.flat.lead_to_nothing.Given as goal

abbrev pub invariant-loop-reference : goal.invariant-loop-reference
invariant-loop-reference l = (node : ℕ) → Contains (targets (map use_view (take l.reference-index l.references))) node → uses_at (schema_tree l.schema) node ≡ []
