use Rattle.std.proofs.Common.{◌≡◌, ◌<◌, ℕ, [], Contains}
use Rattle.graphql_schema.specs.SchemaOf.{schema_tree}
use Rattle.rule_cycles.specs.Labels.{targets}
use Rattle.rule_cycles.specs.UseNumbers.{uses_at}
use Rattle.rule_cycles.proofs.flat.is_flat.Given as goal

abbrev pub invariant-loop-node : goal.invariant-loop-node
invariant-loop-node l = (directive node : ℕ) → directive < l.node → Contains (targets (uses_at (schema_tree l.schema) directive)) node → uses_at (schema_tree l.schema) node ≡ []
