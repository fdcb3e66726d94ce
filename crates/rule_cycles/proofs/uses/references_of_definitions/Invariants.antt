use Rattle.std.proofs.Common.{◌≡◌}
use Rattle.graphql_schema.specs.SchemaOf.{schema_tree}
use Rattle.fault_data.specs.in_rule_definitions.Cycles.{reference_bound}
use Rattle.rule_cycles.specs.UseNumbers.{uses_at}
use Rattle.rule_cycles.specs.UseViews.{use_tree}
use Rattle.rule_cycles.specs.References.{AreNoted}
use Rattle.rule_cycles.proofs.uses.references_of_definitions.Given as goal

abbrev pub invariant-loop-node : goal.invariant-loop-node
invariant-loop-node l = record {
  directives : l.all.graph.first_kind ≡ l.roots;
  all_roots : l.all.graph.roots ≡ l.roots;
  bound : l.all.graph.bound ≡ reference_bound;
  noted : AreNoted use_tree (uses_at (schema_tree l.schema)) l.node l.all;
}
