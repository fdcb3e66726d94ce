use Rattle.std.proofs.Common.{◌≡◌}
use Rattle.graphql_names.specs.Placed.{node_tree}
use Rattle.tree_directives.specs.DirectiveTree.{input_value_tree}
use Rattle.graphql_schema.specs.SchemaOf.{schema_tree}
use Rattle.fault_data.specs.in_rule_definitions.Cycles.{reference_bound}
use Rattle.rule_cycles.specs.FaultLists.{input_fields_at}
use Rattle.rule_cycles.specs.References.{AreNoted}
use Rattle.rule_cycles.proofs.inputs.references_of_types.Given as goal

abbrev pub invariant-loop-number : goal.invariant-loop-number
invariant-loop-number l = record {
  none_first : l.all.graph.first_kind ≡ 0;
  all_roots : l.all.graph.roots ≡ l.roots;
  bound : l.all.graph.bound ≡ reference_bound;
  noted : AreNoted (node_tree input_value_tree) (input_fields_at (schema_tree l.schema)) l.number l.all;
}
