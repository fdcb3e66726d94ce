-- Private: leads to `RecursiveInputObjectDefinitionAt`. The graph of the input objects of a schema.
use Rattle.std.specs.Prelude.{◌≡◌, ℕ, length}
use Rattle.graphql_names.specs.Placed.{Place}
use Rattle.graphql_names.specs.declared.node.Node.{Node}
use Rattle.tree_directives.specs.declared.input_value.InputValueDefinition.{InputValueDefinition}
use Rattle.schema_types.specs.SchemaTree.{SchemaTree}
use Rattle.rule_cycle_search.specs.declared.graph.Graph.{Graph}
use Rattle.rule_cycle_search.specs.Graph.{references}
use Rattle.fault_data.specs.in_rule_definitions.Cycles.{reference_bound}
use Rattle.rule_cycles.specs.Labels.{targets, label}
use Rattle.rule_cycles.specs.ReferenceViews.{field_between}
use Rattle.rule_cycles.specs.declared.references.References.{References}
use Rattle.rule_cycles.specs.FaultLists.{input_fields_at}

pub record IsInputGraph (s : SchemaTree Place) (g : Graph) : Type 0 where
  pub none_first : g.first_kind ≡ 0
  pub all_roots : g.roots ≡ length s.types
  pub bound : g.bound ≡ reference_bound
  pub refers : (i : ℕ) → references g i ≡ targets (input_fields_at s i)

-- what input objects refer to, and the first field by which each refers to another
pub record AreInputReferences (s : SchemaTree Place) (r : References (Node InputValueDefinition)) : Type 0 where
  pub graph : IsInputGraph s r.graph
  pub labels : (from to : ℕ) → field_between r from to ≡ label (input_fields_at s from) to
