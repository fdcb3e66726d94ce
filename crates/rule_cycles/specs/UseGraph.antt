-- Private: leads to `RecursiveDirectiveDefinitionAt`. The graph of the directives and types of a schema.
use Rattle.std.specs.Prelude.{◌≡◌, ◌<◌, ℕ, [], Contains, Option, length}
use Rattle.graphql_names.specs.Placed.{Place}
use Rattle.graphql_names.specs.declared.node.Node.{Node}
use Rattle.tree_directives.specs.declared.directive.Directive.{Directive}
use Rattle.schema_types.specs.SchemaTree.{SchemaTree}
use Rattle.rule_cycle_search.specs.declared.graph.Graph.{Graph}
use Rattle.rule_cycle_search.specs.Graph.{references}
use Rattle.fault_data.specs.in_rule_definitions.Cycles.{reference_bound}
use Rattle.rule_cycles.specs.Labels.{targets, label}
use Rattle.rule_cycles.specs.UseViews.{use_between}
use Rattle.rule_cycles.specs.declared.references.References.{References}
use Rattle.rule_cycles.specs.UseNumbers.{uses_at}

pub record IsUseGraph (s : SchemaTree Place) (g : Graph) : Type 0 where
  pub directives : g.first_kind ≡ length s.directives
  pub all_roots : g.roots ≡ length s.directives
  pub bound : g.bound ≡ reference_bound
  pub refers : (i : ℕ) → references g i ≡ targets (uses_at s i)

-- what directives and types refer to, and the first label by which each refers to another
pub record AreUseReferences (s : SchemaTree Place) (r : References (Option (Node Directive))) : Type 0 where
  pub graph : IsUseGraph s r.graph
  pub labels : (from to : ℕ) → use_between r from to ≡ label (uses_at s from) to

-- what a directive refers to refers to nothing
abbrev pub IsFlat : SchemaTree Place → Type 0
IsFlat s = (directive node : ℕ) → directive < length s.directives → Contains (targets (uses_at s directive)) node → uses_at s node ≡ []
