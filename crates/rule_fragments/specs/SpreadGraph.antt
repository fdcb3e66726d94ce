-- Private: leads to `FragmentCycles`. The graph of the fragments of a document.
use Rattle.std.specs.Prelude.{◌≡◌, ℕ, length, bytes_eq}
use Rattle.std.specs.List.{IsDistinct}
use Rattle.std.specs.Map.{keys_of}
use Rattle.graphql_names.specs.Placed.{Place}
use Rattle.graphql_names.specs.declared.node.Node.{Node}
use Rattle.schema_components.specs.Names.{Entries}
use Rattle.document_typed_selections.specs.declared.selection.FragmentSpread.{FragmentSpread}
use Rattle.spec_document.specs.MeantTree.{MeantFragment}
use Rattle.rule_cycle_search.specs.declared.graph.Graph.{Graph}
use Rattle.rule_cycle_search.specs.Graph.{references}
use Rattle.rule_document_definitions.specs.Limits.{spread_bound}
use Rattle.rule_cycles.specs.Labels.{targets, label}
use Rattle.rule_fragments.specs.SpreadNumbers.{references_at}
use Rattle.rule_fragments.specs.SpreadViews.{spread_between}
use Rattle.rule_cycles.specs.declared.references.References.{References}

pub record IsSpreadGraph (es : Entries (MeantFragment Place)) (g : Graph) : Type 0 where
  pub none_first : g.first_kind ≡ 0
  pub all_roots : g.roots ≡ length es
  pub bound : g.bound ≡ spread_bound
  pub refers : (i : ℕ) → references g i ≡ targets (references_at es i)

-- the fragments have different names, the graph is that of their references, and r has the first spread for each
-- reference
pub record AreSpreadReferences (es : Entries (MeantFragment Place)) (r : References (Node FragmentSpread)) : Type 0 where
  pub distinct : IsDistinct bytes_eq (keys_of es)
  pub graph : IsSpreadGraph es r.graph
  pub labels : (from to : ℕ) → spread_between r from to ≡ label (references_at es from) to
