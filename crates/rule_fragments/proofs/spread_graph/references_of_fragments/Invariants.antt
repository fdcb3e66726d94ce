use Rattle.std.proofs.Common.{◌≡◌}
use Rattle.rule_document_definitions.specs.Limits.{spread_bound}
use Rattle.rule_cycles.specs.References.{AreNoted}
use Rattle.rule_fragments.specs.SpreadNumbers.{references_at}
use Rattle.rule_fragments.specs.SpreadViews.{fragment_entries, spread_tree}
use Rattle.rule_fragments.proofs.spread_graph.references_of_fragments.Given as goal

abbrev pub invariant-loop-number : goal.invariant-loop-number
invariant-loop-number l = record {
  none_first : l.all.graph.first_kind ≡ 0;
  all_roots : l.all.graph.roots ≡ l.roots;
  bound : l.all.graph.bound ≡ spread_bound;
  noted : AreNoted spread_tree (references_at (fragment_entries l.fragments)) l.number l.all;
}
