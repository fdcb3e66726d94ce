use Rattle.std.proofs.Common.{◌≡◌, ◌++◌, map, take}
use Rattle.std.specs.List.{flat_map}
use Rattle.document_typed_selections.specs.TypedTree.{typed_selection_tree}
use Rattle.spec_document.specs.MeantTree.{meant}
use Rattle.rule_fragments.specs.SpreadNumbers.{references_of}
use Rattle.rule_fragments.specs.SpreadViews.{fragment_entries, spread_view}
use Rattle.rule_fragments.proofs.spread_graph.+spreads.Given as goal

abbrev pub invariant-add_spreads-loop-selection : goal.invariant-add_spreads-loop-selection
invariant-add_spreads-loop-selection l = map spread_view l.references.items ≡ map spread_view l.fn.references.items ++ flat_map (λ s. references_of (fragment_entries l.fragments) (meant (typed_selection_tree s))) (take l.selection-index l.set.selections.items)
