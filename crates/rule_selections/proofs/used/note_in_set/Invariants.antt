use Rattle.std.proofs.Common.{◌≡◌, drop}
use Rattle.document_typed_selections.specs.TypedTree.{typed_selections, typed_selection_tree}
use Rattle.rule_reach.specs.NotedNames.{noted_names}
use Rattle.rule_selections.specs.UsedNames.{with_along}
use Rattle.rule_selections.proofs.used.note_in_set.Given as goal

abbrev pub invariant-loop-selection : goal.invariant-loop-selection
invariant-loop-selection l = with_along (noted_names l.fn.names) (typed_selections typed_selection_tree l.selection-items) ≡ with_along (noted_names l.names) (typed_selections typed_selection_tree (drop l.selection-index l.selection-items))
