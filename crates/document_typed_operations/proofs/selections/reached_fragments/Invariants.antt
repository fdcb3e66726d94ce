use Rattle.document_typed_selections.specs.TypedTree.{typed_set_tree}
use Rattle.document_typed_operations.specs.WalkView.{fragments_tree, gathered_names}
use Rattle.document_typed_operations.specs.Lending.{selections_left}
use Rattle.document_typed_operations.proofs.Gathering.{Gathered}
use Rattle.document_typed_operations.proofs.selections.reached_fragments.Given as goal

abbrev pub invariant-loop-selection : goal.invariant-loop-selection
invariant-loop-selection l = Gathered (fragments_tree l.fragments) l.nested (typed_set_tree l.start) (gathered_names l.names) (selections_left l.selection-iterator)
