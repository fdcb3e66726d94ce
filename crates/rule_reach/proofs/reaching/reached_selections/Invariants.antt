use Rattle.std.proofs.Common.{◌↔◌, ◌++◌, true, Contains}
use Rattle.graphql_names.specs.Placed.{Place}
use Rattle.document_typed_selections.specs.TypedTree.{typed_set_tree}
use Rattle.document_typed_operations.specs.Reached.{Member, IsReached}
use Rattle.document_typed_operations.specs.WalkView.{fragments_tree}
use Rattle.document_typed_operations.specs.Lending.{selections_left}
use Rattle.rule_reach.specs.Gathered.{lent_members}
use Rattle.rule_reach.proofs.reaching.reached_selections.Given as goal

abbrev pub invariant-loop-selection : goal.invariant-loop-selection
invariant-loop-selection l = (e : Member Place) → Contains (lent_members l.selections ++ selections_left l.selection-iterator) e ↔ IsReached true (fragments_tree l.fragments) (typed_set_tree l.start) e
