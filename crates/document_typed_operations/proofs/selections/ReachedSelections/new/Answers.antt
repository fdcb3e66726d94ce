use Rattle.std.proofs.Common.{ap, sym, subst}
use Rattle.document_typed_selections.specs.TypedTree.{typed_set_tree}
use Rattle.document_typed_operations.specs.Reached.{IsMemberWalk}
use Rattle.document_typed_operations.specs.Left.{left_members}
use Rattle.document_typed_operations.specs.WalkView.{fragments_tree}
use Rattle.document_typed_operations.proofs.Whole.{whole}
use Rattle.document_typed_operations.proofs.Reaching.{lends_members}
use Rattle.document_typed_operations.proofs.selections.ReachedSelections.new.Goals as goal

pub returns-clause-walk : goal.returns-clause-walk
returns-clause-walk c = subst (IsMemberWalk c.args.nested (fragments_tree c.args.fragments.now) (typed_set_tree c.args.start.now)) (sym (ap left_members c.new.ensures))
    (whole c.args.nested (fragments_tree c.args.fragments.now) (typed_set_tree c.args.start.now))

pub returns-clause-reached : goal.returns-clause-reached
returns-clause-reached c = lends_members c.args.nested (fragments_tree c.args.fragments.now) (typed_set_tree c.args.start.now) _ (returns-clause-walk c)
