use Rattle.std.proofs.Common.{true}
use Rattle.document_typed_selections.specs.TypedTree.{typed_set_tree}
use Rattle.document_typed_operations.specs.WalkView.{fragments_tree}
use Rattle.document_typed_operations.proofs.Whole.{fields_walk}
use Rattle.document_typed_operations.proofs.fields.AllFields.new.Goals as goal

pub returns-clause-walk : goal.returns-clause-walk
returns-clause-walk c = fields_walk true (fragments_tree c.args.fragments.now) (typed_set_tree c.args.start.now) _ c.new.ensures.walk
