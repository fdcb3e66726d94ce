use Rattle.std.proofs.Common.{false}
use Rattle.document_typed_selections.specs.TypedTree.{typed_set_tree}
use Rattle.document_typed_operations.specs.WalkView.{fragments_tree}
use Rattle.document_typed_operations.proofs.Whole.{fields_walk}
use Rattle.document_typed_operations.proofs.fields.RootFields.new.Goals as goal

pub returns-clause-walk : goal.returns-clause-walk
returns-clause-walk c = fields_walk false (fragments_tree c.args.fragments.now) (typed_set_tree c.args.start.now) _ c.new.ensures.walk
