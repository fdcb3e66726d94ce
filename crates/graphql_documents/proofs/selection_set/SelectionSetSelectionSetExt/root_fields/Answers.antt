use Rattle.std.proofs.Common.{false, sym, subst}
use Rattle.document_typed_selections.specs.TypedTree.{typed_set_tree}
use Rattle.document_typed_operations.specs.Reached.{IsWalk}
use Rattle.document_typed_operations.specs.Lending.{root_fields_left}
use Rattle.document_typed_operations.proofs.WalkLaws.{fragments_tree-document}
use Rattle.graphql_documents.proofs.selection_set.SelectionSetSelectionSetExt.root_fields.Goals as goal

pub returns-clause-walk : goal.returns-clause-walk
returns-clause-walk c = subst (λ f. IsWalk false f (typed_set_tree c.args.self.now) (root_fields_left c.new.result)) (sym (fragments_tree-document c.args.document.now)) c.new.ensures.walk
