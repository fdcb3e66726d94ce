use Rattle.std.proofs.Common.{◌++◌, map, ap, ◌∙◌}
use Rattle.book_validity.specs.in_typing.FaultView.{faults_of}
use Rattle.graphql_faults.specs.DetailsTree.{of_typing}
use Rattle.graphql_checked.proofs.build_errors.document_errors.Goals as goal

pub returns : goal.returns
returns c = c.in_ok-append_document_errors.ensures.added ∙ ap (λ l. l ++ map of_typing (faults_of c.args.errors)) c.new-list.ensures
