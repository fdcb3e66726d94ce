use Rattle.std.proofs.Common.{subst}
use Rattle.std.proofs.lemmas.Result.{IfOk-weaker}
use Rattle.std.specs.Prelude.{string_bytes}
use Rattle.checker_calls.specs.Layouts.{prefix_of}
use Rattle.graphql_checked.specs.CheckedView.{document_value}
use Rattle.book_validity.specs.in_verdict_definitions.Answer.{WritesDocument}
use Rattle.graphql_checked.proofs.Checking.{writes_document}
use Rattle.graphql_checked.proofs.checked_document.CheckedDocument.written.Goals as goal

pub returns : goal.returns
returns c =
    IfOk-weaker _ _ _ (λ text h. subst (λ v. WritesDocument (prefix_of c.args.layout) (document_value v).schema.number (document_value v).text (string_bytes text)) c.self.view_is
    (writes_document _ _ _ c.self.invariant.accepted (prefix_of c.args.layout) _ (string_bytes text) c.in_ok-document.ensures.definitions h)) c.written.ensures
