-- Checked schemas, and documents, of which one text is written are equal.
use Rattle.std.proofs.Common.{sym, ap, subst, ◌∙◌}
use Rattle.spec_document.specs.Unplaced.{unplaced_document}
use Rattle.rule_definitions.specs.Laws.{AreEqual}
use Rattle.verdict_definitions.specs.Meaning.{document_schema}
use Rattle.verdict_definitions.specs.Out.{layout_text}
use Rattle.verdict_laws.proofs.EqualTexts.{equal_schema_texts, equal_document_texts}
use Rattle.verdict_laws.specs.Equal.{SchemasOfOneText, DocumentsOfOneText}
use Rattle.verdict_laws.proofs.CallsAgain.{written_of}

pub schemas_of_one_text : SchemasOfOneText
schemas_of_one_text a b first second layout plain one =
    let law = equal_schema_texts first.terms second.terms first.schemas second.schemas first.elsewhere second.elsewhere first.is.accepted second.is.accepted in
    let same = (law.texts layout plain).0 (sym (ap (layout_text layout) first.is.written) ∙ one ∙ ap (layout_text layout) second.is.written) in
    subst (λ s. AreEqual s b.schema) (sym first.is.for_documents)
    (subst (AreEqual (document_schema first.terms first.is.accepted.judged.trees)) (sym second.is.for_documents) (law.for_documents same))

pub documents_of_one_text : DocumentsOfOneText
documents_of_one_text schema other document text first second is also equal layout plain bytes writes writes_also =
    let one = is.accepted.judged in
    let two = also.accepted.judged in
    let law = equal_document_texts schema.schema other.schema schema.nesting other.nesting schema.number other.number document text is.accepted also.accepted in
    let same = (law.texts layout plain).0
    (sym (written_of schema.number document one.tree layout bytes one.read writes) ∙ written_of other.number text two.tree layout bytes two.read writes_also) in
    ap unplaced_document is.is ∙ law.equal equal same ∙ sym (ap unplaced_document also.is)
