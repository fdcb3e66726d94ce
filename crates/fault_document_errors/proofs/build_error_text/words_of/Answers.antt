use Rattle.std.proofs.Common.{sym, ap, ◌∙◌}
use Rattle.fault_document_errors.specs.DocumentBreachView.{document_breach_of, name_conflict, argument_conflict, type_conflict}
use Rattle.fault_document_errors.specs.DocumentMessages.{document_message}
use Rattle.fault_document_errors.proofs.build_error_text.words_of.Goals as goal

pub returns-in-UndefinedField : goal.returns-in-UndefinedField
returns-in-UndefinedField c = sym (ap (λ e. document_message (document_breach_of e)) c.in-UndefinedField.is)

pub returns-in-ConflictingFieldName : goal.returns-in-ConflictingFieldName
returns-in-ConflictingFieldName c = ap (λ f. document_message (name_conflict f)) c.deref.ensures ∙ sym (ap (λ e. document_message (document_breach_of e)) c.in-ConflictingFieldName.is)

pub returns-in-ConflictingFieldArgument : goal.returns-in-ConflictingFieldArgument
returns-in-ConflictingFieldArgument c = ap (λ f. document_message (argument_conflict f)) c.deref-in-ConflictingFieldArgument.ensures ∙ sym (ap (λ e. document_message (document_breach_of e)) c.in-ConflictingFieldArgument.is)

pub returns-in-ConflictingFieldType : goal.returns-in-ConflictingFieldType
returns-in-ConflictingFieldType c = ap (λ f. document_message (type_conflict f)) c.deref-in-ConflictingFieldType.ensures ∙ sym (ap (λ e. document_message (document_breach_of e)) c.in-ConflictingFieldType.is)
