use Rattle.std.proofs.Common.{[], ap, ◌∙◌}
use Rattle.std.proofs.lemmas.Result.{err_from_is_err_and}
use Rattle.tree_definitions.specs.DefinitionTree.{document_tree}
use Rattle.schema_building.specs.SourcesView.{with_sources}
use Rattle.book_validity.specs.in_typing.DocumentView.{meant_document}
use Rattle.document_typed_operations.specs.TypedDocument.{typed_document_tree}
use Rattle.graphql_checked.specs.CheckedView.{schema_value}
use Rattle.graphql_checked.proofs.Checking.{unread_refusal, unread_lasting, unread_certain, typing_refusal, typing_lasting, typing_certain, rules_refusal, rules_lasting, rules_certain, accepted_document}
use Rattle.graphql_checked.proofs.checked_schema.CheckedSchema.check.Goals as goal

pub returns-in_err-tree-clause-refused : goal.returns-in_err-tree-clause-refused
returns-in_err-tree-clause-refused c =
    let p = err_from_is_err_and c.from_residual.result c.from_residual.ensures.1 in
    rw (p.1, p.2) (unread_refusal (schema_value c.args.self.now) c.args.text.now c.in_err-tree.field-0.0 c.in_err-tree.ensures.unread)

pub returns-in_err-tree-clause-lasting : goal.returns-in_err-tree-clause-lasting
returns-in_err-tree-clause-lasting c =
    let p = err_from_is_err_and c.from_residual.result c.from_residual.ensures.1 in
    rw (p.1, p.2) (unread_lasting (schema_value c.args.self.now) c.args.text.now c.in_err-tree.field-0.0 c.in_err-tree.ensures.unread)

pub returns-in_err-tree-clause-complete : goal.returns-in_err-tree-clause-complete
returns-in_err-tree-clause-complete c =
    let p = err_from_is_err_and c.from_residual.result c.from_residual.ensures.1 in
    rw (p.1, p.2) (unread_certain (schema_value c.args.self.now) c.args.text.now c.in_err-tree.field-0.0 c.in_err-tree.ensures.unread)

pub returns-in_err-document-clause-refused : goal.returns-in_err-document-clause-refused
returns-in_err-document-clause-refused c =
    let p = err_from_is_err_and c.from_residual-in_err-document.result c.from_residual-in_err-document.ensures.1 in
    rw (p.1, p.2) (typing_refusal (schema_value c.args.self.now) c.args.text.now (document_tree c.in_ok-tree.tree) c.in_ok-tree.ensures.read c.in_err-document.field-0.0 c.in_err-document.ensures.refused)

pub returns-in_err-document-clause-lasting : goal.returns-in_err-document-clause-lasting
returns-in_err-document-clause-lasting c =
    let p = err_from_is_err_and c.from_residual-in_err-document.result c.from_residual-in_err-document.ensures.1 in
    rw (p.1, p.2) (typing_lasting (schema_value c.args.self.now) c.args.text.now (document_tree c.in_ok-tree.tree) c.in_ok-tree.ensures.read c.in_err-document.field-0.0 c.in_err-document.ensures.refused)

pub returns-in_err-document-clause-complete : goal.returns-in_err-document-clause-complete
returns-in_err-document-clause-complete c =
    let p = err_from_is_err_and c.from_residual-in_err-document.result c.from_residual-in_err-document.ensures.1 in
    rw (p.1, p.2) (typing_certain (schema_value c.args.self.now) c.args.text.now (document_tree c.in_ok-tree.tree) c.in_ok-tree.ensures.read c.in_err-document.field-0.0 c.in_err-document.ensures.refused)

pub returns-in_err-validate-clause-refused : goal.returns-in_err-validate-clause-refused
returns-in_err-validate-clause-refused c =
    let p = err_from_is_err_and c.from_residual-in_err-validate.result c.from_residual-in_err-validate.ensures.1 in
    rw (p.1, p.2) (rules_refusal (schema_value c.args.self.now) c.args.text.now (document_tree c.in_ok-tree.tree) c.in_ok-tree.ensures.read (meant_document (typed_document_tree c.in_ok-document.document))
    c.in_ok-document.ensures.typed c.in_err-validate.field-0.0 (c.in_err-validate.ensures.refused c.in_ok-document.ensures.typed.typed))

pub returns-in_err-validate-clause-lasting : goal.returns-in_err-validate-clause-lasting
returns-in_err-validate-clause-lasting c =
    let p = err_from_is_err_and c.from_residual-in_err-validate.result c.from_residual-in_err-validate.ensures.1 in
    rw (p.1, p.2) (rules_lasting (schema_value c.args.self.now) c.args.text.now (document_tree c.in_ok-tree.tree) c.in_ok-tree.ensures.read (meant_document (typed_document_tree c.in_ok-document.document))
    c.in_ok-document.ensures.typed c.in_err-validate.field-0.0 (c.in_err-validate.ensures.refused c.in_ok-document.ensures.typed.typed))

pub returns-in_err-validate-clause-complete : goal.returns-in_err-validate-clause-complete
returns-in_err-validate-clause-complete c =
    let p = err_from_is_err_and c.from_residual-in_err-validate.result c.from_residual-in_err-validate.ensures.1 in
    rw (p.1, p.2) (rules_certain (schema_value c.args.self.now) c.args.text.now (document_tree c.in_ok-tree.tree) c.in_ok-tree.ensures.read (meant_document (typed_document_tree c.in_ok-document.document))
    c.in_ok-document.ensures.typed c.in_err-validate.field-0.0 (c.in_err-validate.ensures.refused c.in_ok-document.ensures.typed.typed))

pub invariant_of-result : goal.invariant_of-result
invariant_of-result c =
    rw c.in_ok-from_str.ensures.ok (record {
      accepted = accepted_document (schema_value c.args.self.now) c.args.text.now (document_tree c.in_ok-tree.tree) c.in_ok-tree.ensures.read
          (meant_document (typed_document_tree c.in_ok-document.document)) c.in_ok-document.ensures.typed (c.in_ok-validate.ensures.valid c.in_ok-document.ensures.typed.typed);
      sources = c.in_ok-document.ensures.sources ∙ ap (with_sources []) c.in_ok-tree.ensures.sources;
      typed = c.in_ok-document.ensures.typed.typed;
      defined = c.in_ok-document.ensures.defined;
    })

pub returns-clause-accepted : goal.returns-clause-accepted
returns-clause-accepted c =
    accepted_document (schema_value c.args.self.now) c.args.text.now (document_tree c.in_ok-tree.tree) c.in_ok-tree.ensures.read
    (meant_document (typed_document_tree c.in_ok-document.document)) c.in_ok-document.ensures.typed (c.in_ok-validate.ensures.valid c.in_ok-document.ensures.typed.typed)
