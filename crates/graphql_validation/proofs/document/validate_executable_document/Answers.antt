use Rattle.std.proofs.Common.{OnOk, subst}
use Rattle.rule_fragments.specs.in_schema.declared.schema.Schema.{Schema}
use Rattle.rule_fragments.specs.in_schema.SchemaOf.{schema_tree}
use Rattle.rule_fragments.specs.in_typed_operations.DocumentView.{document_meant}
use Rattle.rule_merging.specs.in_faults.DetailsView.{diagnostics_of}
use Rattle.rule_merging.proofs.After.{begins_same, refused_so}
use Rattle.graphql_validation.specs.TellsDocument.{TypedDocumentTold, SilenceMeansValid, ValidMeansSilence}
use Rattle.graphql_validation.proofs.document.validate_executable_document.Goals as goal

pub returns-in_err-inputs-clause-begins : goal.returns-in_err-inputs-clause-begins
returns-in_err-inputs-clause-begins c = refused_so _ (begins_same (diagnostics_of c.args.list.now))

pub returns-clause-told : goal.returns-clause-told
returns-clause-told c =
    subst (λ (y : Schema). OnOk c.validate_with_possible_types.result (TypedDocumentTold (schema_tree y) (document_meant c.args.document.now) (diagnostics_of c.args.list.now) (diagnostics_of c.validate_with_possible_types.new.list)))
    c.new-schema.ensures c.validate_with_possible_types.ensures.told

pub returns-clause-silent : goal.returns-clause-silent
returns-clause-silent c =
    subst (λ (y : Schema). OnOk c.validate_with_possible_types.result (SilenceMeansValid (schema_tree y) (document_meant c.args.document.now) (diagnostics_of c.args.list.now) (diagnostics_of c.validate_with_possible_types.new.list)))
    c.new-schema.ensures c.validate_with_possible_types.ensures.silent

pub returns-clause-accepts : goal.returns-clause-accepts
returns-clause-accepts c =
    subst (λ (y : Schema). OnOk c.validate_with_possible_types.result (ValidMeansSilence (schema_tree y) (document_meant c.args.document.now) (diagnostics_of c.args.list.now) (diagnostics_of c.validate_with_possible_types.new.list)))
    c.new-schema.ensures c.validate_with_possible_types.ensures.accepts

pub returns-clause-once : goal.returns-clause-once
returns-clause-once c = c.validate_with_possible_types.ensures.once
