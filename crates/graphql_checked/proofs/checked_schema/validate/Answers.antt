use Rattle.std.proofs.Common.{sym, subst, refl, ◌∙◌}
use Rattle.std.specs.Option.{option_copied}
use Rattle.book_validity.specs.in_schema.SchemaOf.{schema_tree}
use Rattle.book_validity.specs.in_schema.declared.schema.Schema.{Schema}
use Rattle.book_validity.specs.in_typing.DocumentView.{meant_document}
use Rattle.document_typed_operations.specs.TypedDocument.{typed_document_tree}
use Rattle.rule_definitions.specs.Judged.{judged}
use Rattle.rule_document_definitions.specs.PlacedDocumentFaults.{IsValidDocument}
use Rattle.graphql_faults.specs.DetailsView.{diagnostics_of}
use Rattle.graphql_validation.specs.TellsDocument.{IsTypedUnder, TypedDocumentTold, SilenceMeansValid, ValidMeansSilence}
use Rattle.graphql_validation.specs.in_fragments.Possible.{ArePossibleIfFound}
use Rattle.graphql_checked.specs.CheckedView.{CheckedSchemaParts}
use Rattle.graphql_checked.specs.Checking.{RefusesRules}
use Rattle.graphql_checked.proofs.Typing.{refuses_rules}
use Rattle.graphql_checked.proofs.checked_schema.validate.Goals as goal

pub validate_with_possible_types-requires : goal.validate_with_possible_types-requires
validate_with_possible_types-requires c =
    subst (λ (x : Schema). ArePossibleIfFound (judged (schema_tree x)) (option_copied c.as_ref-possible.result)) (sym c.new-over.ensures)
    (subst (ArePossibleIfFound (judged (schema_tree c.schema.inside.schema))) (sym c.as_ref-possible.ensures.value) c.schema.invariant.1.0)

pub returns-then-not-is_empty-clause-refused : goal.returns-then-not-is_empty-clause-refused
returns-then-not-is_empty-clause-refused c =
    let document = meant_document (typed_document_tree c.args.document.now) in
    let none = diagnostics_of c.new-faults.result in
    let faults = diagnostics_of c.validate_with_possible_types.new.list in
    let told = subst (λ (x : Schema). TypedDocumentTold (schema_tree x) document none faults) c.new-over.ensures c.in_ok-validate_with_possible_types.ensures.told in
    let accepts = subst (λ (x : Schema). ValidMeansSilence (schema_tree x) document none faults) c.new-over.ensures c.in_ok-validate_with_possible_types.ensures.accepts in
    subst (λ (v : CheckedSchemaParts). IsTypedUnder (schema_tree v.schema) document → RefusesRules (schema_tree v.schema) document faults) c.schema.view_is
    (λ typed. refuses_rules (schema_tree c.schema.inside.schema) document none faults c.new-faults.ensures
    (told typed) (accepts typed)
    (λ e. let h = c.if-not-is_empty.ensures.1 e in absurd cc))

pub returns-clause-valid : goal.returns-clause-valid
returns-clause-valid c =
    let document = meant_document (typed_document_tree c.args.document.now) in
    let silent = subst (λ (x : Schema). SilenceMeansValid (schema_tree x) document (diagnostics_of c.new-faults.result) (diagnostics_of c.validate_with_possible_types.new.list)) c.new-over.ensures
    c.in_ok-validate_with_possible_types.ensures.silent in
    subst (λ (v : CheckedSchemaParts). IsTypedUnder (schema_tree v.schema) document → IsValidDocument (schema_tree v.schema) document) c.schema.view_is
    (λ typed. silent typed (c.if-not-is_empty.ensures.0 refl ∙ sym c.new-faults.ensures))
