use Rattle.std.proofs.Common.{sym, subst}
use Rattle.tree_definitions.specs.DefinitionTree.{document_tree}
use Rattle.std.specs.Option.{option_copied}
use Rattle.book_validity.specs.in_schema.SchemaOf.{schema_tree}
use Rattle.book_validity.specs.in_schema.declared.schema.Schema.{Schema}
use Rattle.book_validity.specs.in_typing.DocumentView.{meant_document}
use Rattle.document_typed_operations.specs.TypedDocument.{typed_document_tree}
use Rattle.rule_definitions.specs.Judged.{judged}
use Rattle.graphql_faults.specs.DetailsView.{diagnostics_of}
use Rattle.graphql_validation.specs.TellsLasting.{TypedLastingTold}
use Rattle.graphql_validation.specs.in_fragments.Possible.{ArePossibleIfFound}
use Rattle.graphql_checked.specs.CheckedView.{CheckedSchemaParts}
use Rattle.graphql_checked.specs.Checking.{TypesDocument, RefusesTyping}
use Rattle.graphql_checked.proofs.Typing.{refuses_typing}
use Rattle.graphql_checked.proofs.checked_schema.typed.Goals as goal

pub tell_lasting_faults-requires : goal.tell_lasting_faults-requires
tell_lasting_faults-requires c =
    subst (λ (x : Schema). ArePossibleIfFound (judged (schema_tree x)) (option_copied c.as_ref-possible.result)) (sym c.new-over.ensures)
    (subst (ArePossibleIfFound (judged (schema_tree c.schema.inside.schema))) (sym c.as_ref-possible.ensures.value) c.schema.invariant.1.0)

pub returns-then-not-is_empty-clause-refused : goal.returns-then-not-is_empty-clause-refused
returns-then-not-is_empty-clause-refused c =
    let tree = document_tree c.args.tree.now in
    let document = meant_document (typed_document_tree c.in_ok-document.document) in
    let found = diagnostics_of c.in_ok-document.faults in
    let faults = diagnostics_of c.tell_lasting_faults.new.list in
    subst (λ (v : CheckedSchemaParts). TypesDocument (schema_tree v.schema) tree document found → RefusesTyping (schema_tree v.schema) tree faults) c.schema.view_is
    (λ types. let told = subst (λ (x : Schema). TypedLastingTold (schema_tree x) document found faults) c.new-over.ensures c.in_ok-tell_lasting_faults.ensures.told types.typed in
    refuses_typing (schema_tree c.schema.inside.schema) tree document found faults types (λ e. let h = c.if-not-is_empty.ensures.1 e in absurd cc) told.0 told.1.0 told.1.1.0 told.1.1.1)
    c.in_ok-document.ensures.types
