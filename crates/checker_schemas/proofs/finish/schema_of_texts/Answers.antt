use Rattle.std.proofs.Common.{◌≡◌, [], map, refl, subst, ◌∙◌}
use Rattle.std.proofs.lemmas.Result.{err_from_is_err_and}
use Rattle.tree_definitions.specs.DefinitionTree.{document_tree}
use Rattle.checker_calls.specs.in_schema.BuilderOf.{builder_value}
use Rattle.checker_calls.specs.in_schema.SchemaOf.{schema_tree}
use Rattle.schema_building.specs.SourcesView.{sources_view}
use Rattle.graphql_rules.specs.in_faults.DetailsView.{diagnostics_of}
use Rattle.checker_schemas.specs.Finishing.{IsFilled, RefusalOfNumbers}
use Rattle.checker_calls.specs.TextsView.{terms_of, texts_of, trees_of, all_sources}
use Rattle.checker_schemas.proofs.Finishing.{unread_refusal, are_all_read, number_after, numbers_refusal, builder_refusal, accepted}
use Rattle.checker_schemas.proofs.finish.schema_of_texts.Goals as goal

pub returns-then-not-is_empty-clause-refused : goal.returns-then-not-is_empty-clause-refused
returns-then-not-is_empty-clause-refused c =
    unread_refusal (terms_of c.args.texts) (texts_of c.args.texts) _ (trees_of c.args.texts) (all_sources c.args.texts.documents.items) (diagnostics_of c.args.texts.unread) c.requires (λ e. let h = c.if-not-is_empty.ensures.1 e in absurd cc)

pub returns-in_err-builder-clause-refused : goal.returns-in_err-builder-clause-refused
returns-in_err-builder-clause-refused c =
    let s = c.args.texts in
    let silent : diagnostics_of s.unread ≡ [] = c.if-not-is_empty.ensures.0 refl in
    let p = err_from_is_err_and c.from_residual.result c.from_residual.ensures.1 in
    rw (p.1, p.2) (numbers_refusal (terms_of s) (texts_of s) (trees_of s) (are_all_read (terms_of s) (texts_of s) s.files (trees_of s) (all_sources s.documents.items) (diagnostics_of s.unread) c.requires silent) (c.requires.kept silent)
    c.in_err-builder.field-0.0 (subst (λ ds. RefusalOfNumbers s.extensions (map document_tree ds) c.in_err-builder.field-0.0) c.deref.ensures.value c.in_err-builder.ensures.refused))

pub returns-in_err-schema-clause-refused : goal.returns-in_err-schema-clause-refused
returns-in_err-schema-clause-refused c =
    let s = c.args.texts in
    let silent : diagnostics_of s.unread ≡ [] = c.if-not-is_empty.ensures.0 refl in
    let b = builder_value c.in_ok-builder.builder in
    let filled : IsFilled s.extensions (trees_of s) (all_sources s.documents.items) b = subst (λ ds. IsFilled s.extensions (map document_tree ds) (all_sources ds) b) c.deref.ensures.value c.in_ok-builder.ensures.filled in
    let p = err_from_is_err_and c.from_residual-in_err-schema.result c.from_residual-in_err-schema.ensures.1 in
    rw (p.1, p.2) (builder_refusal (terms_of s) (texts_of s) (trees_of s) (are_all_read (terms_of s) (texts_of s) s.files (trees_of s) (all_sources s.documents.items) (diagnostics_of s.unread) c.requires silent) (c.requires.kept silent)
    (all_sources s.documents.items) b filled c.in_err-schema.field-0.0 c.in_err-schema.ensures.refused)

pub returns-clause-schema : goal.returns-clause-schema
returns-clause-schema c =
    let s = c.args.texts in
    let silent : diagnostics_of s.unread ≡ [] = c.if-not-is_empty.ensures.0 refl in
    let b = builder_value c.in_ok-builder.builder in
    let filled : IsFilled s.extensions (trees_of s) (all_sources s.documents.items) b = subst (λ ds. IsFilled s.extensions (map document_tree ds) (all_sources ds) b) c.deref.ensures.value c.in_ok-builder.ensures.filled in
    accepted (terms_of s) (texts_of s) (trees_of s) (are_all_read (terms_of s) (texts_of s) s.files (trees_of s) (all_sources s.documents.items) (diagnostics_of s.unread) c.requires silent) (c.requires.kept silent)
    (all_sources s.documents.items) b filled c.next_number.result (schema_tree c.in_ok-schema.schema) (sources_view c.in_ok-schema.schema.sources) (document_tree c.in_ok-schema.written)
    (c.next_number.ensures.is ∙ number_after (terms_of s) (texts_of s) s.files (trees_of s) (all_sources s.documents.items) (diagnostics_of s.unread) c.requires silent) c.in_ok-schema.ensures.judged (c.requires.sources silent) c.in_ok-schema.ensures.sources

pub judge-requires : goal.judge-requires
judge-requires c = c.in_ok-builder.ensures.filled.running
