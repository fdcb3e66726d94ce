use Rattle.std.proofs.Common.{ap, ◌∙◌}
use Rattle.std.proofs.lemmas.Result.{err_from_is_err_and}
use Rattle.tree_definitions.specs.DefinitionTree.{document_tree}
use Rattle.checker_calls.specs.in_schema.BuilderOf.{builder_value}
use Rattle.checker_calls.specs.in_schema.SchemaOf.{schema_tree}
use Rattle.schema_building.specs.SourcesView.{sources_view}
use Rattle.checker_schemas.proofs.Building.{rules_refusal, judged_schema}
use Rattle.checker_schemas.proofs.finish.judge.Goals as goal

pub returns-in_err-validate-clause-refused : goal.returns-in_err-validate-clause-refused
returns-in_err-validate-clause-refused c =
    let p = err_from_is_err_and c.from_residual-in_err-validate.result c.from_residual-in_err-validate.ensures.1 in
    rw (p.1, p.2) (rules_refusal (builder_value c.args.builder) (schema_tree c.in_ok-schema.schema) c.in_ok-schema.ensures.built c.in_err-validate.field-0.0 c.in_err-validate.ensures.refused)

pub returns-clause-judged : goal.returns-clause-judged
returns-clause-judged c =
    judged_schema (builder_value c.args.builder) (schema_tree c.in_ok-schema.schema) c.in_ok-schema.ensures.built (schema_tree c.validate.new.schema) (document_tree c.in_ok-written.written)
    c.in_ok-written.ensures.definitions c.in_ok-validate.ensures.valid c.in_ok-validate.ensures.kept

pub returns-clause-sources : goal.returns-clause-sources
returns-clause-sources c = ap sources_view c.in_ok-validate.ensures.sources ∙ c.in_ok-schema.ensures.sources
