use Rattle.std.proofs.Common.{ap, sym, subst, ◌∙◌}
use Rattle.std.specs.Prelude.{IfOk, IfErr}
use Rattle.std.proofs.lemmas.Result.{err_from_is_err_and, IfErr-weaker}
use Rattle.verdict_definitions.specs.Judge.{AreSchemasCertain}
use Rattle.graphql_checked.specs.in_checker_schemas.CheckedSchemaValue.{IsCheckedSchemaOf}
use Rattle.graphql_checked.specs.CheckerValue.{CheckerValue}
use Rattle.graphql_checked.specs.CheckedView.{schema_value}
use Rattle.graphql_checked.specs.CheckerAnswers.{IsFinishRefusal}
use Rattle.graphql_checked.specs.in_checker_schemas.Refusals.{RefusalOfSchemas}
use Rattle.graphql_checked.specs.Verdicts.{first_terms}
use Rattle.graphql_checked.proofs.Verdicts.{texts_more, texts_all, add_refusal, finish_refusal, memory_refusal}
use Rattle.graphql_checked_c.specs.HeldTexts.{text_of}
use Rattle.graphql_checked_c.proofs.opening.schema_of.Goals as goal

pub loop-text-preserved : goal.loop-text-preserved
loop-text-preserved c =
    texts_more text_of c.args.texts.now c.loop-text.text-index (first_terms c.args.limits.nesting) c.text-item.result c.text.result.now c.loop-text.checker c.add_schema.new.self
    c.loop-text-test.true (c.text.ensures ∙ ap text_of c.text-item.is) c.loop-text.invariant c.in_ok-add_schema.ensures.added

pub returns-in_err-add_schema-clause-refused : goal.returns-in_err-add_schema-clause-refused
returns-in_err-add_schema-clause-refused c =
    let p = err_from_is_err_and c.from_residual.result c.from_residual.ensures.1 in
    let runs = ap (λ (checker : CheckerValue). checker.failed) c.loop-text.invariant in
    rw (p.1, p.2) (memory_refusal _ _ c.in_err-add_schema.field-0.0 (add_refusal c.loop-text.checker c.add_schema.new.self c.in_err-add_schema.field-0.0 runs c.in_err-add_schema.ensures.refused))

pub returns-in_err-add_schema-clause-complete : goal.returns-in_err-add_schema-clause-complete
returns-in_err-add_schema-clause-complete c =
    let p = err_from_is_err_and c.from_residual.result c.from_residual.ensures.1 in
    let runs = ap (λ (checker : CheckerValue). checker.failed) c.loop-text.invariant in
    rw (p.1, p.2) (λ certain. add_refusal c.loop-text.checker c.add_schema.new.self c.in_err-add_schema.field-0.0 runs c.in_err-add_schema.ensures.refused)

pub returns-clause-schema : goal.returns-clause-schema
returns-clause-schema c =
    let e = texts_all text_of c.args.texts.now c.loop-text.text-index (first_terms c.args.limits.nesting) c.loop-text.checker c.loop-text-test.false c.loop-text.invariant in
    subst (λ (checker : CheckerValue). IfOk c.finish.result (λ s. IsCheckedSchemaOf checker.terms checker.texts (schema_value s))) e c.finish.ensures.schema

pub returns-clause-refused : goal.returns-clause-refused
returns-clause-refused c =
    let e = texts_all text_of c.args.texts.now c.loop-text.text-index (first_terms c.args.limits.nesting) c.loop-text.checker c.loop-text-test.false c.loop-text.invariant in
    let runs = ap (λ (checker : CheckerValue). checker.failed) e in
    subst (λ (checker : CheckerValue). IfErr c.finish.result (RefusalOfSchemas checker.terms checker.texts)) e
    (IfErr-weaker c.finish.result (IsFinishRefusal c.loop-text.checker) (RefusalOfSchemas c.loop-text.checker.terms c.loop-text.checker.texts) (λ refusal h. finish_refusal c.loop-text.checker refusal runs h) c.finish.ensures.refused)

pub returns-clause-complete : goal.returns-clause-complete
returns-clause-complete c =
    let e = texts_all text_of c.args.texts.now c.loop-text.text-index (first_terms c.args.limits.nesting) c.loop-text.checker c.loop-text-test.false c.loop-text.invariant in
    let runs = ap (λ (checker : CheckerValue). checker.failed) e in
    IfErr-weaker c.finish.result _ _ (λ refusal h certain. h runs (subst (λ (checker : CheckerValue). AreSchemasCertain checker.terms checker.texts) (sym e) certain)) c.finish.ensures.complete
