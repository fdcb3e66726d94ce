use Rattle.std.proofs.Common.{◌≡◌, map, subst}
use Rattle.std.specs.Rc.{rc_str_bytes}
use Rattle.book_validity.specs.in_verdict_definitions.Judge.{AreSchemasCertain}
use Rattle.checker_calls.specs.Layouts.{prefix_of}
use Rattle.checker_calls.specs.declared.refusal.Refusal.TheVariants.{Memory}
use Rattle.checker_schemas.specs.CheckedSchemaValue.{IsCheckedSchemaOf}
use Rattle.checker_schemas.specs.Refusals.{RefusalOfSchemas}
use Rattle.graphql_checked.specs.CheckedView.{schema_value}
use Rattle.graphql_checked.specs.Verdicts.{first_terms}
use Rattle.graphql_checked.proofs.Verdicts.{certain_schemas, schemas_not_failed}
use Rattle.graphql_checked.proofs.Answering.{schemas_answer, memory_answer}
use Rattle.graphql_checked.proofs.run_texts.judge.Goals as goal

pub returns-in-Ok-clause-answer : goal.returns-in-Ok-clause-answer
returns-in-Ok-clause-answer c = c.judge_document-answer.ensures.answer (first_terms c.args.limits.nesting) (map rc_str_bytes c.args.schemas.items) (subst (λ ts. IsCheckedSchemaOf (first_terms c.args.limits.nesting) (map rc_str_bytes ts) (schema_value c.in-Ok.schema)) c.deref.ensures.value c.in-Ok.ensures.schema)

pub returns-in-Ok-clause-complete : goal.returns-in-Ok-clause-complete
returns-in-Ok-clause-complete c = c.judge_document-answer.ensures.complete (first_terms c.args.limits.nesting) (map rc_str_bytes c.args.schemas.items) (subst (λ ts. IsCheckedSchemaOf (first_terms c.args.limits.nesting) (map rc_str_bytes ts) (schema_value c.in-Ok.schema)) c.deref.ensures.value c.in-Ok.ensures.schema)

pub returns-clause-answer : goal.returns-clause-answer
returns-clause-answer c =
    schemas_answer (first_terms c.args.limits.nesting) (map rc_str_bytes c.args.schemas.items) c.args.document.now (prefix_of c.args.layout) c.in-Err.refusal _ (subst (λ ts. RefusalOfSchemas (first_terms c.args.limits.nesting) (map rc_str_bytes ts) c.in-Err.refusal) c.deref.ensures.value c.in-Err.ensures.refused) c.refusal_answer.ensures

pub returns-clause-complete : goal.returns-clause-complete
returns-clause-complete c certain =
    memory_answer c.in-Err.refusal _ (subst (λ ts. AreSchemasCertain (first_terms c.args.limits.nesting) (map rc_str_bytes ts) → c.in-Err.refusal ≡ Memory) c.deref.ensures.value c.in-Err.ensures.complete (certain_schemas (first_terms c.args.limits.nesting) (map rc_str_bytes c.args.schemas.items) c.args.document.now certain)) c.refusal_answer.ensures

pub refusal_answer-requires : goal.refusal_answer-requires
refusal_answer-requires c = schemas_not_failed (first_terms c.args.limits.nesting) (map rc_str_bytes c.args.schemas.items) c.in-Err.refusal (subst (λ ts. RefusalOfSchemas (first_terms c.args.limits.nesting) (map rc_str_bytes ts) c.in-Err.refusal) c.deref.ensures.value c.in-Err.ensures.refused)
