use Rattle.std.proofs.Common.{map}
use Rattle.graphql_checked.specs.CheckedView.{schema_value}
use Rattle.graphql_checked.specs.Verdicts.{first_terms}
use Rattle.graphql_checked.proofs.Verdicts.{yes_pair, certain_document, certain_schemas, document_verdict, schemas_verdict, memory_verdict, schemas_not_failed, document_not_failed}
use Rattle.graphql_checked.proofs.verdict.check_texts.Goals as goal

pub returns-in-Err-clause-verdict : goal.returns-in-Err-clause-verdict
returns-in-Err-clause-verdict c =
    rw c.verdict_of.ensures (schemas_verdict (first_terms c.args.limits.nesting) (map (λ t. t.now) c.args.schemas.now) c.args.document.now c.in-Err.refusal c.in-Err.ensures.refused)

pub returns-in-Err-clause-complete : goal.returns-in-Err-clause-complete
returns-in-Err-clause-complete c certain =
    memory_verdict c.in-Err.refusal _ c.verdict_of.ensures (c.in-Err.ensures.complete (certain_schemas (first_terms c.args.limits.nesting) (map (λ t. t.now) c.args.schemas.now) c.args.document.now certain))

pub returns-in-Ok-check-clause-verdict : goal.returns-in-Ok-check-clause-verdict
returns-in-Ok-check-clause-verdict c =
    yes_pair (first_terms c.args.limits.nesting) (map (λ t. t.now) c.args.schemas.now) c.args.document.now (schema_value c.in-Ok.schema) c.in-Ok.ensures.schema _ c.in-Ok-check.ensures.accepted

pub returns-clause-verdict : goal.returns-clause-verdict
returns-clause-verdict c =
    rw c.verdict_of-in-Err-check.ensures
    (document_verdict (first_terms c.args.limits.nesting) (map (λ t. t.now) c.args.schemas.now) c.args.document.now (schema_value c.in-Ok.schema) c.in-Ok.ensures.schema c.in-Err-check.refusal c.in-Err-check.ensures.refused)

pub returns-clause-complete : goal.returns-clause-complete
returns-clause-complete c certain =
    memory_verdict c.in-Err-check.refusal _ c.verdict_of-in-Err-check.ensures
    (c.in-Err-check.ensures.complete (certain_document (first_terms c.args.limits.nesting) (map (λ t. t.now) c.args.schemas.now) c.args.document.now (schema_value c.in-Ok.schema) c.in-Ok.ensures.schema certain))

pub verdict_of-requires : goal.verdict_of-requires
verdict_of-requires c = schemas_not_failed (first_terms c.args.limits.nesting) (map (λ t. t.now) c.args.schemas.now) c.in-Err.refusal c.in-Err.ensures.refused

pub verdict_of-requires-in-Err-check : goal.verdict_of-requires-in-Err-check
verdict_of-requires-in-Err-check c = document_not_failed (schema_value c.in-Ok.schema) c.args.document.now c.in-Err-check.refusal c.in-Err-check.ensures.refused
