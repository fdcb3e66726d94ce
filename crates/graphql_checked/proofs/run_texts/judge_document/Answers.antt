use Rattle.std.proofs.Common.{subst}
use Rattle.checker_calls.specs.Layouts.{prefix_of}
use Rattle.checker_calls.specs.Parts.{parts_bytes}
use Rattle.graphql_checked.specs.CheckedView.{CheckedSchemaParts, schema_value, document_value}
use Rattle.graphql_checked.specs.Run.{IsWrittenAnswer}
use Rattle.graphql_checked.proofs.Verdicts.{certain_document, document_not_failed}
use Rattle.graphql_checked.proofs.Answering.{accepted_bytes, document_answer, memory_answer}
use Rattle.graphql_checked.proofs.run_texts.judge_document.Goals as goal

pub returns-in_ok-bytes-in-Ok-clause-answer : goal.returns-in_ok-bytes-in-Ok-clause-answer
returns-in_ok-bytes-in-Ok-clause-answer c terms schemas is =
    let parts = c.in_ok-bytes-in-Ok.ensures in
    let bytes = parts_bytes c.in_ok-bytes-in-Ok.bytes in (
      parts.0,
      accepted_bytes terms schemas c.args.document.now (schema_value c.args.schema.now) is (document_value c.in-Ok.checked).document c.in-Ok.ensures.accepted (prefix_of c.args.layout) bytes
          (subst (λ text. IsWrittenAnswer (prefix_of c.args.layout) (schema_value c.args.schema.now) text bytes) c.in-Ok.ensures.text
          (subst (λ (s : CheckedSchemaParts). IsWrittenAnswer (prefix_of c.args.layout) (schema_value s) c.in-Ok.checked.text bytes) c.in-Ok.ensures.schema parts.1)),
    )

pub returns-in-Err-clause-answer : goal.returns-in-Err-clause-answer
returns-in-Err-clause-answer c terms schemas is =
    document_answer terms schemas c.args.document.now (schema_value c.args.schema.now) is (prefix_of c.args.layout) c.in-Err.refusal _ c.in-Err.ensures.refused c.refusal_answer.ensures

pub returns-in-Err-clause-complete : goal.returns-in-Err-clause-complete
returns-in-Err-clause-complete c terms schemas is certain =
    memory_answer c.in-Err.refusal _ (c.in-Err.ensures.complete (certain_document terms schemas c.args.document.now (schema_value c.args.schema.now) is certain)) c.refusal_answer.ensures

pub refusal_answer-requires : goal.refusal_answer-requires
refusal_answer-requires c = document_not_failed (schema_value c.args.schema.now) c.args.document.now c.in-Err.refusal c.in-Err.ensures.refused
