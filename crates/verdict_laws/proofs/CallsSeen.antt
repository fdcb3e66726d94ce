-- Lemmas on what contracts see of what the calls answer.
use Rattle.std.proofs.Common.{◌≡◌, ◌++◌, ◌<◌, ℕ, false, List, [], length, take, Option, None, Some, Result, Ok, Err, sym, ap, subst, ◌∙◌, append-nil}
use Rattle.std.proofs.lemmas.List.{append_cancel_left}
use Rattle.std.specs.Prelude.{OnOk, IfOk, IfErr}
use Rattle.std.specs.Io.KnownBytes.{Appends}
use Rattle.graphql_names.specs.Device.{device_inner}
use Rattle.graphql_names.specs.declared.device.Device.{Device}
use Rattle.checker_calls.specs.declared.run_fault.Outcome.{Outcome}
use Rattle.checker_calls.specs.declared.run_fault.RunFault.{RunFault}
use Rattle.checker_calls.specs.declared.run_fault.RunFault.TheVariants as run_fault
use Rattle.verdict_definitions.specs.Texts.{SourceText, Terms}
use Rattle.verdict_definitions.specs.Judge.{AreSchemasCertain, IsDocumentCertain}
use Rattle.verdict_definitions.specs.Out.{Layout}
use Rattle.verdict_definitions.specs.Answer.{Answer}
use Rattle.graphql_checked.specs.in_checker_schemas.CheckedSchemaValue.{CheckedSchemaValue, IsCheckedSchemaOf}
use Rattle.graphql_checked.specs.CheckerValue.{CheckerValue, IsCheckedDocumentOf}
use Rattle.graphql_checked.specs.CheckedView.{CheckedSchemaParts, CheckedDocumentParts, schema_value, document_value}
use Rattle.graphql_checked.specs.CheckerAnswers.{IsFinishRefusal}
use Rattle.graphql_checked.specs.DocumentRefusals.{RefusalOfDocument}
use Rattle.graphql_checked.specs.Run.{BytesOf, TellCertain, IsAnswerToCertain, WritesAnswer, RunFaultIsDue}
use Rattle.graphql_checked.proofs.Completing.{text_told, texts_told}
use Rattle.checker_calls.specs.declared.refusal.Refusal.{Refusal}
use Rattle.checker_calls.specs.declared.refusal.Refusal.TheVariants as refusal
use Rattle.verdict_laws.specs.Answers.{AnswersFinish, AnswersCheck, RunValue, IsPutAt, AnswersRun}
use Rattle.verdict_laws.specs.Seen.{seen_schema, seen_document, IsSeenRun}

pub finish_answers : (checker : CheckerValue) (answer : Result CheckedSchemaParts Refusal) → IfOk answer (λ s. IsCheckedSchemaOf checker.terms checker.texts (schema_value s))
    → OnOk answer (checker.failed ≡ false) → IfErr answer (IsFinishRefusal checker) → IfErr answer (λ r. checker.failed ≡ false → AreSchemasCertain checker.terms checker.texts → r ≡ refusal.Memory)
    → AnswersFinish checker (seen_schema answer)
finish_answers checker (Ok s) schema running refused complete = record { schema = schema; running = running; refused = tt; complete = tt }
finish_answers checker (Err r) schema running refused complete = record { schema = tt; running = tt; refused = refused; complete = complete }

pub check_answers : (schema : CheckedSchemaParts) (text : SourceText) (answer : Result CheckedDocumentParts Refusal) → IfOk answer (λ d. d.schema ≡ schema) → IfOk answer (λ d. d.text ≡ text)
    → IfOk answer (λ d. IsCheckedDocumentOf (schema_value schema) text (document_value d).document) → IfErr answer (RefusalOfDocument (schema_value schema) text)
    → IfErr answer (λ r. IsDocumentCertain (schema_value schema).schema schema.nesting schema.number text → r ≡ refusal.Memory) → AnswersCheck (schema_value schema) text (seen_document answer)
check_answers schema text (Ok d) over of accepted refused complete = record { schema = ap schema_value over; text = of; accepted = accepted; refused = tt; complete = tt }
check_answers schema text (Err r) over of accepted refused complete = record { schema = tt; text = tt; accepted = tt; refused = refused; complete = complete }

-- ---- a run

in_some : {A : Type 0} → A → Option A → A
in_some d None = d
in_some d (Some x) = x

-- where a writer tells what it holds, what it took comes after what it held
put_after : (old new : Option (List ℕ)) (held put bytes : List ℕ) → old ≡ Some held → new ≡ Some (held ++ put) → Appends old new bytes → bytes ≡ put
put_after old new held put bytes before after appends =
    let both : Appends (Some held) (Some (held ++ put)) bytes = subst (λ (p : Option (List ℕ) × Option (List ℕ)). Appends p.0 p.1 bytes) (λ i. (before i, after i)) appends in
    append_cancel_left held bytes put (sym both)

-- where it holds what it held, it took nothing
put_none : (old new : Option (List ℕ)) (held put : List ℕ) → old ≡ Some held → new ≡ Some (held ++ put) → new ≡ old → put ≡ []
unfolding in_some
put_none old new held put before after same = append_cancel_left held put [] (ap (in_some []) (sym after ∙ same ∙ before) ∙ sym (append-nil held))

module _ {R D W : Type 0} (of_schema : R → Option (List ℕ)) (of_document : D → Option (List ℕ)) (contents : W → Option (List ℕ)) (layout : Layout) (terms : Terms)
    (schemas schemas' : List (Device R)) (document document' : Device D) (old new : Device W) (run : RunValue) (seen : IsSeenRun of_schema of_document contents schemas document old new run) where
  taken : (bytes : List ℕ) → Appends (contents (device_inner old)) (contents (device_inner new)) bytes → bytes ≡ run.put
  taken bytes = put_after (contents (device_inner old)) (contents (device_inner new)) seen.held run.put bytes seen.before seen.after

  untouched : new ≡ old → run.put ≡ []
  untouched same = put_none (contents (device_inner old)) (contents (device_inner new)) seen.held run.put seen.before seen.after (ap (λ d. contents (device_inner d)) same)

  outcome_told : (outcome : Outcome) → WritesAnswer of_schema of_document contents layout terms schemas document old new outcome → BytesOf terms layout outcome run.texts run.text run.put
  outcome_told outcome w =
      let texts = texts_told of_schema schemas w.texts run.texts w.schemas_are seen.schemas_tell in
      let text = text_told of_document document w.text run.text w.document_is seen.document_tells in
      subst (λ (p : List SourceText × (SourceText × List ℕ)). BytesOf terms layout outcome p.0 p.1.0 p.1.1) (λ i. (texts i, (text i, taken w.bytes w.put i))) w.answers

  fault_told : (f : RunFault) → RunFaultIsDue of_schema of_document contents layout terms schemas schemas' document document' old new f → IsPutAt terms layout run f
  fault_told run_fault.Memory due = untouched due
  fault_told (run_fault.Reader number) due = untouched due.1
  fault_told (run_fault.NotUtf8 number) due = untouched due.1
  fault_told (run_fault.Writer count) (failed, read, w) =
      let texts = texts_told of_schema schemas w.texts run.texts w.schemas_are seen.schemas_tell in
      let text = text_told of_document document w.text run.text w.document_is seen.document_tells in
      (w.bytes, (subst (λ (p : List SourceText × SourceText). Answer terms layout p.0 p.1 w.bytes) (λ i. (texts i, text i)) w.answers.0, (w.answers.1, sym (taken (take count w.bytes) w.put))))

  pub run_answers : (answer : Result Outcome RunFault) → IfOk answer (WritesAnswer of_schema of_document contents layout terms schemas document old new)
      → IfErr answer (RunFaultIsDue of_schema of_document contents layout terms schemas schemas' document document' old new)
      → (TellCertain of_schema of_document terms schemas document → IsAnswerToCertain answer) → AnswersRun terms layout run answer
  run_answers (Ok outcome) answers due complete = record {
    answers = outcome_told outcome answers;
    fault = tt;
    complete = λ certain. complete (record { texts = run.texts; text = run.text; schemas_tell = seen.schemas_tell; document_tells = seen.document_tells; certain = certain });
  }
  run_answers (Err f) answers due complete = record {
    answers = tt;
    fault = fault_told f due;
    complete = λ certain. complete (record { texts = run.texts; text = run.text; schemas_tell = seen.schemas_tell; document_tells = seen.document_tells; certain = certain });
  }
