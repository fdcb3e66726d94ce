-- What the calls of the checker answer: their contracts, clause by clause.
use Rattle.std.specs.Prelude.{◌≡◌, ◌⊎◌, ◌<◌, ℕ, false, List, [], length, take, Result, Ok, Err, OnOk, IfOk, IfErr}
use Rattle.checker_calls.specs.declared.run_fault.Outcome.{Outcome}
use Rattle.checker_calls.specs.declared.run_fault.RunFault.{RunFault}
use Rattle.checker_calls.specs.declared.run_fault.RunFault.TheVariants as run_fault
use Rattle.verdict_definitions.specs.Texts.{SourceText, Terms}
use Rattle.verdict_definitions.specs.Judge.{AreSchemasCertain, IsDocumentCertain, IsCertain}
use Rattle.verdict_definitions.specs.Out.{Layout}
use Rattle.verdict_definitions.specs.Answer.{Answer}
use Rattle.graphql_checked.specs.in_checker_schemas.CheckedSchemaValue.{CheckedSchemaValue, IsCheckedSchemaOf}
use Rattle.graphql_checked.specs.CheckerValue.{CheckerValue, CheckedDocumentValue, IsCheckedDocumentOf}
use Rattle.graphql_checked.specs.CheckerAnswers.{IsFinishRefusal}
use Rattle.graphql_checked.specs.DocumentRefusals.{RefusalOfDocument}
use Rattle.graphql_checked.specs.Run.{BytesOf, IsAnswerToCertain}
use Rattle.graphql_checked.specs.Verdicts.{IsVerdict}
use Rattle.checker_calls.specs.declared.refusal.Refusal.{Refusal}
use Rattle.checker_calls.specs.declared.refusal.Refusal.TheVariants as refusal
use Rattle.checker_calls.specs.declared.verdict.Verdict.{Verdict}
use Rattle.checker_calls.specs.declared.verdict.Verdict.TheVariants.{Accepted}
use Rattle.checker_calls.specs.declared.verdict.CheckError.{CheckError}
use Rattle.checker_calls.specs.declared.verdict.CheckError.TheVariants.{Memory}

-- `check_texts`, of these texts on these terms
pub record AnswersTexts (terms : Terms) (schemas : List SourceText) (document : SourceText) (answer : Result Verdict CheckError) : Type 0 where
  pub verdict : IfOk answer (IsVerdict terms schemas document)
  pub complete : IsCertain terms schemas document → (answer ≡ Ok Accepted) ⊎ (answer ≡ Err Memory)

-- `Checker::finish`, with the checked schema as contracts see it
pub record AnswersFinish (checker : CheckerValue) (answer : Result CheckedSchemaValue Refusal) : Type 0 where
  pub schema : IfOk answer (IsCheckedSchemaOf checker.terms checker.texts)
  pub running : OnOk answer (checker.failed ≡ false)
  pub refused : IfErr answer (IsFinishRefusal checker)
  pub complete : IfErr answer (λ r. checker.failed ≡ false → AreSchemasCertain checker.terms checker.texts → r ≡ refusal.Memory)

-- `CheckedSchema::check`, with the checked document as contracts see it
pub record AnswersCheck (over : CheckedSchemaValue) (given : SourceText) (answer : Result CheckedDocumentValue Refusal) : Type 0 where
  pub schema : IfOk answer (λ d. d.schema ≡ over)
  pub text : IfOk answer (λ d. d.text ≡ given)
  pub accepted : IfOk answer (λ d. IsCheckedDocumentOf over given d.document)
  pub refused : IfErr answer (RefusalOfDocument over given)
  pub complete : IfErr answer (λ r. IsDocumentCertain over.schema over.nesting over.number given → r ≡ refusal.Memory)

-- a run whose devices tell their bytes: the texts of its readers, and what its writer took
pub record RunValue : Type 0 where
  pub texts : List SourceText
  pub text : SourceText
  pub put : List ℕ

-- what was put out when a run ends in a fault: after `Writer(n)` the first `n` bytes of an answer that has more, else nothing
abbrev pub IsPutAt : Terms → Layout → RunValue → RunFault → Type 0
IsPutAt terms layout run (run_fault.Writer count) = (bytes : List ℕ) × (Answer terms layout run.texts run.text bytes × ((count < length bytes) × (run.put ≡ take count bytes)))
IsPutAt terms layout run _ = run.put ≡ []

-- `run`, under this layout, of devices that tell their bytes: what its contract says of texts and bytes
pub record AnswersRun (terms : Terms) (layout : Layout) (run : RunValue) (answer : Result Outcome RunFault) : Type 0 where
  pub answers : IfOk answer (λ outcome. BytesOf terms layout outcome run.texts run.text run.put)
  pub fault : IfErr answer (IsPutAt terms layout run)
  pub complete : IsCertain terms run.texts run.text → IsAnswerToCertain answer
