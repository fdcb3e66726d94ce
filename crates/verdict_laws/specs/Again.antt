-- The road back, by what the checker answers: what is written of an accepted pair, under any plain layout, is equal when it is checked again, and is
-- written unchanged (GraphQL, October 2021, sections 2, 3 and 5).
use Rattle.std.specs.Prelude.{◌≡◌, ◌≢◌, ◌↔◌, ◌⊎◌, false, ℕ, List, [], ◌∷◌, Result, Ok, Err, IfOk, IfErr}
use Rattle.graphql_names.specs.Placed.{Place}
use Rattle.spec_document.specs.MeantTree.{MeantDocument}
use Rattle.spec_document.specs.Unplaced.{unplaced_document}
use Rattle.rule_definitions.specs.Laws.{AreEqual}
use Rattle.verdict_definitions.specs.Texts.{SourceText, Terms}
use Rattle.verdict_definitions.specs.Judge.{AreSchemasCertain, IsDocumentCertain, IsCertain}
use Rattle.verdict_definitions.specs.Out.{Layout, layout_text, as_lines}
use Rattle.verdict_definitions.specs.Answer.{WritesDocument}
use Rattle.verdict_laws.specs.AnyNumber.{IsNumber}
use Rattle.verdict_laws.specs.RoadBack.{IsPlainLayout}
use Rattle.checker_calls.specs.declared.run_fault.Outcome.{Outcome}
use Rattle.checker_calls.specs.declared.run_fault.Outcome.TheVariants as outcome
use Rattle.checker_calls.specs.declared.run_fault.RunFault.{RunFault}
use Rattle.graphql_checked.specs.in_checker_schemas.CheckedSchemaValue.{CheckedSchemaValue, IsCheckedSchemaOf}
use Rattle.graphql_checked.specs.CheckerValue.{CheckerValue, CheckedDocumentValue, IsCheckedDocumentOf}
use Rattle.graphql_checked.specs.Run.{IsAnswerToCertain}
use Rattle.graphql_checked.specs.Verdicts.{first_terms}
use Rattle.checker_calls.specs.declared.refusal.Refusal.{Refusal}
use Rattle.checker_calls.specs.declared.refusal.Refusal.TheVariants as refusal
use Rattle.checker_calls.specs.declared.verdict.Verdict.{Verdict}
use Rattle.checker_calls.specs.declared.verdict.Verdict.TheVariants.{Accepted}
use Rattle.checker_calls.specs.declared.verdict.CheckError.{CheckError}
use Rattle.checker_calls.specs.declared.verdict.CheckError.TheVariants.{Memory}
use Rattle.verdict_laws.specs.Answers.{AnswersTexts, AnswersFinish, AnswersCheck, RunValue, AnswersRun}

-- ---- the schema

-- The two schemas are equal, with the same things built in and the same nesting limit, and are written the same in every layout.
pub record SchemasAreSame (first again : CheckedSchemaValue) : Type 0 where
  pub equal : AreEqual first.schema again.schema
  pub nesting : first.nesting ≡ again.nesting
  pub written : (layout : Layout) → layout_text layout again.written ≡ layout_text layout first.written

-- The schema is that of these texts, on these terms; no text has the number of what is built in; and the layout is plain.
pub record IsWrittenPlain (terms : Terms) (layout : Layout) (first : CheckedSchemaValue) (schemas : List SourceText) : Type 0 where
  pub is : IsCheckedSchemaOf terms schemas first
  pub elsewhere : terms.first_text ≢ 0
  pub plain : IsPlainLayout layout

-- a checker on these terms that was given one text: what is written of the schema
abbrev pub checker_of_written : Terms → Layout → CheckedSchemaValue → CheckerValue
checker_of_written terms layout first = record { terms = terms; texts = layout_text layout first.written ∷ []; failed = false }

-- `finish` of that checker answers the same schema, if it answers one; and if the texts are certain, its only refusal is out of memory
abbrev pub SchemaAgain : Type 0
SchemaAgain = (terms : Terms) (layout : Layout) (first : CheckedSchemaValue) (schemas : List SourceText) → IsWrittenPlain terms layout first schemas
    → (answer : Result CheckedSchemaValue Refusal) → AnswersFinish (checker_of_written terms layout first) answer
    → (IfOk answer (SchemasAreSame first)) × (AreSchemasCertain terms schemas → IfErr answer (λ r. r ≡ refusal.Memory))

-- ---- the document

-- `text` is what is written of the document that was checked over the schema as the text `document`
abbrev pub IsTextOfWritten : Layout → CheckedSchemaValue → SourceText → SourceText → Type 0
IsTextOfWritten layout schema document text = WritesDocument layout schema.number document text

-- The two documents are equal apart from places, and in every layout the same bytes are written of their texts.
pub record DocumentsAreSame (schema : CheckedSchemaValue) (document : SourceText) (first : MeantDocument Place) (other : CheckedSchemaValue) (text : SourceText) (again : MeantDocument Place) : Type 0 where
  pub equal : unplaced_document first ≡ unplaced_document again
  pub written : (layout : Layout) (bytes : List ℕ) → WritesDocument layout other.number text bytes ↔ WritesDocument layout schema.number document bytes

-- The document of this text is accepted over the schema; the other schema is equal, with the same things built in and the same nesting limit, and a
-- number is left for a document over it; and `text` is what is written of the document, under a plain layout.
pub record IsWrittenPlainOver (layout : Layout) (schema : CheckedSchemaValue) (document : SourceText) (first : MeantDocument Place) (other : CheckedSchemaValue) (text : SourceText) : Type 0 where
  pub is : IsCheckedDocumentOf schema document first
  pub equal : AreEqual schema.schema other.schema
  pub nesting : schema.nesting ≡ other.nesting
  pub numbered : IsNumber other.number
  pub plain : IsPlainLayout layout
  pub written : IsTextOfWritten layout schema document text

-- checked over the other schema, the written text is the same document; and if the first document is certain, the only refusal is out of memory
abbrev pub DocumentAgain : Type 0
DocumentAgain = (layout : Layout) (schema : CheckedSchemaValue) (document : SourceText) (first : MeantDocument Place) (other : CheckedSchemaValue) (text : SourceText)
    → IsWrittenPlainOver layout schema document first other text → (answer : Result CheckedDocumentValue Refusal) → AnswersCheck other text answer
    → (IfOk answer (λ d. DocumentsAreSame schema document first other text d.document)) × (IsDocumentCertain schema.schema schema.nesting schema.number document → IfErr answer (λ r. r ≡ refusal.Memory))

-- ---- the pair

-- This is the schema of these texts, on these terms; the pair of them and the document is certain; no text has the number of what is built in.
pub record IsCertainPair (terms : Terms) (schema : CheckedSchemaValue) (document : SourceText) (schemas : List SourceText) : Type 0 where
  pub is : IsCheckedSchemaOf terms schemas schema
  pub certain : IsCertain terms schemas document
  pub elsewhere : terms.first_text ≢ 0

-- what is written of the pair, each text under a plain layout of its own, is accepted, unless memory runs out
abbrev pub PairAgain : Type 0
PairAgain = (terms : Terms) (schema : CheckedSchemaValue) (document : SourceText) (schemas : List SourceText) → IsCertainPair terms schema document schemas
    → (layout next : Layout) → IsPlainLayout layout → IsPlainLayout next → (text : SourceText) → IsTextOfWritten next schema document text
    → (answer : Result Verdict CheckError) → AnswersTexts terms (layout_text layout schema.written ∷ []) text answer → (answer ≡ Ok Accepted) ⊎ (answer ≡ Err Memory)

-- ---- what is put out

-- A run accepted its texts, under a plain layout; and the readers of another run have the two texts that the first run put out.
pub record ReadsWhatWasPut (nesting : ℕ) (layout : Layout) (first again : RunValue) : Type 0 where
  pub answers : AnswersRun (first_terms nesting) layout first (Ok outcome.Accepted)
  pub plain : IsPlainLayout layout
  pub schema : again.texts ≡ as_lines layout answers.answers.1.written_schema ∷ []
  pub document : again.text ≡ as_lines layout answers.answers.1.written_document

-- under the same limit and layout the other run puts out the same bytes, if it accepts; and if the texts of the first run are certain, the other
-- accepts, unless memory runs out or a device fails
abbrev pub RunAgain : Type 0
RunAgain = (nesting : ℕ) (layout : Layout) (first again : RunValue) → ReadsWhatWasPut nesting layout first again
    → (answer : Result Outcome RunFault) → AnswersRun (first_terms nesting) layout again answer
    → (answer ≡ Ok outcome.Accepted → again.put ≡ first.put) × (IsCertain (first_terms nesting) first.texts first.text → IsAnswerToCertain answer)
