-- What the checker answers of schema texts that are rearranged, or cut in two ways, and of documents over equal schemas (GraphQL,
-- October 2021, sections 2.2, 3 and 5).
use Rattle.std.specs.Prelude.{◌≡◌, false, List, Result, IfOk, IfErr}
use Rattle.rule_definitions.specs.Laws.{AreEqual}
use Rattle.verdict_laws.specs.Permuting.{IsPermuted}
use Rattle.verdict_definitions.specs.Texts.{SourceText, Terms}
use Rattle.verdict_definitions.specs.Judge.{IsAccepted, IsCertain, AreSchemasCertain, IsDocumentAccepted, IsDocumentCertain}
use Rattle.verdict_definitions.specs.Out.{Layout, layout_text}
use Rattle.verdict_laws.specs.AnyNumber.{IsNumber}
use Rattle.verdict_laws.specs.Rearranged.{AreRearranged, AreCut, TextsHaveNumbers, LeaveNumber}
use Rattle.graphql_checked.specs.in_checker_schemas.CheckedSchemaValue.{CheckedSchemaValue}
use Rattle.graphql_checked.specs.CheckerValue.{CheckerValue, CheckedDocumentValue}
use Rattle.checker_calls.specs.declared.refusal.Refusal.{Refusal}
use Rattle.checker_calls.specs.declared.refusal.Refusal.TheVariants as refusal
use Rattle.checker_calls.specs.declared.verdict.Verdict.{Verdict}
use Rattle.checker_calls.specs.declared.verdict.Verdict.TheVariants.{Accepted, Refused}
use Rattle.checker_calls.specs.declared.verdict.CheckError.{CheckError}
use Rattle.verdict_laws.specs.Answers.{AnswersTexts, AnswersFinish, AnswersCheck}

-- ---- verdicts

-- both are accepted, or both are refused
abbrev pub VerdictsAgree : Verdict → Verdict → Type 0
VerdictsAgree Accepted Accepted = Unit {0}
VerdictsAgree Accepted (Refused list) = ⊥
VerdictsAgree (Refused list) Accepted = ⊥
VerdictsAgree (Refused list) (Refused other) = Unit {0}

-- The pair passes no bound: a number is left for each text, and if the pair is accepted, it is certain.
pub record PassesNoBound (terms : Terms) (schemas : List SourceText) (document : SourceText) : Type 0 where
  pub numbered : LeaveNumber terms schemas
  pub certain : IsAccepted terms schemas document → IsCertain terms schemas document

-- if neither pair passes a bound, and memory suffices for both, the verdicts are the same
abbrev pub AreAnsweredAlike : Terms → List SourceText → List SourceText → Type 0
AreAnsweredAlike terms texts others = (document : SourceText) (one other : Result Verdict CheckError) → AnswersTexts terms texts document one → AnswersTexts terms others document other
    → PassesNoBound terms texts document → PassesNoBound terms others document → IfOk one (λ v. IfOk other (λ w. VerdictsAgree v w))

abbrev pub VerdictsOfRearranged : Type 0
VerdictsOfRearranged = (terms : Terms) (texts others : List SourceText) → AreRearranged terms texts others → AreAnsweredAlike terms texts others

abbrev pub VerdictsOfCut : Type 0
VerdictsOfCut = (terms : Terms) (texts others : List SourceText) → AreCut terms texts others → AreAnsweredAlike terms texts others

-- ---- schemas

-- The schemas over which documents are judged are equal, with the same things built in and the same nesting limit; and the same definitions are
-- written, in some order.
pub record AreRearrangedSchemas (a b : CheckedSchemaValue) : Type 0 where
  pub equal : AreEqual a.schema b.schema
  pub nesting : a.nesting ≡ b.nesting
  pub written : IsPermuted a.written b.written

-- The schemas over which documents are judged are equal in the same sense, and the same text is written in every layout.
pub record AreCutSchemas (a b : CheckedSchemaValue) : Type 0 where
  pub equal : AreEqual a.schema b.schema
  pub nesting : a.nesting ≡ b.nesting
  pub written : (layout : Layout) → layout_text layout a.written ≡ layout_text layout b.written

-- Two checkers on the same terms, whose texts are related by `Same`.
pub record AreOfTexts (Same : Terms → List SourceText → List SourceText → Type 0) (one other : CheckerValue) : Type 0 where
  pub terms : one.terms ≡ other.terms
  pub texts : Same one.terms one.texts other.texts

-- Neither checker has failed, there is a number for each text, and the texts of the first are certain.
pub record FirstIsCertain (one other : CheckerValue) : Type 0 where
  pub runs : one.failed ≡ false
  pub other_runs : other.failed ≡ false
  pub numbered : TextsHaveNumbers one.terms one.texts
  pub other_numbered : TextsHaveNumbers other.terms other.texts
  pub certain : AreSchemasCertain one.terms one.texts

-- the schemas of the two checkers are related by `Same`; and if the texts of the first are certain, the only refusal of the second is out of memory
abbrev pub FinishAlike : (CheckedSchemaValue → CheckedSchemaValue → Type 0) → CheckerValue → CheckerValue → Type 0
FinishAlike Same one other = (a b : Result CheckedSchemaValue Refusal) → AnswersFinish one a → AnswersFinish other b
    → (IfOk a (λ s. IfOk b (λ t. Same s t))) × (FirstIsCertain one other → IfErr b (λ r. r ≡ refusal.Memory))

abbrev pub SchemasOfRearranged : Type 0
SchemasOfRearranged = (one other : CheckerValue) → AreOfTexts AreRearranged one other → FinishAlike AreRearrangedSchemas one other

abbrev pub SchemasOfCut : Type 0
SchemasOfCut = (one other : CheckerValue) → AreOfTexts AreCut one other → FinishAlike AreCutSchemas one other

-- ---- documents over equal schemas

-- A number is left for a document over either schema, and if the document is accepted over the second, it is certain.
pub record SecondPassesNoBound (a b : CheckedSchemaValue) (document : SourceText) : Type 0 where
  pub numbered : IsNumber a.number
  pub other_numbered : IsNumber b.number
  pub certain : IsDocumentAccepted b.schema b.nesting b.number document → IsDocumentCertain b.schema b.nesting b.number document

-- a document that is accepted over the first schema is accepted over the second, unless memory runs out
abbrev pub DocumentsOverEqual : Type 0
DocumentsOverEqual = (a b : CheckedSchemaValue) → AreEqual a.schema b.schema → a.nesting ≡ b.nesting → (document : SourceText) → SecondPassesNoBound a b document
    → (one other : Result CheckedDocumentValue Refusal) → AnswersCheck a document one → AnswersCheck b document other
    → IfOk one (λ d. IfErr other (λ r. r ≡ refusal.Memory))
