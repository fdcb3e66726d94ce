-- Lemmas on answers over texts that are accepted alike, and over schemas that are equal.
use Rattle.std.proofs.Common.{◌≡◌, ◌↔◌, ◌⊎◌, List, Result, Ok, Err, inl, inr, sym, ap, subst, ◌∙◌}
use Rattle.std.specs.Prelude.{IfOk, IfErr}
use Rattle.rule_definitions.specs.Laws.{AreEqual}
use Rattle.verdict_laws.specs.Permuting.{IsPermuted}
use Rattle.verdict_definitions.specs.Texts.{SourceText, Terms}
use Rattle.verdict_definitions.specs.Meaning.{document_schema}
use Rattle.verdict_definitions.specs.Judge.{AreSchemasCertain, IsAccepted, IsCertain, IsDocumentAccepted}
use Rattle.verdict_definitions.specs.Out.{Out, layout_text}
use Rattle.verdict_laws.specs.Rearranged.{AreRearranged, AreCut, TextsHaveNumbers, AreAcceptedAlike}
use Rattle.verdict_laws.proofs.AnyNumber.{equal_accept}
use Rattle.verdict_laws.proofs.Rearranged.{all_one, rearranging, cutting}
use Rattle.graphql_checked.specs.in_checker_schemas.CheckedSchemaValue.{CheckedSchemaValue, IsCheckedSchemaOf}
use Rattle.graphql_checked.specs.CheckerValue.{CheckerValue}
use Rattle.graphql_checked.proofs.in_book_validity.AcceptedFacts.{accepted_by_the_book}
use Rattle.graphql_checked.specs.Verdicts.{IsVerdict}
use Rattle.graphql_faults.specs.declared.diagnostic_list.DiagnosticList.{DiagnosticList}
use Rattle.checker_calls.specs.declared.refusal.Refusal.{Refusal}
use Rattle.checker_calls.specs.declared.refusal.Refusal.TheVariants as refusal
use Rattle.checker_calls.specs.declared.verdict.Verdict.{Verdict}
use Rattle.checker_calls.specs.declared.verdict.Verdict.TheVariants.{Accepted, Refused}
use Rattle.checker_calls.specs.declared.verdict.CheckError.{CheckError}
use Rattle.checker_calls.specs.declared.verdict.CheckError.TheVariants.{Memory}
use Rattle.verdict_laws.specs.Answers.{AnswersFinish}
use Rattle.verdict_laws.specs.Alike.{VerdictsAgree, PassesNoBound, AreAnsweredAlike, VerdictsOfRearranged, VerdictsOfCut, AreRearrangedSchemas, AreCutSchemas, FirstIsCertain, FinishAlike, SchemasOfRearranged, SchemasOfCut, DocumentsOverEqual}

-- ---- verdicts

-- what is answered of a pair that is accepted for sure
abbrev ToCertain : Result Verdict CheckError → Type 0
ToCertain answer = (answer ≡ Ok Accepted) ⊎ (answer ≡ Err Memory)

-- it is not refused
not_refused : (list : DiagnosticList) → ToCertain (Ok (Refused list)) → ⊥
not_refused list (inl h) = cc
not_refused list (inr h) = cc

module _ (terms : Terms) (texts others : List SourceText) (document : SourceText) (same : IsAccepted terms texts document ↔ IsAccepted terms others document)
    (bounds : PassesNoBound terms texts document) (other_bounds : PassesNoBound terms others document) where
  pub same_verdict : (v w : Verdict) → IsVerdict terms texts document v → IsVerdict terms others document w
      → (IsCertain terms texts document → ToCertain (Ok v)) → (IsCertain terms others document → ToCertain (Ok w)) → VerdictsAgree v w
  same_verdict Accepted Accepted a b first second = tt
  same_verdict Accepted (Refused list) a b first second = not_refused list (second (other_bounds.certain (same.0 ((accepted_by_the_book terms texts document).1 a))))
  same_verdict (Refused list) Accepted a b first second = not_refused list (first (bounds.certain (same.1 ((accepted_by_the_book terms others document).1 b))))
  same_verdict (Refused list) (Refused other) a b first second = tt

answered : (terms : Terms) (texts others : List SourceText) → AreAcceptedAlike terms texts others → AreAnsweredAlike terms texts others
answered terms texts others same document (Err e) other x y bounds other_bounds = tt
answered terms texts others same document (Ok v) (Err e) x y bounds other_bounds = tt
answered terms texts others same document (Ok v) (Ok w) x y bounds other_bounds =
    same_verdict terms texts others document (same.pairs bounds.numbered other_bounds.numbered document) bounds other_bounds v w x.verdict y.verdict x.complete y.complete

pub verdicts_of_rearranged : VerdictsOfRearranged
verdicts_of_rearranged terms texts others same = answered terms texts others (rearranging terms texts others same).accepted

pub verdicts_of_cut : VerdictsOfCut
verdicts_of_cut terms texts others same = answered terms texts others (cutting terms texts others same).accepted

-- ---- schemas

module _ (terms : Terms) (texts others : List SourceText) (a b : CheckedSchemaValue) (is_a : IsCheckedSchemaOf terms texts a) (is_b : IsCheckedSchemaOf terms others b) where
  -- the schemas for documents, and what is written, are those of the texts
  hands : AreEqual (document_schema terms is_a.accepted.judged.trees) (document_schema terms is_b.accepted.judged.trees) → AreEqual a.schema b.schema
  hands h = subst (λ s. AreEqual s b.schema) (sym is_a.for_documents) (subst (AreEqual (document_schema terms is_a.accepted.judged.trees)) (sym is_b.for_documents) h)

  pub rearranged : AreRearranged terms texts others → AreRearrangedSchemas a b
  rearranged same =
      let law = rearranging terms texts others same in
      let first = is_a.written ∙ ap (Out terms) (all_one terms.first_text texts is_a.accepted.judged.trees same.trees is_a.accepted.judged.read same.read) in
      let second = is_b.written ∙ ap (Out terms) (all_one terms.first_text others is_b.accepted.judged.trees same.other_trees is_b.accepted.judged.read same.other_read) in
      record {
        equal = hands (law.judged.for_documents is_a.accepted.judged is_b.accepted.judged);
        nesting = is_a.nesting ∙ sym is_b.nesting;
        written = subst (λ t. IsPermuted t b.written) (sym first) (subst (IsPermuted (Out terms same.trees)) (sym second) law.writes);
      }

  pub cut : AreCut terms texts others → AreCutSchemas a b
  cut same =
      let law = cutting terms texts others same in
      let first = is_a.written ∙ ap (Out terms) (all_one terms.first_text texts is_a.accepted.judged.trees same.trees is_a.accepted.judged.read same.read) in
      let second = is_b.written ∙ ap (Out terms) (all_one terms.first_text others is_b.accepted.judged.trees same.other_trees is_b.accepted.judged.read same.other_read) in
      record {
        equal = hands (law.judged.for_documents is_a.accepted.judged is_b.accepted.judged);
        nesting = is_a.nesting ∙ sym is_b.nesting;
        written = λ layout. ap (layout_text layout) first ∙ law.texts_written layout ∙ sym (ap (layout_text layout) second);
      }

module _ (one other : CheckerValue) (terms : one.terms ≡ other.terms) where
  -- where the texts of the first are accepted for sure, so are those of the second
  both_certain : AreAcceptedAlike one.terms one.texts other.texts → FirstIsCertain one other → AreSchemasCertain other.terms other.texts
  both_certain same bounds =
      subst (λ t. AreSchemasCertain t other.texts) terms
      ((same.schemas_for_sure bounds.numbered (subst (λ t. TextsHaveNumbers t other.texts) (sym terms) bounds.other_numbered)).0 bounds.certain)

  module _ (Same : CheckedSchemaValue → CheckedSchemaValue → Type 0) (accepted : AreAcceptedAlike one.terms one.texts other.texts)
      (same : (a b : CheckedSchemaValue) → IsCheckedSchemaOf one.terms one.texts a → IsCheckedSchemaOf one.terms other.texts b → Same a b) where
    both : (a b : Result CheckedSchemaValue Refusal) → AnswersFinish one a → AnswersFinish other b → IfOk a (λ s. IfOk b (λ t. Same s t))
    both (Err r) b x y = tt
    both (Ok s) (Err r) x y = tt
    both (Ok s) (Ok t) x y = same s t x.schema (subst (λ u. IsCheckedSchemaOf u other.texts t) (sym terms) y.schema)

    second : (b : Result CheckedSchemaValue Refusal) → AnswersFinish other b → FirstIsCertain one other → IfErr b (λ r. r ≡ refusal.Memory)
    second (Ok t) y bounds = tt
    second (Err r) y bounds = y.complete bounds.other_runs (both_certain accepted bounds)

    finish_alike : FinishAlike Same one other
    finish_alike a b x y = (both a b x y, second b y)

pub schemas_of_rearranged : SchemasOfRearranged
schemas_of_rearranged one other are =
    finish_alike one other are.terms AreRearrangedSchemas (rearranging one.terms one.texts other.texts are.texts).accepted
    (λ a b is_a is_b. rearranged one.terms one.texts other.texts a b is_a is_b are.texts)

pub schemas_of_cut : SchemasOfCut
schemas_of_cut one other are =
    finish_alike one other are.terms AreCutSchemas (cutting one.terms one.texts other.texts are.texts).accepted
    (λ a b is_a is_b. cut one.terms one.texts other.texts a b is_a is_b are.texts)

-- ---- documents

pub documents_over_equal : DocumentsOverEqual
documents_over_equal a b equal nesting document bounds (Err r) other x y = tt
documents_over_equal a b equal nesting document bounds (Ok d) (Ok e) x y = tt
documents_over_equal a b equal nesting document bounds (Ok d) (Err r) x y =
    let same = equal_accept a.schema b.schema equal a.nesting a.number b.number bounds.numbered bounds.other_numbered document in
    y.complete (bounds.certain (subst (λ n. IsDocumentAccepted b.schema n b.number document) nesting (same.0 x.accepted.accepted)))
