-- What the parts of a call answer, from what they are told: a lemma for each way in which one ends.
use Rattle.std.proofs.Common.{◌≡◌, ◌≢◌, ℕ, Bool, true, false, List, [], map, codes, ◌⊎◌, inl, inr, sym, subst, ◌∙◌, arith}
use Rattle.std.specs.Prelude.{IsUtf8}
use Rattle.std.specs.List.{All}
use Rattle.graphql_faults.specs.DetailsView.{diagnostics_of}
use Rattle.verdict_definitions.specs.Texts.{SourceText, Terms}
use Rattle.verdict_definitions.specs.Judge.{AreSchemasCertain, IsDocumentCertain}
use Rattle.verdict_definitions.specs.Answer.{WritesDocument}
use Rattle.graphql_names.specs.Placed.{Place}
use Rattle.spec_document.specs.MeantTree.{MeantDocument}
use Rattle.checker_calls.specs.declared.refusal.Refusal.{Refusal}
use Rattle.checker_calls.specs.declared.refusal.Refusal.TheVariants.{Faults, Memory, Failed}
use Rattle.graphql_checked.specs.in_checker_schemas.Refusals.{RefusalOfSchemas}
use Rattle.graphql_checked.specs.CheckedView.{CheckedSchemaParts, CheckedDocumentParts, schema_value, document_value}
use Rattle.graphql_checked.specs.CheckerValue.{IsCheckedDocumentOf, WritesCheckedDocument}
use Rattle.verdict_definitions.specs.Out.{Layout}
use Rattle.graphql_checked.specs.DocumentRefusals.{RefusalOfDocument}
use Rattle.graphql_checked.specs.Verdicts.{first_terms}
use Rattle.graphql_checked.proofs.Verdicts.{yes_pair, refused_pair, certain_document, schemas_not_failed, document_not_failed}
use Rattle.graphql_checked_c.specs.declared.handle.Kept.{Kept}
use Rattle.graphql_checked_c.specs.declared.held.HeldText.{HeldText}
use Rattle.graphql_checked_c.specs.HeldTexts.{text_of, AreHeld, AreNotNamed, OneHasNotUtf8}
use Rattle.ffi_memory.proofs.Cuts.{one_cut}
use Rattle.graphql_checked_c.specs.CallResults.{AreCertainTexts, IsYesOver, OneIsNotUtf8, IsCertainOver, IsDocumentText, TellsRefusal, AnswersTexts, AnswersOver}

-- ---- statuses

-- a status other than this one
other : {n m : ℕ} {X : Type 0} {status : ℕ} → status ≡ n → (n ≡ m → ⊥) → status ≡ m → X
other is apart also = absurd (apart (sym is ∙ also))

-- no refusal says that a checker has failed
pub texts_not_failed : (terms : Terms) (texts : List SourceText) (refusal : Refusal) → RefusalOfSchemas terms texts refusal → refusal ≢ Failed
texts_not_failed = schemas_not_failed

pub over_not_failed : (schema : CheckedSchemaParts) (document : SourceText) (refusal : Refusal) → RefusalOfDocument (schema_value schema) document refusal → refusal ≢ Failed
over_not_failed schema document refusal h = document_not_failed (schema_value schema) document refusal h

-- ---- schema texts that are opened

module _ (json : Bool) (nesting : ℕ) (names name_ends texts ends : List ℕ) (status : ℕ) (bytes : List ℕ) where
  pub texts_memory : status ≡ 4 → bytes ≡ [] → AnswersTexts json nesting names name_ends texts ends status bytes
  texts_memory is none = record {
    report = other is (λ e. omega (arith, e));
    encoding = other is (λ e. omega (arith, e));
    order = other is (λ e. omega (arith, e));
    known = inr (inr (inr (inl is)));
    undone = other is (λ e. omega (arith, e));
    measured = other is (λ e. omega (arith, e));
    certain = λ _. is;
    untold = λ _. none;
  }

  pub texts_uncut : AreNotNamed names name_ends texts ends → status ≡ 7 → bytes ≡ [] → AnswersTexts json nesting names name_ends texts ends status bytes
  texts_uncut uncut is none = record {
    report = other is (λ e. omega (arith, e));
    encoding = other is (λ e. omega (arith, e));
    order = λ _. uncut;
    known = inr (inr (inr (inr (inr (inl is)))));
    undone = other is (λ e. omega (arith, e));
    measured = other is (λ e. omega (arith, e));
    certain = λ certain. absurd (neither uncut certain);
    untold = λ _. none;
  }
    where
      neither : AreNotNamed names name_ends texts ends → AreCertainTexts nesting names name_ends texts ends → ⊥
      neither (inl uncut) certain = uncut certain.1.0.0 certain.1.0.1.0
      neither (inr (inl uncut)) certain = uncut certain.1.1.0 certain.1.1.1.0
      neither (inr (inr more)) certain = more certain.0

  pub texts_not_utf8 : OneHasNotUtf8 names name_ends texts ends → status ≡ 3 → bytes ≡ [] → AnswersTexts json nesting names name_ends texts ends status bytes
  texts_not_utf8 one is none = record {
    report = other is (λ e. omega (arith, e));
    encoding = λ _. one;
    order = other is (λ e. omega (arith, e));
    known = inr (inr (inl is));
    undone = other is (λ e. omega (arith, e));
    measured = other is (λ e. omega (arith, e));
    certain = λ certain. absurd (neither one certain);
    untold = λ _. none;
  }
    where
      neither : OneHasNotUtf8 names name_ends texts ends → AreCertainTexts nesting names name_ends texts ends → ⊥
      neither (inl (pieces, (cut, not))) certain = not (subst (All IsUtf8) (one_cut names name_ends certain.1.0.0 pieces certain.1.0.1.0 cut) certain.1.0.1.1)
      neither (inr (pieces, (cut, not))) certain = not (subst (All IsUtf8) (one_cut texts ends certain.1.1.0 pieces certain.1.1.1.0 cut) certain.1.1.1.1)

  pub texts_refused : (held : List HeldText) → AreHeld names name_ends texts ends held → (refusal : Refusal) → RefusalOfSchemas (first_terms nesting) (map text_of held) refusal
      → (AreSchemasCertain (first_terms nesting) (map text_of held) → refusal ≡ Memory) → TellsRefusal json false held (codes "schema") (codes "") refusal status bytes
      → AnswersTexts json nesting names name_ends texts ends status bytes
  texts_refused held are (Faults list) refuses complete (inl (is, told)) = record {
    report = λ _. (held, (are, (diagnostics_of list, (refuses, told))));
    encoding = other is (λ e. omega (arith, e));
    order = other is (λ e. omega (arith, e));
    known = inr (inl is);
    undone = other is (λ e. omega (arith, e));
    measured = other is (λ e. omega (arith, e));
    certain = λ certain.
        let e : Faults list ≡ Memory = complete (subst (AreSchemasCertain (first_terms nesting)) (one_cut texts ends certain.1.1.0 (map text_of held) certain.1.1.1.0 are.1) certain.1.1.1.2) in absurd cc;
    untold = λ not. absurd (not is);
  }
  texts_refused held are (Faults list) refuses complete (inr (is, none)) = texts_memory is none
  texts_refused held are Memory refuses complete (is, none) = texts_memory is none
  texts_refused held are Failed refuses complete tells = absurd tells

-- ---- a document over a schema that is held

module _ (json : Bool) (told : List ℕ → Type 0) (kept : Kept) (path : List ℕ) (document : SourceText) (status : ℕ) (bytes : List ℕ) where
  pub over_done : told bytes → status ≡ 0 → AnswersOver json told kept path document status bytes
  over_done done is = record {
    done = λ _. done;
    report = other is (λ e. omega (arith, e));
    encoding = other is (λ e. omega (arith, e));
    known = inl is;
    prefixed = other is (λ e. omega (arith, e));
    certain = λ _. inl is;
    untold = λ not. absurd (not is);
  }

  pub over_memory : status ≡ 4 → bytes ≡ [] → AnswersOver json told kept path document status bytes
  over_memory is none = record {
    done = other is (λ e. omega (arith, e));
    report = other is (λ e. omega (arith, e));
    encoding = other is (λ e. omega (arith, e));
    known = inr (inr (inr (inl is)));
    prefixed = other is (λ e. omega (arith, e));
    certain = λ _. inr is;
    untold = λ _ _. none;
  }

  pub over_not_utf8 : OneIsNotUtf8 path document → status ≡ 3 → bytes ≡ [] → AnswersOver json told kept path document status bytes
  over_not_utf8 one is none = record {
    done = other is (λ e. omega (arith, e));
    report = other is (λ e. omega (arith, e));
    encoding = λ _. one;
    known = inr (inr (inl is));
    prefixed = other is (λ e. omega (arith, e));
    certain = λ certain. absurd (neither one certain);
    untold = λ _ _. none;
  }
    where
      neither : OneIsNotUtf8 path document → IsCertainOver kept.schema path document → ⊥
      neither (inl not) certain = not certain.0
      neither (inr not) certain = not certain.1

  pub over_refused : (refusal : Refusal) → RefusalOfDocument (schema_value kept.schema) document refusal
      → (IsDocumentCertain (schema_value kept.schema).schema kept.schema.nesting kept.schema.number document → refusal ≡ Memory)
      → TellsRefusal json true kept.texts.items path document refusal status bytes → AnswersOver json told kept path document status bytes
  over_refused (Faults list) refuses complete (inl (is, tells)) = record {
    done = other is (λ e. omega (arith, e));
    report = λ _ terms schemas of. (diagnostics_of list, (refused_pair terms schemas document (schema_value kept.schema) of (diagnostics_of list) refuses, tells));
    encoding = other is (λ e. omega (arith, e));
    known = inr (inl is);
    prefixed = other is (λ e. omega (arith, e));
    certain = λ h.
        let c = h.2 in
        let e : Faults list ≡ Memory = complete (certain_document c.0 c.1.0 document (schema_value kept.schema) c.1.1.0 c.1.1.1) in absurd cc;
    untold = λ _ not. absurd (not is);
  }
  over_refused (Faults list) refuses complete (inr (is, none)) = over_memory is none
  over_refused Memory refuses complete (is, none) = over_memory is none
  over_refused Failed refuses complete tells = absurd tells

-- a document that is accepted is one of whatever texts the schema is of
pub yes_over : (schema : CheckedSchemaParts) (document : SourceText) (meant : MeantDocument Place) → IsCheckedDocumentOf (schema_value schema) document meant → IsYesOver schema document
yes_over schema document meant checked = λ terms schemas of. yes_pair terms schemas document (schema_value schema) of meant checked

pub over_yes : (json : Bool) (kept : Kept) (path : List ℕ) (document : SourceText) (meant : MeantDocument Place) (status : ℕ) (bytes : List ℕ)
    → IsCheckedDocumentOf (schema_value kept.schema) document meant → status ≡ 0 → bytes ≡ []
    → AnswersOver json (λ bytes. IsYesOver kept.schema document × (bytes ≡ [])) kept path document status bytes
over_yes json kept path document meant status bytes checked is none =
    over_done json (λ bytes. IsYesOver kept.schema document × (bytes ≡ [])) kept path document status bytes (yes_over kept.schema document meant checked, none) is

-- its text is written, or memory ran out
pub over_written : (json : Bool) (layout : Layout) (kept : Kept) (path : List ℕ) (document : SourceText) (d : CheckedDocumentParts) (status : ℕ) (bytes : List ℕ)
    → d.schema ≡ kept.schema → d.text ≡ document → IsCheckedDocumentOf (schema_value kept.schema) document (document_value d).document
    → ((status ≡ 0) × WritesCheckedDocument layout (document_value d) bytes) ⊎ ((status ≡ 4) × (bytes ≡ []))
    → AnswersOver json (IsDocumentText layout kept.schema document) kept path document status bytes
over_written json layout kept path document d status bytes over of checked (inl (is, writes)) =
    over_done json (IsDocumentText layout kept.schema document) kept path document status bytes
    (yes_over kept.schema document (document_value d).document checked, subst (λ (s : CheckedSchemaParts). WritesDocument layout s.number document bytes) over (subst (λ (t : SourceText). WritesDocument layout d.schema.number t bytes) of writes)) is
over_written json layout kept path document d status bytes over of checked (inr (is, none)) = over_memory json (IsDocumentText layout kept.schema document) kept path document status bytes is none
