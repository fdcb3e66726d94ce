-- A checker that is given texts, and what the checks of schema texts and of a document say of the pair.
use Rattle.std.proofs.Common.{◌≡◌, ◌≢◌, ℕ, ◌+◌, ◌<◌, ◌≤◌, true, false, List, [], ◌∷◌, ◌++◌, length, map, take, get_or, ◌⊎◌, Result, Ok, Err, inl, inr, refl, sym, ap, subst, ◌∙◌}
use Rattle.std.specs.Prelude.{IfOk}
use Rattle.std.proofs.lemmas.List.{map_more, take_all}
use Rattle.graphql_names.specs.Placed.{Place}
use Rattle.schema_types.specs.SchemaTree.{SchemaTree}
use Rattle.spec_document.specs.MeantTree.{MeantDocument}
use Rattle.graphql_faults.specs.DetailsView.{diagnostics_of}
use Rattle.book_validity.specs.in_verdict_definitions.Texts.{SourceText, Terms, document_number}
use Rattle.book_validity.specs.in_verdict_definitions.Meaning.{document_schema}
use Rattle.book_validity.specs.in_verdict_definitions.Judge.{IsDocumentAccepted, IsAccepted, AreSchemasCertain, IsDocumentCertain, IsCertain}
use Rattle.book_validity.specs.in_verdict_definitions.Says.{AnyFault}
use Rattle.book_validity.specs.in_verdict_definitions.Answer.{RefusesDocument, Refuses}
use Rattle.book_validity.specs.Yes.{IsYes}
use Rattle.book_validity.proofs.AcceptedFacts.{accepted_by_the_book}
use Rattle.checker_schemas.specs.CheckedSchemaValue.{CheckedSchemaValue, IsCheckedSchemaOf}
use Rattle.graphql_checked.specs.CheckerValue.{CheckerValue, IsCheckedDocumentOf}
use Rattle.graphql_checked.specs.CheckerAnswers.{IsCheckerAddRefusal, IsFinishRefusal}
use Rattle.checker_schemas.specs.Refusals.{RefusalOfSchemas}
use Rattle.graphql_checked.specs.DocumentRefusals.{RefusalOfDocument}
use Rattle.graphql_checked.specs.Verdicts.{IsVerdict}
use Rattle.checker_calls.specs.Refusals.{refusal_verdict}
use Rattle.checker_calls.specs.declared.refusal.Refusal.{Refusal}
use Rattle.checker_calls.specs.declared.refusal.Refusal.TheVariants.{Faults, Memory, Failed}
use Rattle.checker_calls.specs.declared.verdict.Verdict.{Verdict}
use Rattle.checker_calls.specs.declared.verdict.Verdict.TheVariants.{Accepted}
use Rattle.checker_calls.specs.declared.verdict.CheckError.{CheckError}
use Rattle.checker_calls.specs.declared.verdict.CheckError.TheVariants as error
use Rattle.checker_calls.proofs.Deciding.{one_list}

-- ---- a checker that is given texts

-- a checker that was given texts, and runs
abbrev given : Terms → List SourceText → CheckerValue
given terms texts = record { terms = terms; texts = texts; failed = false }

-- one more of the texts is added
pub texts_more : {T : Type 0} (f : T → List ℕ) (xs : List T) (i : ℕ) (terms : Terms) (x : T) (text : List ℕ) (old new : CheckerValue) → i < length xs → text ≡ f (get_or xs i x)
    → old ≡ record { terms = terms; texts = map f (take i xs); failed = false } → new ≡ record old { texts = old.texts ++ text ∷ [] }
    → new ≡ record { terms = terms; texts = map f (take (i + 1) xs); failed = false }
texts_more f xs i terms x text old new inside is before added =
    added ∙ ap {A = CheckerValue} {B = CheckerValue} (λ c. record c { texts = c.texts ++ text ∷ [] }) before
    ∙ ap (given terms) (ap (λ t. map f (take i xs) ++ t ∷ []) is ∙ sym (map_more f xs i x inside))

-- all are
pub texts_all : {T : Type 0} (f : T → List ℕ) (xs : List T) (i : ℕ) (terms : Terms) (checker : CheckerValue) → length xs ≤ i → checker ≡ record { terms = terms; texts = map f (take i xs); failed = false }
    → checker ≡ record { terms = terms; texts = map f xs; failed = false }
texts_all f xs i terms checker outside before = before ∙ ap (λ l. given terms (map f l)) (take_all i xs outside)

-- a checker that has not failed refuses a text only if out of memory
pub add_refusal : (old new : CheckerValue) (refusal : Refusal) → old.failed ≡ false → IsCheckerAddRefusal old new refusal → refusal ≡ Memory
add_refusal old new (Faults list) runs h = absurd h
add_refusal old new Memory runs h = refl
add_refusal old new Failed runs h = let e : true ≡ false = sym h.0 ∙ runs in absurd cc

-- one that runs refuses its texts as they are to be refused
pub finish_refusal : (checker : CheckerValue) (refusal : Refusal) → checker.failed ≡ false → IsFinishRefusal checker refusal → RefusalOfSchemas checker.terms checker.texts refusal
finish_refusal checker (Faults list) runs h = h.1
finish_refusal checker Memory runs h = tt
finish_refusal checker Failed runs h = let e : true ≡ false = sym h ∙ runs in absurd cc

-- where memory alone wanted
pub memory_refusal : (terms : Terms) (texts : List SourceText) (refusal : Refusal) → refusal ≡ Memory → RefusalOfSchemas terms texts refusal
memory_refusal terms texts refusal is = rw is tt

-- ---- a document over a checked schema, and over the schema of the texts

module _ (terms : Terms) (texts : List SourceText) (text : SourceText) (schema : CheckedSchemaValue) (is : IsCheckedSchemaOf terms texts schema) where
  -- what is said of the document over the schema
  abbrev OverSchema : (SchemaTree Place → ℕ → ℕ → Type 0) → Type 0
  OverSchema says = says schema.schema schema.nesting schema.number

  abbrev OverTexts : (SchemaTree Place → ℕ → ℕ → Type 0) → Type 0
  OverTexts says = says (document_schema terms is.accepted.judged.trees) terms.nesting (document_number terms texts)

  over_texts : (says : SchemaTree Place → ℕ → ℕ → Type 0) → OverSchema says → OverTexts says
  over_texts says h =
      subst (λ n. says (document_schema terms is.accepted.judged.trees) terms.nesting n) is.number
      (subst (λ n. says (document_schema terms is.accepted.judged.trees) n schema.number) is.nesting
      (subst (λ s. says s schema.nesting schema.number) is.for_documents h))

  over_schema : (says : SchemaTree Place → ℕ → ℕ → Type 0) → OverTexts says → OverSchema says
  over_schema says h =
      subst (λ s. says s schema.nesting schema.number) (sym is.for_documents)
      (subst (λ n. says (document_schema terms is.accepted.judged.trees) n schema.number) (sym is.nesting)
      (subst (λ n. says (document_schema terms is.accepted.judged.trees) terms.nesting n) (sym is.number) h))

  -- the pair is accepted
  pub accepted_pair : (document : MeantDocument Place) → IsCheckedDocumentOf schema text document → IsAccepted terms texts text
  accepted_pair document checked = record {
    schema = is.accepted;
    over = over_texts (λ s nesting number. IsDocumentAccepted s nesting number text) checked.accepted;
  }

  -- in the words of the book
  pub yes_pair : (document : MeantDocument Place) → IsCheckedDocumentOf schema text document → IsYes terms texts text
  yes_pair document checked = (accepted_by_the_book terms texts text).0 (accepted_pair document checked)

  -- the pair is refused
  pub refused_pair : (faults : List AnyFault) → RefusesDocument schema.schema schema.nesting schema.number text faults → Refuses terms texts text faults
  refused_pair faults refuses = inr (is.accepted, over_texts (λ s nesting number. RefusesDocument s nesting number text faults) refuses)

  -- where the pair is certain, so is the document
  pub certain_document : IsCertain terms texts text → IsDocumentCertain schema.schema schema.nesting schema.number text
  certain_document certain =
      let same : certain.accepted.schema.judged.trees ≡ is.accepted.judged.trees = one_list terms.first_text texts certain.accepted.schema.judged.trees is.accepted.judged.trees certain.accepted.schema.judged.read is.accepted.judged.read in
      over_schema (λ s nesting number. IsDocumentCertain s nesting number text)
      (subst (λ trees. IsDocumentCertain (document_schema terms trees) terms.nesting (document_number terms texts) text) same (certain.accepted.over, certain.nests))

  -- the verdict of a document's refusal
  pub document_verdict : (refusal : Refusal) → RefusalOfDocument schema text refusal → IfOk (refusal_verdict refusal) (IsVerdict terms texts text)
  document_verdict (Faults list) h = refused_pair (diagnostics_of list) h
  document_verdict Memory h = tt
  document_verdict Failed h = tt

-- where the pair is certain, so are the schema texts
pub certain_schemas : (terms : Terms) (texts : List SourceText) (text : SourceText) → IsCertain terms texts text → AreSchemasCertain terms texts
certain_schemas terms texts text certain = (certain.accepted.schema, certain.references)

-- the verdict of a refusal of schema texts
pub schemas_verdict : (terms : Terms) (texts : List SourceText) (text : SourceText) (refusal : Refusal) → RefusalOfSchemas terms texts refusal → IfOk (refusal_verdict refusal) (IsVerdict terms texts text)
schemas_verdict terms texts text (Faults list) h = inl h
schemas_verdict terms texts text Memory h = tt
schemas_verdict terms texts text Failed h = tt

-- out of memory is told as it is
pub memory_verdict : (refusal : Refusal) (verdict : Result Verdict CheckError) → verdict ≡ refusal_verdict refusal → refusal ≡ Memory → (verdict ≡ Ok Accepted) ⊎ (verdict ≡ Err error.Memory)
memory_verdict refusal verdict is memory = inr (is ∙ ap refusal_verdict memory)

-- no refusal of texts says that a checker has failed
pub schemas_not_failed : (terms : Terms) (texts : List SourceText) (refusal : Refusal) → RefusalOfSchemas terms texts refusal → refusal ≢ Failed
schemas_not_failed terms texts (Faults list) h e = absurd cc
schemas_not_failed terms texts Memory h e = absurd cc
schemas_not_failed terms texts Failed h e = absurd h

pub document_not_failed : (schema : CheckedSchemaValue) (text : SourceText) (refusal : Refusal) → RefusalOfDocument schema text refusal → refusal ≢ Failed
document_not_failed schema text (Faults list) h e = absurd cc
document_not_failed schema text Memory h e = absurd cc
document_not_failed schema text Failed h e = absurd h
