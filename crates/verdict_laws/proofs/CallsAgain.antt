-- Lemmas on what is written of checked schemas and documents, and checked again.
use Rattle.std.proofs.Common.{◌≡◌, ℕ, zero, suc, List, [], ◌∷◌, Result, Ok, Err, inl, refl, sym, ap, subst, ◌∙◌}
use Rattle.std.specs.Prelude.{IfOk, IfErr}
use Rattle.graphql_names.specs.Placed.{Place}
use Rattle.spec_document.specs.Unplaced.{unplaced_document}
use Rattle.spec_document.specs.MeantTree.{MeantDocument}
use Rattle.schema_types.specs.SchemaTree.{SchemaTree}
use Rattle.rule_definitions.specs.Judged.{Judged}
use Rattle.rule_definitions.specs.Faults.{SchemaFault}
use Rattle.rule_definitions.specs.Cycles.{PassesReferenceBound}
use Rattle.rule_definitions.specs.Laws.{AreEqual}
use Rattle.rule_definitions.proofs.Same.{read_the_same}
use Rattle.verdict_definitions.specs.Texts.{SourceText, Tree, Terms, ReadsText, document_number}
use Rattle.verdict_definitions.specs.Meaning.{schema_of, document_schema, document_over}
use Rattle.verdict_definitions.specs.Judge.{AreSchemasCertain, IsDocumentCertain, IsCertain, PassesNoReferenceBound, PassesNoDocumentBound}
use Rattle.verdict_definitions.specs.Out.{Out, OutDoc, Layout, layout_text, as_lines}
use Rattle.verdict_definitions.specs.Answer.{WritesDocument, AcceptedBytes}
use Rattle.verdict_laws.proofs.AnyNumber.{one_tree}
use Rattle.verdict_laws.proofs.Rearranged.{all_one}
use Rattle.verdict_laws.specs.RoadBack.{SchemaLeadsBack, DocumentLeadsBack, PairLeadsBack}
use Rattle.verdict_laws.proofs.SchemaBack.{schema_road_back}
use Rattle.verdict_laws.proofs.DocumentBack.{document_road_back}
use Rattle.verdict_laws.proofs.PairBack.{pair_road_back, put_out_leads_back, one_answer}
use Rattle.checker_calls.specs.declared.run_fault.Outcome.{Outcome}
use Rattle.checker_calls.specs.declared.run_fault.Outcome.TheVariants as outcome
use Rattle.checker_calls.specs.declared.run_fault.RunFault.{RunFault}
use Rattle.graphql_checked.specs.in_checker_schemas.CheckedSchemaValue.{CheckedSchemaValue, IsCheckedSchemaOf}
use Rattle.graphql_checked.specs.CheckerValue.{CheckedDocumentValue, IsCheckedDocumentOf}
use Rattle.graphql_checked.specs.Run.{BytesOf, IsAnswerToCertain}
use Rattle.graphql_checked.specs.Verdicts.{first_terms}
use Rattle.checker_calls.specs.declared.refusal.Refusal.{Refusal}
use Rattle.checker_calls.specs.declared.refusal.Refusal.TheVariants as refusal
use Rattle.verdict_laws.specs.Answers.{AnswersFinish, AnswersCheck, RunValue, AnswersRun}
use Rattle.verdict_laws.specs.Again.{SchemasAreSame, IsWrittenPlain, checker_of_written, SchemaAgain, DocumentsAreSame, IsWrittenPlainOver, DocumentAgain, PairAgain, ReadsWhatWasPut, RunAgain}

-- ---- the schema

-- equal schemas pass the same bounds of references
references_too : (a b : SchemaTree Place) → AreEqual a b → PassesNoReferenceBound a → PassesNoReferenceBound b
references_too a b equal h = subst (λ (s : Judged). (fault : SchemaFault) → PassesReferenceBound s fault → ⊥) (read_the_same a b equal) h

module _ (terms : Terms) (layout : Layout) (first : CheckedSchemaValue) (schemas : List SourceText) (w : IsWrittenPlain terms layout first schemas) where
  back : SchemaLeadsBack terms schemas w.is.accepted (layout_text layout first.written)
  back = schema_road_back terms schemas w.elsewhere w.is.accepted layout w.plain (layout_text layout first.written) (inl (ap (layout_text layout) w.is.written))

  -- the schema of its text is the same
  same_schema : (again : CheckedSchemaValue) → IsCheckedSchemaOf terms (layout_text layout first.written ∷ []) again → SchemasAreSame first again
  same_schema again is =
      let one : is.accepted.judged.trees ≡ back.accepted.judged.trees =
      all_one terms.first_text (layout_text layout first.written ∷ []) is.accepted.judged.trees back.accepted.judged.trees is.accepted.judged.read back.accepted.judged.read in
      record {
        equal = subst (λ s. AreEqual s again.schema) (sym w.is.for_documents)
            (subst (AreEqual (document_schema terms w.is.accepted.judged.trees)) (sym (is.for_documents ∙ ap (document_schema terms) one)) back.for_documents);
        nesting = w.is.nesting ∙ sym is.nesting;
        written = λ l. ap (layout_text l) (is.written ∙ ap (Out terms) one) ∙ back.written l ∙ sym (ap (layout_text l) w.is.written);
      }

  -- and it is accepted for sure where the first is
  certain_schema : AreSchemasCertain terms schemas → AreSchemasCertain terms (layout_text layout first.written ∷ [])
  certain_schema certain =
      let one = all_one terms.first_text schemas certain.0.judged.trees w.is.accepted.judged.trees certain.0.judged.read w.is.accepted.judged.read in (
        back.accepted,
        references_too (schema_of terms w.is.accepted.judged.trees) (schema_of terms back.accepted.judged.trees) back.equal
            (subst (λ ts. PassesNoReferenceBound (schema_of terms ts)) one certain.1),
      )

  answer_again : (answer : Result CheckedSchemaValue Refusal) → AnswersFinish (checker_of_written terms layout first) answer → IfOk answer (SchemasAreSame first)
  answer_again (Ok s) x = same_schema s x.schema
  answer_again (Err r) x = tt

  refused_again : (answer : Result CheckedSchemaValue Refusal) → AnswersFinish (checker_of_written terms layout first) answer → AreSchemasCertain terms schemas → IfErr answer (λ r. r ≡ refusal.Memory)
  refused_again (Ok s) x certain = tt
  refused_again (Err r) x certain = x.complete refl (certain_schema certain)

pub schema_again : SchemaAgain
schema_again terms layout first schemas w answer x = (answer_again terms layout first schemas w answer x, refused_again terms layout first schemas w answer x)

-- ---- the document

-- what is written of a text is written of its tree
pub written_of : (number : ℕ) (document : SourceText) (tree : Tree) (layout : Layout) (bytes : List ℕ) → ReadsText number document tree → WritesDocument layout number document bytes → bytes ≡ layout_text layout (OutDoc tree)
written_of number document tree layout bytes read (other, (other_read, is)) = is ∙ ap (λ t. layout_text layout (OutDoc t)) (one_tree number document other tree other_read read)

module _ (layout : Layout) (schema : CheckedSchemaValue) (document : SourceText) (first : MeantDocument Place) (other : CheckedSchemaValue) (text : SourceText)
    (w : IsWrittenPlainOver layout schema document first other text) where
  document_back : DocumentLeadsBack schema.nesting schema.schema other.schema schema.number other.number document w.is.accepted text
  document_back = document_road_back schema.schema other.schema w.equal schema.nesting schema.number other.number w.numbered document w.is.accepted layout w.plain text
      (inl (written_of schema.number document w.is.accepted.judged.tree layout text w.is.accepted.judged.read w.written))

  -- the document of its text is the same
  same_document : (again : MeantDocument Place) → IsCheckedDocumentOf other text again → DocumentsAreSame schema document first other text again
  same_document again is =
      let one : is.accepted.judged.tree ≡ document_back.accepted.judged.tree =
      one_tree other.number text is.accepted.judged.tree document_back.accepted.judged.tree is.accepted.judged.read document_back.accepted.judged.read in
      record {
        equal = ap unplaced_document w.is.is ∙ document_back.equal ∙ sym (ap unplaced_document (is.is ∙ ap (document_over other.schema) one));
        written = λ l bytes. (
          (λ h. (
            w.is.accepted.judged.tree,
            (
              w.is.accepted.judged.read,
              written_of other.number text document_back.accepted.judged.tree l bytes document_back.accepted.judged.read h ∙ document_back.written l,
            ),
          )),
          (λ h. (
            document_back.accepted.judged.tree,
            (
              document_back.accepted.judged.read,
              written_of schema.number document w.is.accepted.judged.tree l bytes w.is.accepted.judged.read h ∙ sym (document_back.written l),
            ),
          )),
        );
      }

  -- and it is accepted for sure where the first is
  certain_again : IsDocumentCertain schema.schema schema.nesting schema.number document → IsDocumentCertain other.schema other.nesting other.number text
  certain_again certain =
      let one = one_tree schema.number document certain.0.judged.tree w.is.accepted.judged.tree certain.0.judged.read w.is.accepted.judged.read in
      subst (λ n. IsDocumentCertain other.schema n other.number text) w.nesting
      (document_back.accepted, document_back.bounds.0 (subst (PassesNoDocumentBound schema.schema) one certain.1))

  checked_again : (answer : Result CheckedDocumentValue Refusal) → AnswersCheck other text answer → IfOk answer (λ d. DocumentsAreSame schema document first other text d.document)
  checked_again (Ok d) x = same_document d.document x.accepted
  checked_again (Err r) x = tt

  unchecked_again : (answer : Result CheckedDocumentValue Refusal) → AnswersCheck other text answer → IsDocumentCertain schema.schema schema.nesting schema.number document → IfErr answer (λ r. r ≡ refusal.Memory)
  unchecked_again (Ok d) x certain = tt
  unchecked_again (Err r) x certain = x.complete (certain_again certain)

pub document_again : DocumentAgain
document_again layout schema document first other text w answer x =
    (checked_again layout schema document first other text w answer x, unchecked_again layout schema document first other text w answer x)

-- ---- the pair

pub pair_again : PairAgain
pair_again terms schema document schemas pair layout next plain next_plain text is_text answer x =
    let judged = pair.certain.accepted.schema.judged in
    let written : layout_text layout schema.written ≡ layout_text layout (Out terms judged.trees) =
    ap (layout_text layout) (pair.is.written ∙ ap (Out terms) (all_one terms.first_text schemas pair.is.accepted.judged.trees judged.trees pair.is.accepted.judged.read judged.read)) in
    let over = pair.certain.accepted.over.judged in
    let its = subst (λ n. WritesDocument next n document text) pair.is.number is_text in
    let doc : text ≡ layout_text next (OutDoc over.tree) = written_of (document_number terms schemas) document over.tree next text over.read its in
    x.complete ((pair_road_back terms schemas document pair.elsewhere pair.certain.accepted layout next plain next_plain (layout_text layout schema.written) text (inl written) (inl doc)).certain.0 pair.certain)

-- ---- what is put out

module _ (nesting : ℕ) (layout : Layout) (first again : RunValue) (w : ReadsWhatWasPut nesting layout first again) where
  abbrev terms : Terms
  terms = first_terms nesting

  bytes : AcceptedBytes terms layout first.texts first.text first.put
  bytes = w.answers.answers.1

  back_put : PairLeadsBack terms first.texts first.text bytes.accepted (as_lines layout bytes.written_schema) (as_lines layout bytes.written_document)
  back_put = put_out_leads_back terms first.texts first.text (λ e. let bad : suc zero ≡ 0 = e in cc) layout w.plain first.put bytes

  -- the same bytes go with the texts that were put out
  put_again : AcceptedBytes terms layout again.texts again.text again.put → again.put ≡ first.put
  unfolding bytes
  put_again told =
      one_answer terms layout (as_lines layout bytes.written_schema ∷ []) (as_lines layout bytes.written_document) again.put first.put
      (subst (λ (p : List SourceText × SourceText). AcceptedBytes terms layout p.0 p.1 again.put) (λ i. (w.schema i, w.document i)) told) ((back_put.answered layout first.put).0 bytes)

  -- and they are accepted for sure where the first are
  certain_put : IsCertain terms first.texts first.text → IsCertain terms again.texts again.text
  unfolding bytes
  certain_put certain = subst (λ (p : List SourceText × SourceText). IsCertain terms p.0 p.1) (λ i. (sym w.schema i, sym w.document i)) (back_put.certain.0 certain)

  accepted_again : (answer : Result Outcome RunFault) → AnswersRun terms layout again answer → answer ≡ Ok outcome.Accepted → again.put ≡ first.put
  accepted_again answer x is = put_again (subst (λ a. IfOk a (λ o. BytesOf terms layout o again.texts again.text again.put)) is x.answers).1

pub run_again : RunAgain
run_again nesting layout first again w answer x =
    (accepted_again nesting layout first again w answer x, λ certain. x.complete (certain_put nesting layout first again w certain))
