-- The bytes that go with an accepted pair and with refusals.
use Rattle.std.proofs.Common.{◌≡◌, ℕ, List, Result, Ok, Err, inl, refl, sym, ap, subst}
use Rattle.graphql_names.specs.Placed.{Place}
use Rattle.spec_document.specs.MeantTree.{MeantDocument}
use Rattle.graphql_faults.specs.DetailsView.{diagnostics_of}
use Rattle.book_validity.specs.in_verdict_definitions.Texts.{SourceText, Terms}
use Rattle.book_validity.specs.in_verdict_definitions.Out.{Layout, layout_text}
use Rattle.book_validity.specs.in_verdict_definitions.Answer.{WritesDocument}
use Rattle.checker_calls.specs.Parts.{parts_bytes}
use Rattle.checker_calls.specs.declared.parts.Parts.{Parts}
use Rattle.checker_calls.specs.declared.run_fault.Outcome.{Outcome}
use Rattle.checker_calls.specs.declared.run_fault.Outcome.TheVariants.{Accepted}
use Rattle.checker_calls.specs.declared.run_fault.RunFault.{RunFault}
use Rattle.checker_schemas.specs.CheckedSchemaValue.{CheckedSchemaValue, IsCheckedSchemaOf}
use Rattle.graphql_checked.specs.CheckerValue.{IsCheckedDocumentOf}
use Rattle.checker_schemas.specs.Refusals.{RefusalOfSchemas}
use Rattle.graphql_checked.specs.DocumentRefusals.{RefusalOfDocument}
use Rattle.graphql_checked.specs.Run.{BytesOf, IsAnswerTo, AcceptsOrFails, IsWrittenAnswer}
use Rattle.checker_calls.specs.Refusals.{IsAnswerOfRefusal}
use Rattle.checker_calls.specs.declared.refusal.Refusal.{Refusal}
use Rattle.checker_calls.specs.declared.refusal.Refusal.TheVariants.{Faults, Memory, Failed}
use Rattle.graphql_checked.proofs.Verdicts.{accepted_pair, yes_pair, refused_pair}

module _ (terms : Terms) (texts : List SourceText) (text : SourceText) (schema : CheckedSchemaValue) (is : IsCheckedSchemaOf terms texts schema) where
  -- the bytes of an accepted pair
  pub accepted_bytes : (document : MeantDocument Place) → IsCheckedDocumentOf schema text document → (layout : Layout) (bytes : List ℕ) → IsWrittenAnswer layout schema text bytes → BytesOf terms layout Accepted texts text bytes
  accepted_bytes document checked layout bytes written = (
    yes_pair terms texts text schema is document checked,
    record {
      accepted = accepted_pair terms texts text schema is document checked;
      written_schema = layout_text layout schema.written;
      written_document = written.written_document;
      writes_schema = (is.accepted.judged.trees, (is.accepted.judged.read, ap (layout_text layout) is.written));
      writes_document = subst (λ number. WritesDocument layout number text written.written_document) is.number written.writes_document;
      is = written.is;
    },
  )

  -- the answer of a document's refusal
  pub document_answer : (layout : Layout) (refusal : Refusal) (answer : Result (Outcome × Parts) RunFault)
      → RefusalOfDocument schema text refusal → IsAnswerOfRefusal refusal answer → IsAnswerTo layout terms texts text answer
  document_answer layout (Faults list) (Ok (outcome, parts)) h of =
      (of.1, subst (λ o. BytesOf terms layout o texts text (parts_bytes parts)) (sym of.0) (record { faults = diagnostics_of list; refused = refused_pair terms texts text schema is (diagnostics_of list) h; is = of.2 }))
  document_answer layout (Faults list) (Err fault) h of = of
  document_answer layout Memory answer h of = rw of refl
  document_answer layout Failed answer h of = absurd h

-- the answer of a refusal of schema texts
pub schemas_answer : (terms : Terms) (texts : List SourceText) (text : SourceText) (layout : Layout) (refusal : Refusal) (answer : Result (Outcome × Parts) RunFault)
    → RefusalOfSchemas terms texts refusal → IsAnswerOfRefusal refusal answer → IsAnswerTo layout terms texts text answer
schemas_answer terms texts text layout (Faults list) (Ok (outcome, parts)) h of =
    (of.1, subst (λ o. BytesOf terms layout o texts text (parts_bytes parts)) (sym of.0) (record { faults = diagnostics_of list; refused = inl h; is = of.2 }))
schemas_answer terms texts text layout (Faults list) (Err fault) h of = of
schemas_answer terms texts text layout Memory answer h of = rw of refl
schemas_answer terms texts text layout Failed answer h of = absurd h

-- out of memory is answered as it is
pub memory_answer : (refusal : Refusal) (answer : Result (Outcome × Parts) RunFault) → refusal ≡ Memory → IsAnswerOfRefusal refusal answer → AcceptsOrFails answer
memory_answer (Faults list) answer is of = absurd cc
memory_answer Memory answer is of = rw of tt
memory_answer Failed answer is of = absurd cc
