-- What checking a document over a checked schema comes to: it is accepted, or refused.
use Rattle.std.proofs.Common.{inl, inr, ◌≡◌, ◌≢◌, ℕ, List, [], ◌∷◌, Contains, refl, ap, subst, ◌∙◌, sym}
use Rattle.graphql_names.specs.Placed.{Place}
use Rattle.schema_types.specs.SchemaTree.{SchemaTree}
use Rattle.spec_document.specs.MeantTree.{MeantDocument}
use Rattle.document_typed_operations.specs.TypedDocument.{TypedDocumentTree}
use Rattle.document_typed_operations.specs.ToAst.{ast_document}
use Rattle.book_validity.specs.in_typing.DocumentView.{meant_document}
use Rattle.book_validity.proofs.in_typing.WrittenMeant.{document-written}
use Rattle.rule_definitions.proofs.Lists.{not_in_nil, only}
use Rattle.spec_document.specs.Unplaced.{unplaced_document}
use Rattle.rule_definitions.specs.Judged.{judged}
use Rattle.rule_document_definitions.specs.DocumentFaults.{OfData, OfDocument, OfLimit}
use Rattle.rule_document_definitions.specs.PlacedDocumentFaults.{PlacedDocumentFault, places_in, IsValidDocument}
use Rattle.rule_document_definitions.specs.Verdict.{WithinBounds}
use Rattle.graphql_validation.specs.LastingRules.{LastingFails}
use Rattle.graphql_validation.proofs.Reasons.{lasting_is_fault, cycle_is_fault}
use Rattle.graphql_faults.specs.DetailsTree.{of_typing}
use Rattle.graphql_faults.specs.DetailsView.{diagnostics_of}
use Rattle.graphql_validation.specs.TellsDocument.{FailsOtherwise, SomeFails}
use Rattle.book_validity.specs.in_verdict_definitions.Texts.{SourceText, Tree}
use Rattle.book_validity.specs.in_verdict_definitions.Meaning.{document_over}
use Rattle.book_validity.specs.in_verdict_definitions.Judge.{IsDocumentCertain}
use Rattle.book_validity.specs.in_verdict_definitions.Says.{AnyFault, UnreadFault, TypingFailsOver, RuleFailsBeside, DocumentFailsOver}
use Rattle.book_validity.specs.in_verdict_definitions.Out.{Layout, layout_text}
use Rattle.book_validity.specs.in_verdict_definitions.Answer.{UnreadAlone, RefusesDocument, WritesDocument}
use Rattle.checker_schemas.specs.CheckedSchemaValue.{CheckedSchemaValue}
use Rattle.graphql_checked.specs.CheckerValue.{IsCheckedDocumentOf}
use Rattle.graphql_checked.specs.DocumentRefusals.{RefusalOfDocument, TypingOrLastingFails, TellsLastingOfFound, RefusalWithLasting}
use Rattle.checker_calls.specs.TellsOnly.{TellsOnly}
use Rattle.graphql_checked.specs.Checking.{IsReadDocument, IsUnreadDocument, TypesDocument, RefusalOfTyping, RefusalOfRules}
use Rattle.checker_calls.specs.declared.refusal.Refusal.{Refusal}
use Rattle.checker_calls.specs.declared.refusal.Refusal.TheVariants.{Faults, Memory, Failed}
use Rattle.checker_calls.proofs.Deciding.{one_tree, unread_not_read, is_read}

-- what is told in full, in the words of the rules on documents
fails_otherwise : (schema : SchemaTree Place) (document : MeantDocument Place) (fault : PlacedDocumentFault) → RuleFailsBeside (places_in schema) (judged schema) document fault → FailsOtherwise schema document fault
fails_otherwise schema document (OfData fault) h = h
fails_otherwise schema document (OfDocument fault) h = h
fails_otherwise schema document (OfLimit place) h = h

-- a list of one is not empty
some_one : (fault : AnyFault) (faults : List AnyFault) → faults ≡ fault ∷ [] → faults ≢ []
some_one fault faults is none = let e : [] ≡ fault ∷ [] = sym none ∙ is in absurd cc

-- a document that is not read is refused with its fault alone
pub unread_alone : (schema : SchemaTree Place) (nesting number : ℕ) (text : SourceText) (faults : List AnyFault) → UnreadAlone nesting number text faults → RefusesDocument schema nesting number text faults
unread_alone schema nesting number text faults (here, (is, unread)) = record {
  some = some_one here faults is;
  says = λ fault h. inl (subst (UnreadFault nesting number text) (sym (only here fault (subst (λ l. Contains l fault) is h))) unread);
  alone = inl (here, (is, unread));
  full = λ within tree read fault fails. absurd (unread_not_read nesting number text here unread (is_read nesting number text tree read within));
  rules = λ within tree read typed fault fails. absurd (unread_not_read nesting number text here unread (is_read nesting number text tree read within));
}

module _ (schema : CheckedSchemaValue) (text : SourceText) where
  -- ---- a document that is not read

  -- the one fault that is told says why
  pub tells_unread : (fault : AnyFault) (refusal : Refusal) → UnreadFault schema.nesting schema.number text fault → TellsOnly fault refusal → IsUnreadDocument schema text refusal
  tells_unread fault (Faults list) unread told = (fault, (told, unread))
  tells_unread fault Memory unread told = tt
  tells_unread fault Failed unread told = told

  pub unread_refusal : (refusal : Refusal) → IsUnreadDocument schema text refusal → RefusalOfDocument schema text refusal
  unread_refusal (Faults list) unread = unread_alone schema.schema schema.nesting schema.number text (diagnostics_of list) unread
  unread_refusal Memory unread = tt
  unread_refusal Failed unread = unread

  pub unread_lasting : (refusal : Refusal) → IsUnreadDocument schema text refusal → RefusalWithLasting schema text refusal
  unread_lasting (Faults list) (here, (is, unread)) = record {
    full = λ within tree read typed fault fails. absurd (unread_not_read schema.nesting schema.number text here unread (is_read schema.nesting schema.number text tree read within));
    first = λ within tree read f fails. absurd (unread_not_read schema.nesting schema.number text here unread (is_read schema.nesting schema.number text tree read within));
    only = λ within tree read f fails fault c. absurd (unread_not_read schema.nesting schema.number text here unread (is_read schema.nesting schema.number text tree read within));
  }
  unread_lasting Memory unread = tt
  unread_lasting Failed unread = unread

  pub unread_certain : (refusal : Refusal) → IsUnreadDocument schema text refusal → IsDocumentCertain schema.schema schema.nesting schema.number text → refusal ≡ Memory
  unread_certain (Faults list) (here, (is, unread)) certain =
      absurd (unread_not_read schema.nesting schema.number text here unread (is_read schema.nesting schema.number text certain.0.judged.tree certain.0.judged.read certain.0.within))
  unread_certain Memory unread certain = refl
  unread_certain Failed unread certain = absurd unread

  -- ---- a document that is read

  module _ (tree : Tree) (read : IsReadDocument schema text tree) where
    -- a text has one tree
    same : (other : Tree) → IsReadDocument schema text other → other ≡ tree
    same other reads = one_tree schema.number text other tree reads.0 read.0

    -- rules of typing are broken
    pub typing_refusal : (refusal : Refusal) → RefusalOfTyping schema.schema tree refusal → RefusalOfDocument schema text refusal
    typing_refusal (Faults list) h = record {
      some = h.some;
      says = λ fault c. inr (tree, (read.0, lasting_says fault (h.right fault c)));
      alone = inr (is_read schema.nesting schema.number text tree read.0 read.1);
      full = λ within other reads fault fails. h.full fault (subst (λ t. TypingFailsOver schema.schema t fault) (same other (reads, within)) fails);
      rules = λ within other reads typed fault fails.
          absurd (typed h.broken.0 (subst (λ t. TypingFailsOver schema.schema t h.broken.0) (sym (same other (reads, within))) h.broken.1));
    }
      where
        lasting_says : (fault : AnyFault) → TypingOrLastingFails schema.schema tree fault → DocumentFailsOver schema.schema tree fault
        lasting_says fault (inl p) = inl p
        lasting_says fault (inr (f, (is, inl fails))) =
            inr (f, (is, inl (lasting_is_fault (places_in schema.schema) (judged schema.schema) (document_over schema.schema tree) f fails)))
        lasting_says fault (inr (f, (is, inr fails))) =
            inr (f, (is, inl (cycle_is_fault (places_in schema.schema) (judged schema.schema) (document_over schema.schema tree) f fails)))
    typing_refusal Memory h = tt
    typing_refusal Failed h = h

    pub typing_certain : (refusal : Refusal) → RefusalOfTyping schema.schema tree refusal → IsDocumentCertain schema.schema schema.nesting schema.number text → refusal ≡ Memory
    typing_certain (Faults list) h certain = absurd (certain.0.judged.typed h.broken.0
        (subst (λ t. TypingFailsOver schema.schema t h.broken.0) (sym (same certain.0.judged.tree (certain.0.judged.read, certain.0.within))) h.broken.1))
    typing_certain Memory h certain = refl
    typing_certain Failed h certain = absurd h

    -- and nothing else is told but what stays broken
    pub typing_lasting : (refusal : Refusal) → RefusalOfTyping schema.schema tree refusal → RefusalWithLasting schema text refusal
    typing_lasting (Faults list) h = record {
      full = λ within other reads typed fault fails.
          absurd (typed h.broken.0 (subst (λ t. TypingFailsOver schema.schema t h.broken.0) (sym (same other (reads, within))) h.broken.1));
      first = λ within other reads f fails. subst (λ t. TellsLastingOfFound schema.schema (document_over schema.schema t) (diagnostics_of list)) (sym (same other (reads, within))) h.lasting;
      only = λ within other reads f fails fault c. subst (λ t. TypingOrLastingFails schema.schema t fault) (sym (same other (reads, within))) (h.right fault c);
    }
    typing_lasting Memory h = tt
    typing_lasting Failed h = h

    -- ---- a document that is typed

    module _ (document : MeantDocument Place) (typed : TypesDocument schema.schema tree document []) where
      -- rules on documents or on merging are broken, or bounds are passed
      pub rules_refusal : (refusal : Refusal) → RefusalOfRules schema.schema document refusal → RefusalOfDocument schema text refusal
      rules_refusal (Faults list) h = record {
        some = h.some;
        says = λ fault c. let p = h.right fault c in inr (tree, (read.0, inr (p.0, (p.1.0, subst (λ d. SomeFails schema.schema d p.0) typed.is p.1.1))));
        alone = inr (is_read schema.nesting schema.number text tree read.0 read.1);
        full = λ within other reads fault fails. not_in_nil (of_typing fault) (typed.full fault (subst (λ t. TypingFailsOver schema.schema t fault) (same other (reads, within)) fails));
        rules = λ within other reads holds fault fails.
            let e : document_over schema.schema other ≡ document = ap (document_over schema.schema) (same other (reads, within)) ∙ sym typed.is in
            h.full fault (fails_otherwise schema.schema document fault (subst (λ d. RuleFailsBeside (places_in schema.schema) (judged schema.schema) d fault) e fails));
      }
      rules_refusal Memory h = tt
      rules_refusal Failed h = h

      pub rules_lasting : (refusal : Refusal) → RefusalOfRules schema.schema document refusal → RefusalWithLasting schema text refusal
      rules_lasting (Faults list) h = record {
        full = λ within other reads holds fault fails.
            let e : document_over schema.schema other ≡ document = ap (document_over schema.schema) (same other (reads, within)) ∙ sym typed.is in
            h.lasting fault (subst (λ d. LastingFails schema.schema d fault) e fails);
        first = λ within other reads f fails.
            absurd (not_in_nil (of_typing f) (typed.full f (subst (λ t. TypingFailsOver schema.schema t f) (same other (reads, within)) fails)));
        only = λ within other reads f fails fault c.
            absurd (not_in_nil (of_typing f) (typed.full f (subst (λ t. TypingFailsOver schema.schema t f) (same other (reads, within)) fails)));
      }
      rules_lasting Memory h = tt
      rules_lasting Failed h = h

      pub rules_certain : (refusal : Refusal) → RefusalOfRules schema.schema document refusal → IsDocumentCertain schema.schema schema.nesting schema.number text → refusal ≡ Memory
      rules_certain (Faults list) h certain =
          let e : document_over schema.schema certain.0.judged.tree ≡ document = ap (document_over schema.schema) (same certain.0.judged.tree (certain.0.judged.read, certain.0.within)) ∙ sym typed.is in
          absurd (h.bounds (subst (IsValidDocument schema.schema) e certain.0.judged.holds) (subst (λ d. WithinBounds (unplaced_document d)) e certain.1))
      rules_certain Memory h certain = refl
      rules_certain Failed h certain = absurd h

      -- every rule holds
      pub accepted_document : IsValidDocument schema.schema document → IsCheckedDocumentOf schema text document
      accepted_document valid = record {
        accepted = record {
          judged = record {
            tree = tree;
            read = read.0;
            typed = λ fault fails. not_in_nil (of_typing fault) (typed.full fault fails);
            holds = subst (IsValidDocument schema.schema) typed.is valid;
          };
          within = read.1;
        };
        is = typed.is;
        written = typed.whole refl;
      }

-- the written document
pub writes_document : (schema : CheckedSchemaValue) (text : SourceText) (document : TypedDocumentTree Place) → IsCheckedDocumentOf schema text (meant_document document)
    → (layout : Layout) (written : Tree) (bytes : List ℕ) → written ≡ ast_document document → bytes ≡ layout_text layout written → WritesDocument layout schema.number text bytes
writes_document schema text document checked layout written bytes is out =
    (checked.accepted.judged.tree, (checked.accepted.judged.read, out ∙ ap (layout_text layout) (is ∙ document-written document ∙ checked.written)))
