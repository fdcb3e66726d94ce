-- What typing and judging a document find, as lists of faults.
use Rattle.std.proofs.Common.{◌≡◌, ◌≢◌, ◌≤◌, ◌⊎◌, List, [], ◌∷◌, ◌++◌, map, length, Contains, refl, ap, subst, ◌∙◌, sym, inl, inr, arith}
use Rattle.std.proofs.lemmas.List.{length-map}
use Rattle.std.proofs.lemmas.List.Elements.{Contains-append_left, Contains-append_right, Contains-append_cases}
use Rattle.std.specs.Prelude.{◌↔◌}
use Rattle.std.specs.List.{filter}
use Rattle.graphql_names.specs.Placed.{Place}
use Rattle.schema_types.specs.SchemaTree.{SchemaTree}
use Rattle.schema_types.specs.Plain.{plain}
use Rattle.spec_document.specs.MeantTree.{MeantDocument}
use Rattle.spec_document.specs.Unplaced.{unplaced_document}
use Rattle.book_validity.specs.in_typing.Meanings.{meanings}
use Rattle.book_validity.specs.in_verdict_definitions.Meaning.{document_over}
use Rattle.book_validity.specs.in_typing.KeptDocument.{kept_document}
use Rattle.book_validity.specs.in_typing.TypedByPlace.{IsTypedDocument}
use Rattle.book_validity.specs.in_typing.TypingFaults as typing
use Rattle.book_validity.specs.in_typing.TypingFaults.{TypingFails}
use Rattle.book_validity.specs.in_typing.OutDoc.{written_document, out_doc}
use Rattle.book_validity.specs.in_typing.BuilderView.{DocumentBuilder}
use Rattle.rule_definitions.proofs.Lists.{Contains-first}
use Rattle.rule_document_definitions.specs.PlacedDocumentFaults.{PlacedDocumentFault, IsValidDocument}
use Rattle.rule_document_definitions.specs.Verdict.{WithinBounds}
use Rattle.rule_document_definitions.proofs.Unplaced.{contains_map, contains_unmap}
use Rattle.graphql_validation.specs.LastingRules.{LastingFails, LastingOrCycleFails}
use Rattle.graphql_validation.specs.Lasts.{lasts}
use Rattle.graphql_validation.specs.TellsDocument.{FailsBesideMerging, SomeFails, DocumentTold}
use Rattle.graphql_validation.specs.TellsLasting.{HasLasting, LastsRightly}
use Rattle.graphql_validation.specs.in_fragments.UnlessFull.{IsFull, TellsUnlessFull}
use Rattle.graphql_validation.proofs.Filtered.{filtered, passing}
use Rattle.graphql_validation.proofs.StandingFaults.{lasting_told, lasting_lasts}
use Rattle.graphql_faults.specs.DetailsTree.{of_typing, of_document}
use Rattle.rule_definitions.specs.Room.{most_told}
use Rattle.book_validity.specs.in_verdict_definitions.Texts.{Tree}
use Rattle.book_validity.specs.in_verdict_definitions.Says.{AnyFault, TypingFailsOver}
use Rattle.book_validity.specs.in_verdict_definitions.Answer.{IsToldUnlessFull}
use Rattle.graphql_checked.specs.Checking.{TypesDocument, RefusesTyping, RefusesRules}

-- ---- lists

nil_of_map : {A B : Type 0} (f : A → B) (xs : List A) → map f xs ≡ [] → xs ≡ []
nil_of_map f [] e = refl
nil_of_map f (x ∷ xs) e = absurd cc

-- ---- typing

module _ (schema : SchemaTree Place) (tree : Tree) (found : List (typing.TypingFault Place)) (faults : List AnyFault) where
  -- what is told of them is all that breaks rules of typing
  right_told : faults ≡ map of_typing found → ((f : typing.TypingFault Place) → Contains found f ↔ TypingFailsOver schema tree f)
      → (fault : AnyFault) → Contains faults fault → (f : typing.TypingFault Place) × ((fault ≡ of_typing f) × TypingFailsOver schema tree f)
  right_told are exact fault c =
      let p = contains_unmap of_typing found fault (subst (λ l. Contains l fault) are c) in
      (p.0, (sym p.1.1, (exact p.0).0 p.1.0))

  full_told : faults ≡ map of_typing found → ((f : typing.TypingFault Place) → Contains found f ↔ TypingFailsOver schema tree f)
      → (f : typing.TypingFault Place) → TypingFailsOver schema tree f → Contains faults (of_typing f)
  full_told are exact f fails = subst (λ l. Contains l (of_typing f)) (sym are) (contains_map of_typing found f ((exact f).1 fails))

-- what a builder of a document over the schema gives
pub types_document : (schema : SchemaTree Place) (tree : Tree) (builder : DocumentBuilder) (document : MeantDocument Place) (found : List (typing.TypingFault Place)) (faults : List AnyFault)
    → builder.meanings ≡ meanings (plain schema) → builder.definitions ≡ tree → document ≡ kept_document builder.meanings builder.definitions
    → IsTypedDocument builder.meanings document → (found ≡ [] → written_document document ≡ out_doc builder.definitions)
    → ((f : typing.TypingFault Place) → Contains found f ↔ TypingFails builder.meanings builder.definitions f) → faults ≡ map of_typing found
    → TypesDocument schema tree document faults
types_document schema tree builder document found faults over of is typed whole exact are =
    let exact' : (f : typing.TypingFault Place) → Contains found f ↔ TypingFailsOver schema tree f =
    subst (λ ds. (f : typing.TypingFault Place) → Contains found f ↔ TypingFails (meanings (plain schema)) ds f) of
    (subst (λ m. (f : typing.TypingFault Place) → Contains found f ↔ TypingFails m builder.definitions f) over exact) in
    record {
      is = is ∙ (λ i. kept_document (over i) (of i));
      typed = subst (λ m. IsTypedDocument m document) over typed;
      whole = λ none. whole (nil_of_map of_typing found (sym are ∙ none)) ∙ ap out_doc of;
      right = right_told schema tree found faults are exact';
      full = full_told schema tree found faults are exact';
    }

-- where something is told of typing, some rule of it is broken
some_broken : (schema : SchemaTree Place) (tree : Tree) (faults : List AnyFault) → faults ≢ []
    → ((fault : AnyFault) → Contains faults fault → (f : typing.TypingFault Place) × ((fault ≡ of_typing f) × TypingFailsOver schema tree f))
    → (f : typing.TypingFault Place) × TypingFailsOver schema tree f
some_broken schema tree [] some right = absurd (some refl)
some_broken schema tree (fault ∷ faults) some right = let p = right fault (Contains-first fault faults fault refl) in (p.0, p.1.1)

still_some : (faults more : List AnyFault) → faults ≢ [] → faults ++ more ≢ []
still_some [] more some none = some refl
still_some (fault ∷ faults) more some none = let e : [] ≡ fault ∷ (faults ++ more) = sym none in absurd cc

-- what fails beside merging fails
otherwise_some : (schema : SchemaTree Place) (document : MeantDocument Place) (f : PlacedDocumentFault) → FailsBesideMerging schema document f → SomeFails schema document f
otherwise_some schema document f (inl h) = inl h
otherwise_some schema document f (inr (inl h)) = inr (inr (inl h))
otherwise_some schema document f (inr (inr h)) = inr (inr (inr (inl h)))

-- some rule of typing is broken; after its faults come those of the breaches found whose rules stay broken
pub refuses_typing : (schema : SchemaTree Place) (tree : Tree) (document : MeantDocument Place) (found faults : List AnyFault) → TypesDocument schema tree document found → found ≢ []
    → (breaches : List PlacedDocumentFault) → faults ≡ found ++ map of_document (filter lasts breaches)
    → TellsUnlessFull (FailsBesideMerging schema document) (HasLasting schema document) breaches → LastsRightly schema document breaches → RefusesTyping schema tree faults
refuses_typing schema tree document found faults types some breaches is tells rightly =
    let kept : List PlacedDocumentFault = filter lasts breaches in
    let told : List AnyFault = map of_document kept in
    let back = λ (f : PlacedDocumentFault) (fails : LastingFails schema (document_over schema tree) f). subst (λ d. LastingFails schema d f) (sym types.is) fails in
    subst (RefusesTyping schema tree) (sym is) (record {
      broken = some_broken schema tree found some types.right;
      some = still_some found told some;
      right = λ fault c. elim (Contains-append_cases found told fault c) [
        | inl h ↦ inl (types.right fault h)
        | inr h ↦ let p = contains_unmap of_document kept fault h in
            inr (p.0, (sym p.1.1, subst (λ d. LastingOrCycleFails schema d p.0) types.is (rightly p.0 p.1.0)))
      ];
      full = λ f fails. Contains-append_left found told (of_typing f) (types.full f fails);
      lasting = record {
        found = breaches;
        breaks = record {
          right = λ f c. subst (λ d. SomeFails schema d f) types.is (otherwise_some schema document f (tells.right f c));
          most = tells.most;
          full = elim tells.full [ inl full ↦ inl full | inr all ↦ inr (λ f fails. (filtered lasts breaches f (all f (back f fails))).0) ];
        };
        told = λ f fails c. Contains-append_right found told (of_document f) (contains_map of_document kept f (passing lasts breaches f c (lasting_lasts schema document f (back f fails))));
      };
    })

-- ---- judging

-- what has all is told, unless as many are told as one call tells
told_unless_full : {All : Type 0} (faults : List AnyFault) (told : List PlacedDocumentFault) → faults ≡ map of_document told → IsFull told ⊎ All → (f : PlacedDocumentFault) → (All → Contains told f) → IsToldUnlessFull faults (of_document f)
told_unless_full faults told is (inl full) f has = let long = length-map told of_document in inr (subst (λ l. most_told ≤ length l) (sym is) (omega (arith, full, long)))
told_unless_full faults told is (inr all) f has = inl (subst (λ l. Contains l (of_document f)) (sym is) (contains_map of_document told f (has all)))

-- some rule on documents or on merging is broken, or a bound is passed
pub refuses_rules : (schema : SchemaTree Place) (document : MeantDocument Place) (old faults : List AnyFault) → old ≡ [] → DocumentTold schema document old faults
    → (IsValidDocument schema document → WithinBounds (unplaced_document document) → faults ≡ old) → faults ≢ [] → RefusesRules schema document faults
refuses_rules schema document old faults none (told, (is, (tells, apart))) accepts some =
    let first : faults ≡ map of_document told = is ∙ ap (λ l. l ++ map of_document told) none in
    record {
      some = some;
      full = λ f fails. told_unless_full faults told first tells.full f (λ all. all.full f fails);
      right = λ fault c. let p = contains_unmap of_document told fault (subst (λ l. Contains l fault) first c) in (p.0, (sym p.1.1, tells.right p.0 p.1.0));
      lasting = λ f fails. told_unless_full faults told first tells.full f (λ all. lasting_told schema document told all f fails);
      bounds = λ valid within. some (accepts valid within ∙ none);
    }
