-- Of a document under a schema: what is told in parts tells all, and what is silent is valid.
use Rattle.std.proofs.Common.{◌≡◌, inl, inr, Bool, true, false, List, [], ◌∷◌, ◌++◌, map, take, None, refl, subst, Contains}
use Rattle.std.specs.Prelude.{IsTrue}
use Rattle.graphql_names.specs.Placed.{Place}
use Rattle.schema_types.specs.SchemaTree.{SchemaTree}
use Rattle.schema_types.specs.Plain.{plain}
use Rattle.spec_document.specs.MeantTree.{MeantOperation, MeantFragment, MeantDocument}
use Rattle.spec_document.specs.Unplaced.{unplaced_document}
use Rattle.rule_definitions.proofs.Lists.{not_in_nil, Contains-first}
use Rattle.rule_definitions.specs.Judged.{judged}
use Rattle.rule_definitions.specs.Room.{most_told}
use Rattle.rule_definitions.specs.PlacedFaults.{PlacedFault}
use Rattle.rule_document_definitions.specs.DocumentFaults.{Broken, OfData, OfDocument, OfLimit}
use Rattle.rule_document_definitions.specs.Fragments.{ReachesItself}
use Rattle.rule_document_definitions.specs.Limits.{PassesPathBound}
use Rattle.rule_document_definitions.specs.Merging.{FieldsMerge}
use Rattle.rule_document_definitions.specs.Named.{FragmentsFoundByName}
use Rattle.rule_document_definitions.specs.Reached.{AtOperation}
use Rattle.rule_document_definitions.specs.Selected.{operations}
use Rattle.rule_document_definitions.specs.PlacedDocumentFaults.{PlacedDocumentFault, DocumentFails, DocumentMergingFails, IsValidDocument}
use Rattle.rule_document_definitions.specs.Verdict.{WithinBounds}
use Rattle.rule_document_definitions.proofs.MergingFacts.{merging_breaks_nothing}
use Rattle.rule_document_definitions.proofs.Verdicts.{valid_where_nothing_is_told, within_bounds_where_nothing_is_told}
use Rattle.rule_fragments.specs.Used.{AreUnderOwnNames, IsUsed}
use Rattle.rule_selections.proofs.Typing.{document_reaches_typed}
use Rattle.rule_fragments.specs.Nested.{NestsTooDeep}
use Rattle.rule_fragments.specs.UnlessFull.{HasAll}
use Rattle.rule_selections.specs.in_typing.Meanings.{meanings}
use Rattle.rule_merging.specs.Merged.{MergingFailsAt}
use Rattle.rule_merging.specs.in_faults.DetailsTree.{of_document}
use Rattle.rule_merging.proofs.After.{told_nothing}
use Rattle.graphql_validation.specs.Operations.{AreReachesTyped, DataFails, TellsData, AllUnder, OperationFails, all_told}
use Rattle.graphql_validation.specs.OperationChecks.{TellsUnder}
use Rattle.rule_fragments.specs.Documents.{SomeBreaks, BreachesTold}
use Rattle.rule_fragments.proofs.UnlessFull.{of_first, first_tells, tells_none}
use Rattle.graphql_validation.specs.ValidationFaults.{AnswersFragment, Telling}
use Rattle.graphql_validation.specs.TellsDocument.{IsTypedUnder, FailsOtherwise, FailsBesideMerging, FailsInMerging, SomeFails, TellsDocument, DocumentTold}
use Rattle.graphql_validation.proofs.FirstTold.{parts_told}
use Rattle.graphql_validation.proofs.Ordered.{beside_under}
use Rattle.graphql_faults.specs.Once.{KeepsOnce}
use Rattle.graphql_validation.proofs.Once.{all_once_told}
use Rattle.graphql_validation.proofs.Telling.{data_in, broken_in, limit_in, told_cases, bound_is}

module _ (s : SchemaTree Place) (d : MeantDocument Place) where
  -- ---- what is known of a typed document

  pub own_names : IsTypedUnder s d → AreUnderOwnNames d
  own_names typed e c = (typed.fragments e c).0

  pub reaches_typed : IsTypedUnder s d → AreReachesTyped s d
  reaches_typed typed o among = document_reaches_typed (meanings (plain s)) d typed o among

  -- breaches that are kept each once
  pub breaches_kept : (old new : List (Broken Place)) → (AreUnderOwnNames d → BreachesTold d old) → KeepsOnce old new → AreUnderOwnNames d → BreachesTold d new
  breaches_kept old new told keeps own = all_once_told old new keeps (told own)

  -- ---- what is told

  -- what fails beside merging, and what fails in it, fails
  otherwise_some : (f : PlacedDocumentFault) → FailsBesideMerging s d f → SomeFails s d f
  otherwise_some f (inl h) = inl h
  otherwise_some f (inr (inl h)) = inr (inr (inl h))
  otherwise_some f (inr (inr h)) = inr (inr (inr (inl h)))

  merging_some : (f : PlacedDocumentFault) → FailsInMerging s d f → SomeFails s d f
  merging_some f (inl h) = inr (inl h)
  merging_some f (inr h) = inr (inr (inr (inr h)))

  -- the rules but those on merging, and the bounds
  module _ (faults : List PlacedFault) (breaches : List (Broken Place)) (is_passed : Bool) where
    abbrev All : List PlacedDocumentFault
    All = all_told faults breaches is_passed

    pub beside : ((f : PlacedFault) → Contains faults f → DataFails d (AllUnder s d) f) → ((b : Broken Place) → Contains breaches b → SomeBreaks d b) → (IsTrue is_passed → PassesPathBound d)
        → (f : PlacedDocumentFault) → Contains (all_told faults breaches is_passed) f → FailsBesideMerging s d f
    beside fails breaks passes f c = elim (told_cases faults breaches is_passed f c) [
      | inl g ↦ subst (FailsBesideMerging s d) g.1.1 (elim (fails g.0 g.1.0) [ inl h ↦ inl h | inr h ↦ inr (inl h) ])
      | inr r ↦ elim r [
        | inl b ↦ subst (FailsBesideMerging s d) b.1.1 (inl (breaks b.0 b.1.0))
        | inr k ↦ let b = bound_is is_passed f k in inr (inr (passes b.0, inr b.1))
      ]
    ]

    tells_document : (NestsTooDeep d → IsTrue is_passed) → TellsData d (λ o. OperationFails d o s) faults → HasAll (SomeBreaks d) breaches → TellsDocument s d (all_told faults breaches is_passed)
    tells_document found parts told = record { full = full; cycles = cycles; bound = bound }
      where
        full : (f : PlacedDocumentFault) → FailsOtherwise s d f → Contains All f
        full (OfData f) h = data_in faults breaches is_passed f (parts.full f h)
        full (OfDocument b) h = broken_in faults breaches is_passed b (told b h)
        full (OfLimit place) h = absurd h

        cycles : (g : MeantFragment Place) → IsUsed d g → ReachesItself d g → (f : PlacedDocumentFault) × (Contains All f × AnswersFragment g f)
        cycles g used itself = let f = parts.cycles g used itself in (OfData f.0, (data_in faults breaches is_passed f.0 f.1.0, (f.0, (refl, f.1.1))))

        bound : NestsTooDeep d → Contains All (OfLimit None)
        bound nests = limit_in faults breaches is_passed (found nests)

  -- the same of what is found
  module _ (typed : IsTypedUnder s d) (faults : List PlacedFault) (breaches : List (Broken Place)) (is_passed : Bool)
      (parts : TellsUnder s d faults) (told : AreUnderOwnNames d → BreachesTold d breaches) (passes : IsTrue is_passed → PassesPathBound d) (found : NestsTooDeep d → IsTrue is_passed) where
    pub document_told : (old new : Telling) → new ≡ old ++ map of_document (take most_told (all_told faults breaches is_passed)) → DocumentTold s d old new
    document_told old new is =
        let given = parts (reaches_typed typed) (own_names typed) in
        let breaks = told (own_names typed) in
        let all = all_told faults breaches is_passed in
        let fails = beside faults breaches is_passed given.right breaks.right passes in (
          take most_told all,
          (
            is,
            (
              first_tells {Right = SomeFails s d} {TellsAll = TellsDocument s d} (take most_told all) all refl (λ f c. otherwise_some f (fails f c))
                  (parts_told faults breaches is_passed given.full breaks.full (tells_document faults breaches is_passed found)),
              inl (λ f c. fails f (of_first all f c)),
            ),
          ),
        )

    -- where nothing is told, that is all
    pub nothing_beside : (faults ≡ []) × ((breaches ≡ []) × (is_passed ≡ false)) → TellsDocument s d []
    nothing_beside (a, (b, e)) =
        let no_fault : TellsData d (λ o. OperationFails d o s) [] = tells_none faults (parts (reaches_typed typed) (own_names typed)) a in
        let no_breach : HasAll (SomeBreaks d) [] = tells_none breaches (told (own_names typed)) b in
        subst (λ p. TellsDocument s d (all_told [] [] p)) e (tells_document [] [] is_passed found no_fault no_breach)

  -- where they tell nothing, what merging tells is all
  tells_merging : TellsDocument s d [] → (told : List PlacedDocumentFault) → TellsDocument s d told
  tells_merging tells told = record { full = full; cycles = cycles; bound = bound }
    where
      full : (f : PlacedDocumentFault) → FailsOtherwise s d f → Contains told f
      full f h = absurd (not_in_nil f (tells.full f h))

      cycles : (g : MeantFragment Place) → IsUsed d g → ReachesItself d g → (f : PlacedDocumentFault) × (Contains told f × AnswersFragment g f)
      cycles g used itself = let f = tells.cycles g used itself in absurd (not_in_nil f.0 f.1.0)

      bound : NestsTooDeep d → Contains told (OfLimit None)
      bound nests = absurd (not_in_nil _ (tells.bound nests))

  in_merging : (f : PlacedDocumentFault) → AtOperation d (λ o. MergingFailsAt (judged s) d o f) → FailsInMerging s d f
  in_merging (OfData f) at = absurd at.1.1
  in_merging (OfDocument b) (o, (among, (breaks, later))) = inl (o, (among, breaks))
  in_merging (OfLimit place) (o, (among, (passes, is))) = inr (o, (among, (passes, λ i. OfLimit (is i))))

  module _ (old new : Telling) (all : List PlacedDocumentFault) (is : new ≡ old ++ map of_document (take most_told all))
      (conflicts : (f : PlacedDocumentFault) → Contains all f → AtOperation d (λ o. MergingFailsAt (judged s) d o f)) where
    pub merging_told : TellsDocument s d [] → DocumentTold s d old new
    merging_told tells = (
      take most_told all,
      (
        is,
        (
          first_tells {Right = SomeFails s d} {TellsAll = TellsDocument s d} (take most_told all) all refl (λ f c. merging_some f (in_merging f (conflicts f c))) (inr (tells_merging tells all)),
          inr (λ f c. in_merging f (conflicts f (of_first all f c))),
        ),
      ),
    )

  -- ---- what is silent

  no_rule : TellsDocument s d [] → (f : PlacedDocumentFault) → DocumentFails s d f → ⊥
  no_rule tells (OfData f) (inl at) = elim (beside_under d at.0 f s at.1.1) [
    | inl h ↦ not_in_nil (OfData f) (tells.full (OfData f) (inl (at.0, (at.1.0, h))))
    | inr g ↦ let t = tells.cycles g.0 (at.0, (at.1.0, g.1.0)) g.1.1 in not_in_nil t.0 t.1.0
  ]
  no_rule tells (OfData f) (inr h) = not_in_nil (OfData f) (tells.full (OfData f) (inr h))
  no_rule tells (OfDocument b) h = not_in_nil (OfDocument b) (tells.full (OfDocument b) h)
  no_rule tells (OfLimit place) h = h

  no_conflict : ((o : MeantOperation Place) → Contains (operations d) o → FieldsMerge (judged s) d o) → (f : PlacedDocumentFault) → DocumentMergingFails s d f → ⊥
  no_conflict merge (OfData f) h = h
  no_conflict merge (OfDocument b) (o, (among, breaks)) = merging_breaks_nothing (judged s) d o (merge o among) b breaks
  no_conflict merge (OfLimit place) h = h

  pub silent_is_valid : FragmentsFoundByName d → TellsDocument s d [] → ((o : MeantOperation Place) → Contains (operations d) o → FieldsMerge (judged s) d o) → IsValidDocument s d
  silent_is_valid named tells merge = (valid_where_nothing_is_told s d named).1 (λ f q. elim q [ inl h ↦ no_rule tells f h | inr h ↦ no_conflict merge f h ])

  -- nothing is told of what is valid and within the bounds
  none_of_valid : FragmentsFoundByName d → (told : List PlacedDocumentFault) → ((f : PlacedDocumentFault) → Contains told f → SomeFails s d f) → IsValidDocument s d → WithinBounds (unplaced_document d) → told ≡ []
  none_of_valid named [] fails valid within = refl
  none_of_valid named (f ∷ fs) fails valid within = elim (fails f (Contains-first f fs f refl)) [
    | inl h ↦ absurd ((valid_where_nothing_is_told s d named).0 valid f (inl h))
    | inr r ↦ elim r [
      | inl h ↦ absurd ((valid_where_nothing_is_told s d named).0 valid f (inr h))
      | inr h ↦ absurd ((within_bounds_where_nothing_is_told d).0 within f h)
    ]
  ]

  pub valid_is_silent : FragmentsFoundByName d → (old new : Telling) → DocumentTold s d old new → IsValidDocument s d → WithinBounds (unplaced_document d) → new ≡ old
  valid_is_silent named old new (told, (is, (tells, apart))) valid within = told_nothing old new told is (none_of_valid named told tells.right valid within)

-- ---- where nothing is told

module _ (faults : List PlacedFault) (breaches : List (Broken Place)) (is_passed : Bool) where
  pub only_none : all_told faults breaches is_passed ≡ [] → (faults ≡ []) × ((breaches ≡ []) × (is_passed ≡ false))
  only_none none = (
    no_member faults (λ f c. not_in_nil (OfData f) (subst (λ l. Contains l (OfData f)) none (data_in faults breaches is_passed f c))),
    (no_member breaches (λ b c. not_in_nil (OfDocument b) (subst (λ l. Contains l (OfDocument b)) none (broken_in faults breaches is_passed b c))), not_passed is_passed refl),
  )
    where
      no_member : {A : Type 0} (xs : List A) → ((x : A) → Contains xs x → ⊥) → xs ≡ []
      no_member [] never = refl
      no_member (x ∷ xs) never = absurd (never x (Contains-first x xs x refl))

      not_passed : (b : Bool) → is_passed ≡ b → b ≡ false
      not_passed false is = refl
      not_passed true is = absurd (not_in_nil _ (subst (λ l. Contains l (OfLimit None)) none (limit_in faults breaches is_passed is)))
