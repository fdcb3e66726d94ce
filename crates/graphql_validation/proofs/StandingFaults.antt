-- What is kept of the faults of a document are those that last.
use Rattle.std.proofs.Common.{◌≡◌, inl, inr, Bool, true, false, List, ◌++◌, map, take, refl, ap, sym, ◌∙◌, subst, Contains, true≢false}
use Rattle.std.specs.List.{filter}
use Rattle.graphql_names.specs.Placed.{Place}
use Rattle.schema_types.specs.SchemaTree.{SchemaTree}
use Rattle.spec_document.specs.MeantTree.{MeantDocument}
use Rattle.rule_definitions.specs.Judged.{judged}
use Rattle.rule_definitions.specs.Room.{most_told}
use Rattle.rule_definitions.specs.PlacedFaults.{PlacedFault}
use Rattle.rule_document_definitions.specs.DocumentFaults.{Broken, OfData, OfDocument, OfLimit}
use Rattle.rule_document_definitions.specs.PlacedDocumentFaults.{PlacedDocumentFault, places_in}
use Rattle.graphql_validation.specs.LastingRules.{LastingDataBreaks, LastingFails, LastingOrCycleFails}
use Rattle.graphql_validation.specs.Lasts.{fault_lasts, broken_lasts, lasts}
use Rattle.graphql_validation.proofs.Filtered.{filtered, passing}
use Rattle.graphql_validation.proofs.Passing.{data_passes, defer_passes, subscription_passes}
use Rattle.graphql_validation.proofs.Kept.{data_right, broken_right}
use Rattle.graphql_validation.proofs.Reasons.{of_variables}
use Rattle.graphql_validation.specs.Operations.{DataFails, TellsData, AllUnder, OperationFails, all_told}
use Rattle.graphql_validation.specs.OperationChecks.{TellsUnder}
use Rattle.graphql_validation.specs.ValidationFaults.{Telling}
use Rattle.rule_fragments.specs.Documents.{SomeBreaks, BreachesTold}
use Rattle.rule_fragments.specs.UnlessFull.{HasAll}
use Rattle.rule_fragments.proofs.UnlessFull.{of_first, first_tells}
use Rattle.rule_fragments.specs.Used.{AreUnderOwnNames}
use Rattle.rule_merging.specs.in_faults.DetailsTree.{of_document}
use Rattle.graphql_validation.specs.TellsDocument.{FailsBesideMerging, TellsDocument}
use Rattle.graphql_validation.specs.TellsLasting.{HasLasting, TypedLastingTold}
use Rattle.graphql_validation.proofs.FirstTold.{parts_told, lasting_all}
use Rattle.graphql_validation.proofs.WholeDocuments.{own_names, reaches_typed, beside}
use Rattle.graphql_validation.proofs.Telling.{data_in, broken_in, told_cases, bound_is}

module _ (s : SchemaTree Place) (d : MeantDocument Place) where
  module _ (faults : List PlacedFault) (breaches : List (Broken Place)) where
    abbrev kept_faults : List PlacedFault
    kept_faults = filter fault_lasts faults

    abbrev kept_breaches : List (Broken Place)
    kept_breaches = filter broken_lasts breaches

    right : ((f : PlacedFault) → Contains faults f → DataFails d (AllUnder s d) f) → ((b : Broken Place) → Contains breaches b → SomeBreaks d b)
        → (f : PlacedDocumentFault) → Contains (all_told kept_faults kept_breaches false) f → LastingOrCycleFails s d f
    right fails breaks f c = elim (told_cases kept_faults kept_breaches false f c) [
      | inl g ↦ let p = filtered fault_lasts faults g.0 g.1.0 in subst (LastingOrCycleFails s d) g.1.1 (data_right s d g.0 p.1 (fails g.0 p.0))
      | inr r ↦ elim r [
        | inl b ↦ let p = filtered broken_lasts breaches b.0 b.1.0 in subst (LastingOrCycleFails s d) b.1.1 (broken_right s d b.0 p.1 (breaks b.0 p.0))
        | inr k ↦ absurd (true≢false (sym (bound_is false f k).0))
      ]
    ]

    -- ---- and all of that is told

    module _ (parts : TellsData d (λ o. OperationFails d o s) faults) (told : HasAll (SomeBreaks d) breaches) where
      full : (f : PlacedDocumentFault) → LastingFails s d f → Contains (all_told kept_faults kept_breaches false) f
      full (OfData g) (o, (c, h)) = data_in kept_faults kept_breaches false g
          (passing fault_lasts faults g (parts.full g (inl (o, (c, fails h)))) (data_passes g (places_in s) (judged s) d o h))
        where
          fails : LastingDataBreaks (places_in s) (judged s) d o g → OperationFails d o s g
          fails (inl v) = inl (of_variables (places_in s) (judged s) d o g v)
          fails (inr (inl v)) = inr (inl (inr v))
          fails (inr (inr v)) = inr (inr (inr v))
      full (OfDocument b) (o, (c, inl h)) = broken_in kept_faults kept_breaches false b
          (passing broken_lasts breaches b (told b (inr (inl (o, (c, h))))) (defer_passes b d o h))
      full (OfDocument b) (o, (c, inr h)) = broken_in kept_faults kept_breaches false b
          (passing broken_lasts breaches b (told b (inl (o, (c, (h.0, inr h.1))))) (subscription_passes b d o h))
      full (OfLimit place) h = absurd h

  -- where of what is found the first are kept, and those of them that last are told
  pub lasting_told_of : (faults first : List PlacedFault) (breaches front : List (Broken Place)) (is_told : Bool) → TellsUnder s d faults → (AreUnderOwnNames d → BreachesTold d breaches)
      → all_told first front is_told ≡ take most_told (all_told faults breaches false)
      → (old new : Telling) → new ≡ old ++ map of_document (all_told (filter fault_lasts first) (filter broken_lasts front) false) → TypedLastingTold s d old new
  lasting_told_of faults first breaches front is_told parts told cut old new is typed =
      let given = parts (reaches_typed s d typed) (own_names s d typed) in
      let breaks = told (own_names s d typed) in
      let all = all_told faults breaches false in
      let kept = lasting_all faults breaches false in (
        take most_told all,
        (
          is ∙ ap (λ l. old ++ map of_document l) (sym (lasting_all first front is_told) ∙ ap (filter lasts) cut),
          (
            first_tells {Right = FailsBesideMerging s d} {TellsAll = HasLasting s d} (take most_told all) all refl (beside s d faults breaches false given.right breaks.right (λ no. absurd (true≢false (sym no))))
                (parts_told faults breaches false given.full breaks.full (λ more others f h. subst (λ l. Contains l f) (sym kept) (full faults breaches more others f h))),
            λ f c.
                let p = filtered lasts (take most_told all) f c in
                right faults breaches given.right breaks.right f (subst (λ l. Contains l f) kept (passing lasts all f (of_first all f p.0) p.1)),
          ),
        ),
      )

  -- what breaks such a rule lasts
  pub lasting_lasts : (f : PlacedDocumentFault) → LastingFails s d f → lasts f ≡ true
  lasting_lasts (OfData g) (o, (c, h)) = data_passes g (places_in s) (judged s) d o h
  lasting_lasts (OfDocument b) (o, (c, inl h)) = defer_passes b d o h
  lasting_lasts (OfDocument b) (o, (c, inr h)) = subscription_passes b d o h
  lasting_lasts (OfLimit place) h = absurd h

  -- ---- where all rules are judged, all of that is told, too

  pub lasting_told : (added : List PlacedDocumentFault) → TellsDocument s d added → (f : PlacedDocumentFault) → LastingFails s d f → Contains added f
  lasting_told added tells (OfData f) (o, (c, inl h)) = tells.full (OfData f) (inl (o, (c, inl (of_variables (places_in s) (judged s) d o f h))))
  lasting_told added tells (OfData f) (o, (c, inr (inl h))) = tells.full (OfData f) (inl (o, (c, inr (inl (inr h)))))
  lasting_told added tells (OfData f) (o, (c, inr (inr h))) = tells.full (OfData f) (inl (o, (c, inr (inr (inr h)))))
  lasting_told added tells (OfDocument b) (o, (c, inl h)) = tells.full (OfDocument b) (inr (inl (o, (c, h))))
  lasting_told added tells (OfDocument b) (o, (c, inr h)) = tells.full (OfDocument b) (inl (o, (c, (h.0, inr h.1))))
  lasting_told added tells (OfLimit place) h = absurd h
