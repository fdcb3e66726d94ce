-- Of a document without a schema: what is told in parts tells all, and what is silent is valid.
use Rattle.std.proofs.Common.{◌≡◌, inl, inr, Bool, List, [], ◌∷◌, ◌++◌, map, take, refl, subst, Contains}
use Rattle.std.specs.Prelude.{IsTrue}
use Rattle.graphql_names.specs.Placed.{Place}
use Rattle.rule_definitions.proofs.Lists.{not_in_nil, Contains-first}
use Rattle.spec_document.specs.MeantTree.{MeantFragment, MeantDocument}
use Rattle.spec_document.specs.Unplaced.{unplaced_document}
use Rattle.rule_definitions.specs.Room.{most_told}
use Rattle.rule_definitions.specs.PlacedFaults.{PlacedFault}
use Rattle.rule_document_definitions.specs.DocumentFaults.{Broken, OfData, OfDocument, OfLimit}
use Rattle.rule_document_definitions.specs.DocumentRules.{DeferredBreaks}
use Rattle.rule_document_definitions.specs.Fragments.{ReachesItself}
use Rattle.rule_document_definitions.specs.Limits.{PassesPathBound}
use Rattle.rule_document_definitions.specs.Verdict.{WithinBounds}
use Rattle.rule_document_definitions.specs.Named.{FragmentsFoundByName}
use Rattle.rule_document_definitions.specs.PlacedDocumentFaults.{PlacedDocumentFault, DocumentFailsAlone, IsValidAlone}
use Rattle.rule_document_definitions.proofs.Verdicts.{valid_alone_where_nothing_is_told, within_bounds_where_nothing_is_told}
use Rattle.rule_fragments.specs.Documents.{DeferredTold}
use Rattle.rule_fragments.specs.UnlessFull.{HasAll}
use Rattle.rule_fragments.proofs.UnlessFull.{first_tells, tells_none}
use Rattle.rule_fragments.specs.Used.{IsUsed}
use Rattle.rule_fragments.specs.Nested.{NestsTooDeep}
use Rattle.rule_merging.specs.in_faults.DetailsTree.{of_document}
use Rattle.rule_merging.proofs.After.{nothing_told, told_nothing}
use Rattle.graphql_validation.specs.Operations.{DataFails, TellsData, DataTold, AllAlone, OperationFailsAlone, all_told}
use Rattle.graphql_validation.proofs.Telling.{data_in, broken_in, limit_in, told_cases, bound_is}
use Rattle.graphql_validation.proofs.FirstTold.{parts_told}
use Rattle.graphql_validation.proofs.Ordered.{beside_alone}
use Rattle.graphql_validation.specs.ValidationFaults.{FailsAloneBesideCycles, AnswersFragment, RuleOrBoundFailsAlone, TellsAlone, AloneTold, Telling}

module _ (d : MeantDocument Place) where
  module _ (faults : List PlacedFault) (breaches : List (Broken Place)) (is_passed : Bool) where
    alone_right : ((f : PlacedFault) → Contains faults f → DataFails d (AllAlone d) f) → ((b : Broken Place) → Contains breaches b → DeferredBreaks d b) → (IsTrue is_passed → PassesPathBound d)
        → (f : PlacedDocumentFault) → Contains (all_told faults breaches is_passed) f → RuleOrBoundFailsAlone d f
    alone_right fails deferred passes f c = elim (told_cases faults breaches is_passed f c) [
      | inl g ↦ subst (RuleOrBoundFailsAlone d) g.1.1 (elim (fails g.0 g.1.0) [ inl h ↦ inl h | inr h ↦ inr (inl h) ])
      | inr r ↦ elim r [
        | inl b ↦ subst (RuleOrBoundFailsAlone d) b.1.1 (inl (deferred b.0 b.1.0))
        | inr k ↦ let b = bound_is is_passed f k in inr (inr (inl (passes b.0, inr b.1)))
      ]
    ]

    tells_alone : (NestsTooDeep d → IsTrue is_passed) → TellsData d (OperationFailsAlone d) faults → HasAll (DeferredBreaks d) breaches → TellsAlone d (all_told faults breaches is_passed)
    tells_alone found parts deferred = record { full = full; cycles = cycles; bound = λ nests. limit_in faults breaches is_passed (found nests) }
      where
        full : (f : PlacedDocumentFault) → FailsAloneBesideCycles d f → Contains (all_told faults breaches is_passed) f
        full (OfData f) h = data_in faults breaches is_passed f (parts.full f h)
        full (OfDocument b) h = broken_in faults breaches is_passed b (deferred b h)
        full (OfLimit place) h = absurd h

        cycles : (g : MeantFragment Place) → IsUsed d g → ReachesItself d g → (f : PlacedDocumentFault) × (Contains (all_told faults breaches is_passed) f × AnswersFragment g f)
        cycles g reached itself = let f = parts.cycles g reached itself in (OfData f.0, (data_in faults breaches is_passed f.0 f.1.0, (f.0, (refl, f.1.1))))

    pub alone_told : (old new : Telling) → DataTold d (AllAlone d) (OperationFailsAlone d) faults → DeferredTold d breaches
        → (IsTrue is_passed → PassesPathBound d) → (NestsTooDeep d → IsTrue is_passed) → new ≡ old ++ map of_document (take most_told (all_told faults breaches is_passed)) → AloneTold d old new
    alone_told old new given deferred passes found is =
        let all = all_told faults breaches is_passed in (
          take most_told all,
          (
            is,
            first_tells {Right = RuleOrBoundFailsAlone d} {TellsAll = TellsAlone d} (take most_told all) all refl (alone_right given.right deferred.right passes)
                (parts_told faults breaches is_passed given.full deferred.full (tells_alone found)),
          ),
        )

  never : TellsAlone d [] → (f : PlacedDocumentFault) → DocumentFailsAlone d f → ⊥
  never tells (OfData f) (inl at) = elim (beside_alone d at.0 f at.1.1) [
    | inl h ↦ not_in_nil (OfData f) (tells.full (OfData f) (inl (at.0, (at.1.0, h))))
    | inr g ↦ let t = tells.cycles g.0 (at.0, (at.1.0, g.1.0)) g.1.1 in not_in_nil t.0 t.1.0
  ]
  never tells (OfData f) (inr h) = not_in_nil (OfData f) (tells.full (OfData f) (inr h))
  never tells (OfDocument b) h = not_in_nil (OfDocument b) (tells.full (OfDocument b) h)
  never tells (OfLimit place) h = h

  pub silent_is_valid : FragmentsFoundByName d → (old new : Telling) → AloneTold d old new → new ≡ old → IsValidAlone d
  silent_is_valid named old new (told, (is, tells)) same = (valid_alone_where_nothing_is_told d named).1 (never (tells_none told tells (nothing_told old new told is same)))

  -- nothing is told of what is valid and within the bounds
  none_of_valid : FragmentsFoundByName d → (told : List PlacedDocumentFault) → ((f : PlacedDocumentFault) → Contains told f → RuleOrBoundFailsAlone d f) → IsValidAlone d → WithinBounds (unplaced_document d) → told ≡ []
  none_of_valid named [] fails valid within = refl
  none_of_valid named (f ∷ fs) fails valid within = elim (fails f (Contains-first f fs f refl)) [
    | inl h ↦ absurd ((valid_alone_where_nothing_is_told d named).0 valid f h)
    | inr h ↦ absurd ((within_bounds_where_nothing_is_told d).0 within f h)
  ]

  pub valid_is_silent : FragmentsFoundByName d → (old new : Telling) → AloneTold d old new → IsValidAlone d → WithinBounds (unplaced_document d) → new ≡ old
  valid_is_silent named old new (told, (is, tells)) valid within = told_nothing old new told is (none_of_valid named told tells.right valid within)
