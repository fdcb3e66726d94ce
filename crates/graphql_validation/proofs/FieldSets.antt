-- Of a field set: what is told in parts tells all, and what is silent is valid.
use Rattle.std.proofs.Common.{◌≡◌, inl, inr, Bool, List, [], ◌∷◌, ◌++◌, map, take, None, refl, ap, sym, ◌∙◌, subst, Contains, true≢false, is_some}
use Rattle.std.specs.Prelude.{IsTrue}
use Rattle.graphql_names.specs.Placed.{Place}
use Rattle.schema_types.specs.SchemaTree.{SchemaTree}
use Rattle.rule_definitions.proofs.Lists.{not_in_nil, Contains-first}
use Rattle.spec_document.specs.MeantTree.{MeantSet, MeantOperation, MeantFragment, MeantDocument}
use Rattle.spec_document.specs.Unplaced.{unplaced_set}
use Rattle.rule_definitions.specs.Room.{most_told}
use Rattle.rule_definitions.specs.PlacedFaults.{PlacedFault}
use Rattle.rule_document_definitions.specs.DocumentFaults.{Broken, OfData, OfDocument, OfLimit}
use Rattle.rule_document_definitions.specs.FieldSets.{document_of_set}
use Rattle.rule_document_definitions.specs.Limits.{PassesPathBound}
use Rattle.rule_document_definitions.specs.Reached.{ReachesFragment}
use Rattle.rule_document_definitions.specs.Verdict.{FieldSetWithinBounds}
use Rattle.rule_document_definitions.specs.PlacedDocumentFaults.{PlacedDocumentFault, SetRulesFail, IsValidFieldSet}
use Rattle.rule_document_definitions.proofs.Verdicts.{set_valid_where_nothing_is_told, set_within_bounds_where_nothing_is_told}
use Rattle.rule_fragments.specs.Used.{AreUnderOwnNames}
use Rattle.rule_fragments.specs.Nested.{NestsTooDeep}
use Rattle.rule_fragments.proofs.UnlessFull.{first_tells, tells_none}
use Rattle.rule_merging.specs.in_faults.DetailsTree.{of_document}
use Rattle.rule_merging.proofs.After.{nothing_told, told_nothing}
use Rattle.rule_selections.proofs.Typing.{field_set_reaches_typed}
use Rattle.rule_selections.specs.in_typing.Meanings.{meanings}
use Rattle.schema_types.specs.Plain.{plain}
use Rattle.graphql_validation.specs.Operations.{DataFails, TellsData, AllUnder, OperationFails, all_told, AreReachesTyped}
use Rattle.graphql_validation.specs.OperationChecks.{TellsUnder}
use Rattle.graphql_validation.specs.ValidationFaults.{IsTypedSet, SetRulesOrBoundFail, TellsFieldSet, FieldSetTold, Telling}
use Rattle.graphql_validation.proofs.FirstTold.{parts_told}
use Rattle.graphql_validation.proofs.Telling.{data_in, limit_in, told_cases, bound_is}
use Rattle.graphql_validation.proofs.Ordered.{beside_under}

module _ (s : SchemaTree Place) (set : MeantSet Place) where
  abbrev Doc : MeantDocument Place
  Doc = document_of_set None set

  -- it has no fragments, and all that it reaches is typed
  pub own_names : AreUnderOwnNames Doc
  own_names e c = absurd (not_in_nil e c)

  pub reaches_typed : IsTypedSet s set → AreReachesTyped s Doc
  reaches_typed typed o among = field_set_reaches_typed (meanings (plain s)) None typed.0 set typed.1 o among

  no_fragment : (o : MeantOperation Place) (g : MeantFragment Place) → ReachesFragment Doc o g → ⊥
  no_fragment o g reaches = true≢false (sym (ap is_some reaches.1.1.1.1))

  module _ (faults : List PlacedFault) (is_passed : Bool) where
    field_set_right : ((f : PlacedFault) → Contains faults f → DataFails Doc (AllUnder s Doc) f) → (IsTrue is_passed → PassesPathBound Doc)
        → (f : PlacedDocumentFault) → Contains (all_told faults [] is_passed) f → SetRulesOrBoundFail s set f
    field_set_right fails passes f c = elim (told_cases faults [] is_passed f c) [
      | inl g ↦ subst (λ x. SetRulesOrBoundFail s set x) g.1.1 (elim (fails g.0 g.1.0) [ inl h ↦ inl h | inr h ↦ absurd (not_in_nil h.0 h.1.0) ])
      | inr r ↦ elim r [
        | inl b ↦ absurd (not_in_nil b.0 b.1.0)
        | inr k ↦ let b = bound_is is_passed f k in inr (passes b.0, inr b.1)
      ]
    ]

    tells_field_set : TellsData Doc (λ o. OperationFails Doc o s) faults → (NestsTooDeep Doc → IsTrue is_passed) → TellsFieldSet s set (all_told faults [] is_passed)
    tells_field_set parts found = record { full = full; bound = λ nests. limit_in faults [] is_passed (found nests) }
      where
        full : (f : PlacedDocumentFault) → SetRulesFail s set f → Contains (all_told faults [] is_passed) f
        full (OfData f) (inl at) = elim (beside_under Doc at.0 f s at.1.1) [
          | inl h ↦ data_in faults [] is_passed f (parts.full f (inl (at.0, (at.1.0, h))))
          | inr g ↦ absurd (no_fragment at.0 g.0 g.1.0)
        ]
        full (OfData f) (inr h) = data_in faults [] is_passed f (parts.full f (inr h))
        full (OfDocument b) h = absurd h
        full (OfLimit place) h = absurd h

  -- where the document is that of the set, and nothing is told but faults with data, and the bound
  pub told_of_set : (old new : Telling) (d : MeantDocument Place) (faults : List PlacedFault) (breaches : List (Broken Place)) (is_passed : Bool) → d ≡ Doc → breaches ≡ []
      → TellsUnder s d faults → (IsTrue is_passed → PassesPathBound d) → (NestsTooDeep d → IsTrue is_passed)
      → new ≡ old ++ map of_document (take most_told (all_told faults breaches is_passed)) → IsTypedSet s set → FieldSetTold s set old new
  told_of_set old new d faults breaches is_passed is none parts passes found told typed =
      let given = subst (λ d. TellsUnder s d faults) is parts (reaches_typed typed) own_names in
      let passes' = subst (λ d. IsTrue is_passed → PassesPathBound d) is passes in
      let found' = subst (λ d. NestsTooDeep d → IsTrue is_passed) is found in (
        take most_told (all_told faults [] is_passed),
        (
          told ∙ ap (λ bs. old ++ map of_document (take most_told (all_told faults bs is_passed))) none,
          first_tells {Right = SetRulesOrBoundFail s set} {TellsAll = TellsFieldSet s set} (take most_told (all_told faults [] is_passed)) (all_told faults [] is_passed) refl (field_set_right faults is_passed given.right passes')
              (parts_told faults [] is_passed {B = Unit {0}} given.full (inr tt) (λ all none. tells_field_set faults is_passed all found')),
        ),
      )

  pub silent_set : (old new : Telling) → FieldSetTold s set old new → new ≡ old → IsValidFieldSet s set
  silent_set old new (told, (is, tells)) same =
      let none = tells_none told tells (nothing_told old new told is same) in
      (set_valid_where_nothing_is_told s set).1 (λ f h. not_in_nil f (none.full f h))

  none_of_valid : (told : List PlacedDocumentFault) → ((f : PlacedDocumentFault) → Contains told f → SetRulesOrBoundFail s set f) → IsValidFieldSet s set → FieldSetWithinBounds (unplaced_set set) → told ≡ []
  none_of_valid [] fails valid within = refl
  none_of_valid (f ∷ fs) fails valid within = elim (fails f (Contains-first f fs f refl)) [
    | inl h ↦ absurd ((set_valid_where_nothing_is_told s set).0 valid f h)
    | inr h ↦ absurd ((set_within_bounds_where_nothing_is_told set).0 within f h)
  ]

  pub valid_set : (old new : Telling) → FieldSetTold s set old new → IsValidFieldSet s set → FieldSetWithinBounds (unplaced_set set) → new ≡ old
  valid_set old new (told, (is, tells)) valid within = told_nothing old new told is (none_of_valid told tells.right valid within)
