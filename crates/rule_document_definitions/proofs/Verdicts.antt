-- What is valid is what no rule is told of at a place; so for bounds.
use Rattle.std.proofs.Common.{◌≡◌, ◌⊎◌, ◌↔◌, refl, sym, ap, subst, Option, None, Some, Contains, is_some, inl, inr, true≢false}
use Rattle.std.proofs.lemmas.Option.{same_Some}
use Rattle.graphql_names.specs.Placed.{Place}
use Rattle.rule_definitions.specs.in_schema_types.SchemaTree.{SchemaTree}
use Rattle.spec_document.specs.MeantTree.{MeantSet, MeantDocument}
use Rattle.spec_document.specs.Unplaced.{unplaced_set, unplaced_operation, unplaced_document}
use Rattle.rule_definitions.specs.Faults.{FaultAt}
use Rattle.rule_definitions.specs.Judged.{Judged, judged}
use Rattle.rule_definitions.proofs.Lists.{not_in_nil}
use Rattle.rule_document_definitions.specs.Places.{Places}
use Rattle.rule_document_definitions.specs.DocumentFaults.{Broken, DocumentFault, OfData, OfDocument, OfLimit}
use Rattle.rule_document_definitions.specs.FaultsUnplaced.{unplaced_fault}
use Rattle.rule_document_definitions.specs.Named.{FragmentsFoundByName}
use Rattle.rule_document_definitions.specs.Selected.{operations}
use Rattle.rule_document_definitions.specs.Merging.{FieldsMerge, MergingBreaks}
use Rattle.rule_document_definitions.specs.Variables.{VariablesBreak}
use Rattle.rule_document_definitions.specs.Selections.{SelectionsBreak}
use Rattle.rule_document_definitions.specs.Fragments.{FragmentsBreak}
use Rattle.rule_document_definitions.specs.Subscriptions.{SubscriptionBreaks}
use Rattle.rule_document_definitions.specs.DocumentRules.{DataBreaks, RulesFail, MergingFails}
use Rattle.rule_document_definitions.specs.FieldSets.{document_of_set, FieldSetFails}
use Rattle.rule_document_definitions.specs.Standalone.{OperationBreaksAlone, StandaloneFails}
use Rattle.rule_document_definitions.specs.Verdict.{no_places, UnplacedFault, Merging}
use Rattle.rule_document_definitions.specs.PlacedDocumentFaults.{places_in, places_alone}
use Rattle.rule_document_definitions.specs.Laws.{RulesWithoutPlaces, MergingWithoutPlaces, SetRulesWithoutPlaces, RulesAloneWithoutPlaces, BoundsWithoutPlaces, SetBoundsWithoutPlaces, MergesWhereNothingIsTold, ValidWhereNothingIsTold, SetValidWhereNothingIsTold, ValidAloneWhereNothingIsTold, WithinBoundsWhereNothingIsTold, SetWithinBoundsWhereNothingIsTold}
use Rattle.rule_document_definitions.proofs.Unplaced.{contains_map, contains_unmap}
use Rattle.rule_document_definitions.proofs.MergingFacts.{merging_breaks_nothing}
use Rattle.rule_document_definitions.proofs.MergingUnplaced.{fields_merge_without_places}
use Rattle.rule_document_definitions.proofs.Moves.{Moves, moves_either}
use Rattle.rule_document_definitions.proofs.UnplacedValues.{Bared, Moved}
use Rattle.rule_document_definitions.proofs.UnplacedReached.{operations_same, moves_operation}
use Rattle.rule_document_definitions.proofs.UnplacedVariables.{HasSpans, variables_bared}
use Rattle.rule_document_definitions.proofs.UnplacedFragments.{unused_fragment_bared, fragments_bared}
use Rattle.rule_document_definitions.proofs.UnplacedSelections.{selections_bared, operation_alone_bared}
use Rattle.rule_document_definitions.proofs.UnplacedRoots.{subscription_bared, deferred_bared}
use Rattle.rule_document_definitions.proofs.UnplacedMerging.{merging_bared}
use Rattle.rule_document_definitions.proofs.UnplacedRoots as roots
use Rattle.rule_document_definitions.proofs.UnplacedBounds.{Told, bound_bared, path_bared}
use Rattle.rule_document_definitions.proofs.Stable.{merge_if_nothing_breaks}
use Rattle.rule_document_definitions.proofs.Heads.{recomposed}

-- ---- faults of three kinds

abbrev as_data : UnplacedFault → Option (FaultAt (Unit {0}) (Unit {0}))
as_data (OfData f) = Some f
as_data _ = None

abbrev as_broken : UnplacedFault → Option (Broken (Unit {0}))
as_broken (OfDocument b) = Some b
as_broken _ = None

module _ {P E : Type 0} (R : DocumentFault P E → Type 0) (S : UnplacedFault → Type 0) where
  moves_kinds : Moves Bared (λ g. R (OfData g)) (λ f. S (OfData f)) → Moves roots.Told (λ b. R (OfDocument b)) (λ c. S (OfDocument c))
      → ((p : P) → R (OfLimit p) → ⊥) → ((p : Unit {0}) → S (OfLimit p) → ⊥) → Moves Told R S
  moves_kinds told broken none never (OfData f) = (
    λ h. let r = (told f).0 h in (OfData r.0, (r.1.0, ap OfData r.1.1)),
    λ q. back q.0 q.1.0 q.1.1,
  )
    where
      back : (g : DocumentFault P E) → R g → OfData f ≡ unplaced_fault g → S (OfData f)
      back (OfData g) r e = (told f).1 (g, (r, same_Some _ _ (ap as_data e)))
      back (OfDocument b) r e = absurd (true≢false (ap (λ x. is_some (as_data x)) e))
      back (OfLimit p) r e = absurd (none p r)
  moves_kinds told broken none never (OfDocument c) = (
    λ h. let r = (broken c).0 h in (OfDocument r.0, (r.1.0, ap OfDocument r.1.1)),
    λ q. back q.0 q.1.0 q.1.1,
  )
    where
      back : (g : DocumentFault P E) → R g → OfDocument c ≡ unplaced_fault g → S (OfDocument c)
      back (OfData g) r e = absurd (true≢false (ap (λ x. is_some (as_broken x)) e))
      back (OfDocument b) r e = (broken c).1 (b, (r, same_Some _ _ (ap as_broken e)))
      back (OfLimit p) r e = absurd (none p r)
  moves_kinds told broken none never (OfLimit p) = (
    λ h. absurd (never p h),
    λ q. back q.0 q.1.0 q.1.1,
  )
    where
      back : (g : DocumentFault P E) → R g → OfLimit p ≡ unplaced_fault g → S (OfLimit p)
      back (OfData g) r e = absurd (true≢false (sym (ap (λ x. is_some (as_data x)) e)))
      back (OfDocument b) r e = absurd (true≢false (sym (ap (λ x. is_some (as_broken x)) e)))
      back (OfLimit q) r e = absurd (none q r)

  -- where nothing is told at places nothing is told without
  nothing_told : Moves Told R S → ((f : UnplacedFault) → S f → ⊥) ↔ ((g : DocumentFault P E) → R g → ⊥)
  nothing_told m = (
    λ h g r. h (unplaced_fault g) ((m (unplaced_fault g)).1 (g, (r, refl))),
    λ h f t. let r = (m f).0 t in h r.0 r.1.0,
  )

-- ---- the rules of a document, of a field set, without a schema

module _ {P E : Type 0} (places : Places P) (spans : HasSpans places) where
  module _ (s : Judged) (d : MeantDocument P) (named : FragmentsFoundByName d) where
    data_bared : Moved {E = E} (DataBreaks places s d) (DataBreaks no_places s (unplaced_document d))
    data_bared =
        moves_either Bared
        (moves_operation Bared d
        (λ o g. VariablesBreak places s d o g ⊎ (SelectionsBreak places s d o g ⊎ FragmentsBreak places s d o g))
        (λ o f. VariablesBreak no_places s (unplaced_document d) o f ⊎ (SelectionsBreak no_places s (unplaced_document d) o f ⊎ FragmentsBreak no_places s (unplaced_document d) o f))
        (λ o. moves_either Bared (variables_bared places d o s spans) (moves_either Bared (selections_bared places d o s) (fragments_bared places d o s spans))))
        (unused_fragment_bared places d named)

    pub rules_bared : Moves (Told {E = E}) (RulesFail places s d) (RulesFail no_places s (unplaced_document d))
    rules_bared =
        moves_kinds (RulesFail places s d) (RulesFail no_places s (unplaced_document d)) data_bared
        (moves_either roots.Told
        (moves_operation roots.Told d (λ o g. SubscriptionBreaks d o g) (λ o f. SubscriptionBreaks (unplaced_document d) o f) (λ o. subscription_bared d o named))
        (deferred_bared d))
        (λ p h. h) (λ p h. h)

  pub set_rules_bared : (s : Judged) (set : MeantSet P) → Moves (Told {E = E}) (FieldSetFails places s set) (FieldSetFails no_places s (unplaced_set set))
  set_rules_bared s set =
      moves_kinds (FieldSetFails places s set) (FieldSetFails no_places s (unplaced_set set)) (data_bared s (document_of_set places.nowhere set) (λ f c. not_in_nil f c))
      (λ f. (λ h. absurd h, λ q. absurd q.1.0)) (λ p h. h) (λ p h. h)

  pub alone_bared : (d : MeantDocument P) → FragmentsFoundByName d → Moves (Told {E = E}) (StandaloneFails places d) (StandaloneFails no_places (unplaced_document d))
  alone_bared d named =
      moves_kinds (StandaloneFails places d) (StandaloneFails no_places (unplaced_document d))
      (moves_either Bared
      (moves_operation Bared d (λ o g. OperationBreaksAlone places d g o) (λ o f. OperationBreaksAlone no_places (unplaced_document d) f o) (λ o. operation_alone_bared places d o spans))
      (unused_fragment_bared places d named))
      (deferred_bared d) (λ p h. h) (λ p h. h)

-- ---- merging

module _ {P E : Type 0} (s : Judged) (d : MeantDocument P) where
  merging_rules_bared : Moves (Told {E = E}) (MergingFails s d) (MergingFails s (unplaced_document d))
  merging_rules_bared =
      moves_kinds (MergingFails s d) (MergingFails s (unplaced_document d)) (λ f. (λ h. absurd h, λ q. absurd q.1.0))
      (moves_operation roots.Told d (λ o b. MergingBreaks s d o b) (λ o c. MergingBreaks s (unplaced_document d) o c) (λ o. merging_bared d o s))
      (λ p h. h) (λ p h. h)

  merges_exactly : Merging s (unplaced_document d) ↔ ((fault : DocumentFault P E) → MergingFails s d fault → ⊥)
  merges_exactly = (λ m fault h. none m fault h, merge)
    where
      none : Merging s (unplaced_document d) → (fault : DocumentFault P E) → MergingFails s d fault → ⊥
      none m (OfData f) h = h
      none m (OfDocument b) (o, (c, h)) = merging_breaks_nothing s d o ((fields_merge_without_places s d o).1
          (m (unplaced_operation o) (subst (λ l. Contains l (unplaced_operation o)) (sym (operations_same d)) (contains_map unplaced_operation (operations d) o c)))) b h
      none m (OfLimit p) h = h

      merge : ((fault : DocumentFault P E) → MergingFails s d fault → ⊥) → Merging s (unplaced_document d)
      merge nothing o c =
          let w = contains_unmap unplaced_operation (operations d) o (subst (λ l. Contains l o) (operations_same d) c) in
          subst (FieldsMerge s (unplaced_document d)) w.1.1 ((fields_merge_without_places s d w.0).0 (merge_if_nothing_breaks s d w.0 (λ b h. nothing (OfDocument b) (w.0, (w.1.0, h)))))

-- ---- at places

spans_in : (s : SchemaTree Place) → HasSpans (places_in s)
spans_in s = recomposed

spans_alone : HasSpans places_alone
spans_alone = recomposed

pub rules_without_places : RulesWithoutPlaces
rules_without_places s d named fault = rules_bared (places_in s) (spans_in s) (judged s) d named fault

pub merging_without_places : MergingWithoutPlaces
merging_without_places s d fault = merging_rules_bared (judged s) d fault

pub set_rules_without_places : SetRulesWithoutPlaces
set_rules_without_places s set fault = set_rules_bared (places_in s) (spans_in s) (judged s) set fault

pub rules_alone_without_places : RulesAloneWithoutPlaces
rules_alone_without_places d named fault = alone_bared places_alone spans_alone d named fault

pub bounds_without_places : BoundsWithoutPlaces
bounds_without_places d fault = bound_bared places_alone d spans_alone fault

pub set_bounds_without_places : SetBoundsWithoutPlaces
set_bounds_without_places set fault = path_bared places_alone (document_of_set places_alone.nowhere set) fault

pub merges_where_nothing_is_told : MergesWhereNothingIsTold
merges_where_nothing_is_told s d = merges_exactly (judged s) d

pub valid_where_nothing_is_told : ValidWhereNothingIsTold
valid_where_nothing_is_told s d named =
    let rules = nothing_told _ _ (rules_without_places s d named) in
    let merges = merges_where_nothing_is_told s d in (
      λ h fault q. elim q [ inl r ↦ rules.0 h.0 fault r | inr m ↦ merges.0 h.1 fault m ],
      λ none. (rules.1 (λ fault r. none fault (inl r)), merges.1 (λ fault m. none fault (inr m))),
    )

pub set_valid_where_nothing_is_told : SetValidWhereNothingIsTold
set_valid_where_nothing_is_told s set = nothing_told _ _ (set_rules_without_places s set)

pub valid_alone_where_nothing_is_told : ValidAloneWhereNothingIsTold
valid_alone_where_nothing_is_told d named = nothing_told _ _ (rules_alone_without_places d named)

pub within_bounds_where_nothing_is_told : WithinBoundsWhereNothingIsTold
within_bounds_where_nothing_is_told d = nothing_told _ _ (bounds_without_places d)

pub set_within_bounds_where_nothing_is_told : SetWithinBoundsWhereNothingIsTold
set_within_bounds_where_nothing_is_told set = nothing_told _ _ (set_bounds_without_places set)
