-- What breaks the rules on `@defer`, and after it what breaks those on subscriptions.
use Rattle.std.proofs.Common.{◌≡◌, ◌↔◌, inl, inr, ◌++◌, List, [], refl, Contains}
use Rattle.std.proofs.lemmas.List.Elements.{Contains-append_left, Contains-append_right}
use Rattle.graphql_names.specs.Placed.{Place}
use Rattle.spec_document.specs.MeantTree.{MeantDocument}
use Rattle.rule_definitions.specs.Room.{◌⊕◌}
use Rattle.rule_document_definitions.specs.Defer.{LabelsBreak}
use Rattle.rule_document_definitions.specs.DocumentFaults.{Broken}
use Rattle.rule_document_definitions.specs.DocumentRules.{DeferredBreaks}
use Rattle.rule_fragments.specs.UnlessFull.{HasAll, AddsUnlessFull}
use Rattle.rule_fragments.specs.Documents.{SomeDeferBreaks, SomeSubscriptionBreaks, SomeBreaks, DeferredTold, BreachesTold}
use Rattle.rule_fragments.proofs.UnlessFull.{as_added, adds_both, adds_first, adds_by, adds_exactly}

module _ (d : MeantDocument Place) where
  -- those on `@defer` in operations, and after them those on labels
  deferred_both : (l m : List (Broken Place)) → HasAll (SomeDeferBreaks d) l → HasAll (LabelsBreak d) m → HasAll (DeferredBreaks d) (l ++ m)
  deferred_both l m told labels f (inl h) = Contains-append_left l m f (told f h)
  deferred_both l m told labels f (inr h) = Contains-append_right l m f (labels f h)

  pub deferred_told : (old mid new : List (Broken Place)) → old ≡ [] → AddsUnlessFull old mid (SomeDeferBreaks d) (HasAll (SomeDeferBreaks d))
      → (added : List (Broken Place)) × ((new ≡ mid ⊕ added) × ((f : Broken Place) → Contains added f ↔ LabelsBreak d f)) → DeferredTold d new
  deferred_told old mid new none told (l, (e, lists)) =
      adds_first {T = HasAll (DeferredBreaks d)} old new none (adds_both {T = HasAll (SomeDeferBreaks d)} {U = HasAll (LabelsBreak d)} {V = HasAll (DeferredBreaks d)} old mid new deferred_both
      (adds_by {U = HasAll (SomeDeferBreaks d)} old mid (λ f h. inl h) (λ l h. h) told)
      (adds_by {U = HasAll (LabelsBreak d)} mid new (λ f h. inr h) (λ l h. h) (adds_exactly {Right = LabelsBreak d} mid new l e (λ f c. (lists f).0 c) (λ f h. (lists f).1 h))))

  -- and after these those on subscriptions
  breaches_both : (l m : List (Broken Place)) → HasAll (DeferredBreaks d) l → HasAll (SomeSubscriptionBreaks d) m → HasAll (SomeBreaks d) (l ++ m)
  breaches_both l m deferred told f (inl h) = Contains-append_right l m f (told f h)
  breaches_both l m deferred told f (inr h) = Contains-append_left l m f (deferred f h)

  pub breaches_told : (mid new : List (Broken Place)) → DeferredTold d mid → AddsUnlessFull mid new (SomeSubscriptionBreaks d) (HasAll (SomeSubscriptionBreaks d)) → BreachesTold d new
  breaches_told mid new deferred told =
      adds_first {T = HasAll (SomeBreaks d)} [] new refl (adds_both {T = HasAll (DeferredBreaks d)} {U = HasAll (SomeSubscriptionBreaks d)} {V = HasAll (SomeBreaks d)} [] mid new breaches_both
      (adds_by {U = HasAll (DeferredBreaks d)} [] mid (λ f h. inr h) (λ l h. h) (as_added mid deferred))
      (adds_by {U = HasAll (SomeSubscriptionBreaks d)} mid new (λ f h. inl h) (λ l h. h) told))

-- what breaks rules in one document is added where the same breaks them in the other
pub adds_same : {A B : Broken Place → Type 0} (old new : List (Broken Place)) → ((f : Broken Place) → A f ↔ B f) → (added : List (Broken Place)) × ((new ≡ old ⊕ added) × ((f : Broken Place) → Contains added f ↔ A f))
    → (added : List (Broken Place)) × ((new ≡ old ⊕ added) × ((f : Broken Place) → Contains added f ↔ B f))
adds_same old new same (l, (e, lists)) = (l, (e, λ f. ((λ c. (same f).0 ((lists f).0 c)), (λ b. (lists f).1 ((same f).1 b)))))
