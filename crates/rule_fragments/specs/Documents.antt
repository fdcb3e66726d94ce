-- Private: leads to `TellsDocument`. What is told of the rules on subscriptions and on `@defer` in all operations of a document.
use Rattle.std.specs.Prelude.{List, Vec, ◌⊎◌}
use Rattle.std.specs.declared.alloc.Global.{Global}
use Rattle.graphql_names.specs.Placed.{Place}
use Rattle.fault_document_errors.specs.declared.build_error.BuildError.{BuildError}
use Rattle.spec_document.specs.MeantTree.{MeantDocument}
use Rattle.rule_document_definitions.specs.Defer.{DeferBreaks}
use Rattle.rule_document_definitions.specs.DocumentFaults.{Broken}
use Rattle.rule_document_definitions.specs.DocumentRules.{DeferredBreaks}
use Rattle.rule_document_definitions.specs.Reached.{AtOperation}
use Rattle.rule_document_definitions.specs.Subscriptions.{SubscriptionBreaks}
use Rattle.rule_fragments.specs.Broken.{brokens_of}
use Rattle.rule_fragments.specs.UnlessFull.{TellsUnlessFull, HasAll, AddsUnlessFull}

module _ (d : MeantDocument Place) where
  -- f breaks a rule on `@defer` in some operation; f breaks a rule on subscriptions in some operation
  abbrev pub SomeDeferBreaks : Broken Place → Type 0
  SomeDeferBreaks f = AtOperation d (λ o. DeferBreaks d o f)

  abbrev pub SomeSubscriptionBreaks : Broken Place → Type 0
  SomeSubscriptionBreaks f = AtOperation d (λ o. SubscriptionBreaks d o f)

  -- f breaks a rule on subscriptions or on `@defer`
  abbrev pub SomeBreaks : Broken Place → Type 0
  SomeBreaks f = SomeSubscriptionBreaks f ⊎ DeferredBreaks d f

  -- each of these breaks a rule on `@defer`, and unless the list is full, all that do are in it; the same for rules on subscriptions or on
  -- `@defer`
  abbrev pub DeferredTold : List (Broken Place) → Type 0
  DeferredTold = TellsUnlessFull (DeferredBreaks d) (HasAll (DeferredBreaks d))

  abbrev pub BreachesTold : List (Broken Place) → Type 0
  BreachesTold = TellsUnlessFull SomeBreaks (HasAll SomeBreaks)

-- breaches of the rules on `@defer` in operations are added, all of them unless the list is full; the same for those on subscriptions
abbrev pub AddsDefers : Vec (Place × BuildError) Global → Vec (Place × BuildError) Global → MeantDocument Place → Type 0
AddsDefers old new d = AddsUnlessFull (brokens_of old) (brokens_of new) (SomeDeferBreaks d) (HasAll (SomeDeferBreaks d))

abbrev pub AddsSubscriptions : Vec (Place × BuildError) Global → Vec (Place × BuildError) Global → MeantDocument Place → Type 0
AddsSubscriptions old new d = AddsUnlessFull (brokens_of old) (brokens_of new) (SomeSubscriptionBreaks d) (HasAll (SomeSubscriptionBreaks d))
