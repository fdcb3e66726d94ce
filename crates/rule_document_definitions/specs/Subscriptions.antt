-- Rules on the root of a subscription (GraphQL, October 2021, section 5.2.3.1; that edition has no rule against conditional selections).
use Rattle.std.specs.Prelude.{◌≡◌, ◌<◌, List, [], ◌∷◌, length, codes, Contains, ◌⊎◌}
use Rattle.tree_directives.specs.declared.operation_type.OperationType.TheVariants as operation
use Rattle.spec_document.specs.MeantTree.{MeantOperation, MeantDocument}
use Rattle.fault_document_errors.specs.DocumentBreaches.{SubscriptionUsesMultipleFields, SubscriptionUsesIntrospection, SubscriptionUsesConditionalSelection}
use Rattle.rule_definitions.specs.Words.{AtSomeIndex}
use Rattle.rule_definitions.specs.Names.{directive_name}
use Rattle.rule_document_definitions.specs.DocumentFaults.{Broken, broken}
use Rattle.rule_document_definitions.specs.Selected.{Standing, StandingField, field_name, operation_name, selection_directives}
use Rattle.rule_document_definitions.specs.Reached.{AtRoot}
use Rattle.rule_document_definitions.specs.RootFields.{meta_field_names, IsRootField, AreRootFields}

module _ {P : Type 0} (d : MeantDocument P) (o : MeantOperation P) (fault : Broken P) where
  -- SubscriptionUsesMultipleFields: a subscription is valid only if it has at most one field at its root (section 5.2.3.1)
  abbrev pub SubscriptionUsesMultipleFieldsAt : Type 0
  SubscriptionUsesMultipleFieldsAt = (fs : List (StandingField P)) × (AreRootFields d o fs × ((1 < length fs)
      × (fault ≡ broken o.place (SubscriptionUsesMultipleFields (operation_name o)))))

  -- SubscriptionUsesIntrospection: a subscription is valid only if no field at its root is a meta-field (section 5.2.3.1)
  abbrev pub SubscriptionUsesIntrospectionAt : Type 0
  SubscriptionUsesIntrospectionAt = (f : StandingField P) × (IsRootField d o f × (Contains meta_field_names (field_name f)
      × (fault ≡ broken f.place (SubscriptionUsesIntrospection (operation_name o) (field_name f)))))

  -- SubscriptionUsesConditionalSelection: a subscription is valid only if no selection at its root has `@skip` or
  -- `@include` (past section 5.2.3.1)
  abbrev pub SubscriptionUsesConditionalSelectionAt : Type 0
  SubscriptionUsesConditionalSelectionAt = (x : Standing P) × (AtRoot d o x × AtSomeIndex (selection_directives x.it) (λ i e.
      Contains (codes "skip" ∷ codes "include" ∷ []) (directive_name e) × (fault ≡ broken e.place (SubscriptionUsesConditionalSelection (operation_name o)))))

  -- a rule on subscriptions is broken, with this fault
  abbrev pub SubscriptionBreaks : Type 0
  SubscriptionBreaks = (o.operation_type ≡ operation.Subscription)
      × (SubscriptionUsesMultipleFieldsAt ⊎ (SubscriptionUsesIntrospectionAt ⊎ SubscriptionUsesConditionalSelectionAt))
