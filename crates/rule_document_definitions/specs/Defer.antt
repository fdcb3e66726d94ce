-- Rules on the directive @defer, which is judged by its name (not in October 2021: the proposal on incremental delivery).
use Rattle.std.specs.Prelude.{◌≡◌, ◌≢◌, None, ◌⊎◌}
use Rattle.tree_literals.specs.ValueQueries.{variable_name}
use Rattle.tree_directives.specs.declared.operation_type.OperationType.TheVariants as operation
use Rattle.spec_document.specs.MeantTree.{MeantOperation, MeantDocument}
use Rattle.fault_document_errors.specs.DocumentBreaches.{DeferLabelMustNotBeVariable, DuplicateDeferLabel, DeferOnRootMutationOrSubscriptionField, DeferInSubscriptionMustBeConditional}
use Rattle.rule_definitions.specs.Words.{Present, AtSomeIndex, Repeats}
use Rattle.rule_document_definitions.specs.DocumentFaults.{Broken, broken}
use Rattle.rule_document_definitions.specs.Selected.{Standing, as_field}
use Rattle.rule_document_definitions.specs.Reached.{AtRoot}
use Rattle.rule_document_definitions.specs.DeferUses.{defers, labels, string_labels, IsConditional, ReachedAlways}

module _ {P : Type 0} (d : MeantDocument P) (fault : Broken P) where
  -- DeferLabelMustNotBeVariable: a label of `@defer` is valid only if it is no variable
  abbrev pub DeferLabelMustNotBeVariableAt : Type 0
  DeferLabelMustNotBeVariableAt = AtSomeIndex (labels d) (λ i v. Present (variable_name v.it) (λ n. fault ≡ broken v.place DeferLabelMustNotBeVariable))

  -- DuplicateDeferLabel: a label of `@defer` is valid only if no earlier one is the same string
  abbrev pub DuplicateDeferLabelAt : Type 0
  DuplicateDeferLabelAt = Repeats (λ t. t.it) (string_labels d) (λ i first j later. fault ≡ broken later.place (DuplicateDeferLabel later.it first.place))

  abbrev pub LabelsBreak : Type 0
  LabelsBreak = DeferLabelMustNotBeVariableAt ⊎ DuplicateDeferLabelAt

-- ---- in an operation

module _ {P : Type 0} (d : MeantDocument P) (o : MeantOperation P) (fault : Broken P) where
  -- DeferOnRootMutationOrSubscriptionField: a `@defer` is valid only if it does not stand at the root of a mutation or
  -- subscription
  abbrev pub DeferOnRootMutationOrSubscriptionFieldAt : Type 0
  DeferOnRootMutationOrSubscriptionFieldAt = (o.operation_type ≢ operation.Query) × ((x : Standing P) × (AtRoot d o x × ((as_field x ≡ None)
      × AtSomeIndex (defers x) (λ i e. fault ≡ broken e.place (DeferOnRootMutationOrSubscriptionField o.operation_type)))))

  -- DeferInSubscriptionMustBeConditional: a `@defer` that a subscription always reaches is valid only if a condition
  -- decides on it
  abbrev pub DeferInSubscriptionMustBeConditionalAt : Type 0
  DeferInSubscriptionMustBeConditionalAt = (o.operation_type ≡ operation.Subscription) × ((x : Standing P) × (ReachedAlways d o x
      × AtSomeIndex (defers x) (λ i e. (IsConditional e → ⊥) × (fault ≡ broken e.place DeferInSubscriptionMustBeConditional))))

  abbrev pub DeferBreaks : Type 0
  DeferBreaks = DeferOnRootMutationOrSubscriptionFieldAt ⊎ DeferInSubscriptionMustBeConditionalAt
