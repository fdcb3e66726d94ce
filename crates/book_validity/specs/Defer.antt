-- The directive @defer, by its name: rules of the proposal on incremental delivery.
use Rattle.std.specs.Prelude.{◌≡◌, ◌≢◌, None}
use Rattle.tree_literals.specs.ValueQueries.{variable_name}
use Rattle.tree_directives.specs.declared.operation_type.OperationType.TheVariants as operation
use Rattle.rule_document_definitions.specs.Selected.{as_field}
use Rattle.rule_document_definitions.specs.Reached.{AtRoot}
use Rattle.rule_document_definitions.specs.DeferUses.{defers, labels, string_labels, IsConditional, ReachedAlways}
use Rattle.book_validity.specs.Words.{Document, Operation, Selection, Each, AreUnique}

-- Stricter: October 2021 has no such directive, nor rules for it
pub record AreDefersValid (d : Document) (o : Operation) : Type 0 where
  -- no fragment at the root of a mutation or subscription is deferred
  pub root : o.operation_type ≢ operation.Query → (x : Selection) → AtRoot d o x → as_field x ≡ None → Each (defers x) (λ e. ⊥)
  -- what a subscription always reaches is deferred only under a condition
  pub conditional : o.operation_type ≡ operation.Subscription → (x : Selection) → ReachedAlways d o x → Each (defers x) IsConditional

-- Stricter: October 2021 has no such directive, nor rules for it
pub record AreLabelsValid (d : Document) : Type 0 where
  -- a label is no variable, and labels differ
  pub fixed : Each (labels d) (λ v. variable_name v.it ≡ None)
  pub unique : AreUnique (λ t. t.it) (string_labels d)
