-- Subscriptions and the uses of @defer are valid exactly when no rule on them is broken.
use Rattle.std.proofs.Common.{◌≡◌, Bool, false, refl, sym, ap, ◌∙◌, Option, None, Some, inl, inr, is_some, true≢false}
use Rattle.std.proofs.lemmas.Option.{same_Some}
use Rattle.graphql_names.specs.Placed.{Placed}
use Rattle.tree_literals.specs.ValueQueries.{variable_name}
use Rattle.tree_directives.specs.DirectiveTree.{DirectiveTree}
use Rattle.tree_directives.specs.declared.operation_type.OperationType.TheVariants as operation
use Rattle.rule_definitions.specs.Words.{Present}
use Rattle.rule_definitions.proofs.Lists.{index_found, index_given}
use Rattle.rule_document_definitions.specs.DocumentFaults.{Broken}
use Rattle.rule_document_definitions.specs.Selected.{selection_directives}
use Rattle.rule_document_definitions.specs.Named.{FragmentsFoundByName}
use Rattle.rule_document_definitions.specs.Subscriptions.{SubscriptionBreaks}
use Rattle.rule_document_definitions.specs.DeferUses.{defers, labels, string_labels, given_if, literal_if, IsConditional}
use Rattle.rule_document_definitions.specs.Defer.{DeferBreaks, LabelsBreak}
use Rattle.book_validity.specs.Words.{Document, Operation}
use Rattle.book_validity.specs.Subscriptions.{IsValidSubscription}
use Rattle.book_validity.specs.Defer.{AreDefersValid, AreLabelsValid}
use Rattle.rule_document_definitions.proofs.Decided.{Decided, stable, along, either, tests, present}
use Rattle.book_validity.proofs.Naming.{unique_from, unique_never}
use Rattle.book_validity.proofs.RootFacts.{at_most_one, one_of_all}

abbrev U : Type 0
U = Unit {0}

abbrev pub Silent : (Broken U → Type 0) → Type 0
Silent Breaks = (fault : Broken U) → Breaks fault → ⊥

module _ (d : Document) (o : Operation) where
  -- ---- subscriptions

  pub subscription_quiet : (o.operation_type ≡ operation.Subscription → IsValidSubscription d o) → Silent (SubscriptionBreaks d o)
  subscription_quiet h fault (is, inl (fs, (are, (more, told)))) = at_most_one d o (h is).single fs are more
  subscription_quiet h fault (is, inr (inl (f, (root, (meta, told))))) = (h is).no_introspection f root meta
  subscription_quiet h fault (is, inr (inr (x, (r, (i, (e, (a, (one, told)))))))) = (h is).unconditional x r e (index_given (selection_directives x.it) i e a) one

  pub quiet_subscription : FragmentsFoundByName d → Silent (SubscriptionBreaks d o) → o.operation_type ≡ operation.Subscription → IsValidSubscription d o
  quiet_subscription by_name q is = record {
    single = one_of_all d o by_name (λ fs are more. q _ (is, inl (fs, (are, (more, refl)))));
    no_introspection = λ f root meta. q _ (is, inr (inl (f, (root, (meta, refl)))));
    unconditional = λ x r e c one. let (i, a) = index_found (selection_directives x.it) e c in q _ (is, inr (inr (x, (r, (i, (e, (a, (one, refl))))))));
  }

  -- ---- @defer

  literal_or_not : (l : Option Bool) → Decided (l ≡ Some false)
  literal_or_not None = inr (λ e. true≢false (sym (ap is_some e)))
  literal_or_not (Some b) = along (ap Some) (same_Some b false) (tests b false)

  conditional_or_not : (e : Placed U (DirectiveTree U)) → Decided (IsConditional e)
  conditional_or_not e = either (literal_or_not (literal_if e))
      (present (λ v. Present (variable_name v.it) (λ n. Unit {0})) (given_if e) (λ v is. present (λ n. Unit {0}) (variable_name v.it) (λ n has. inl tt)))

  pub defers_quiet : AreDefersValid d o → Silent (DeferBreaks d o)
  defers_quiet h fault (inl (other, (x, (r, (none, (i, (e, (a, told)))))))) = h.root other x r none e (index_given (defers x) i e a)
  defers_quiet h fault (inr (is, (x, (r, (i, (e, (a, (always, told)))))))) = always (h.conditional is x r e (index_given (defers x) i e a))

  pub quiet_defers : Silent (DeferBreaks d o) → AreDefersValid d o
  quiet_defers q = record {
    root = λ other x r none e c. let (i, a) = index_found (defers x) e c in q _ (inl (other, (x, (r, (none, (i, (e, (a, refl))))))));
    conditional = λ is x r e c. let (i, a) = index_found (defers x) e c in stable (conditional_or_not e) (λ always. q _ (inr (is, (x, (r, (i, (e, (a, (always, refl)))))))));
  }

none_of : {X : Type 0} (l : Option X) → ((x : X) → l ≡ Some x → ⊥) → l ≡ None
none_of None h = refl
none_of (Some x) h = absurd (h x refl)

pub labels_quiet : (d : Document) → AreLabelsValid d → Silent (LabelsBreak d)
labels_quiet d h fault (inl (i, (v, (a, (n, (is, told)))))) = true≢false (sym (ap is_some is) ∙ ap is_some (h.fixed v (index_given (labels d) i v a)))
labels_quiet d h fault (inr r) = unique_never (λ t. t.it) (string_labels d) h.unique r

pub quiet_labels : (d : Document) → Silent (LabelsBreak d) → AreLabelsValid d
quiet_labels d q = record {
  fixed = λ v c. let (i, a) = index_found (labels d) v c in none_of (variable_name v.it) (λ n is. q _ (inl (i, (v, (a, (n, (is, refl)))))));
  unique = unique_from (λ t. t.it) (string_labels d) (λ r. q _ (inr (r.0, (r.1.0, (r.1.1.0, (r.1.1.1.0, (r.1.1.1.1.0, (r.1.1.1.1.1.0, (r.1.1.1.1.1.1.0, (r.1.1.1.1.1.1.1.0, (r.1.1.1.1.1.1.1.1.0, refl)))))))))));
}
