-- What is told of `@defer` in an operation is what breaks its rules.
use Rattle.std.proofs.Common.{◌≡◌, ◌≢◌, ◌↔◌, ◌⊎◌, ℕ, Bool, true, false, not, ◌&&◌, List, [], ◌++◌, codes, Option, None, Some, slice_get, refl, sym, ap, subst, ◌∙◌, inl, inr, true≢false, is_some, Contains}
use Rattle.std.specs.Prelude.{unwrap_or}
use Rattle.std.specs.List.{flat_map, filter}
use Rattle.std.specs.Option.{option_map_or, option_and_then}
use Rattle.std.proofs.lemmas.Option.{same_Some}
use Rattle.std.proofs.lemmas.List.Elements.{Contains-append_left, Contains-append_right, Contains-append_cases}
use Rattle.graphql_names.specs.Placed.{Placed}
use Rattle.tree_literals.specs.ValueTree.{ValueTree, NullTree, EnumTree, VariableTree, StringTree, FloatTree, IntTree, BooleanTree, ListTree, ObjectTree}
use Rattle.tree_literals.specs.ValueQueries.{variable_name, boolean_value}
use Rattle.tree_directives.specs.DirectiveTree.{DirectiveTree, Directives}
use Rattle.tree_directives.specs.declared.operation_type.OperationType.TheVariants as operation
use Rattle.rule_cycle_search.proofs.Lists.{not_in_nil, found_in, given_in, index_found, index_given}
use Rattle.spec_document.specs.MeantTree.{MeantSelection, MeantField, MeantSpread, MeantInline, MeantOperation, MeantDocument}
use Rattle.fault_document_errors.specs.DocumentBreaches.{DeferOnRootMutationOrSubscriptionField, DeferInSubscriptionMustBeConditional}
use Rattle.rule_definitions.specs.Words.{AtSomeIndex, Present}
use Rattle.rule_document_definitions.specs.DocumentFaults.{Broken, broken}
use Rattle.rule_document_definitions.specs.Selected.{Position, Standing, field_there, selection_directives}
use Rattle.rule_document_definitions.specs.DeferUses.{given_if, IsConditional}
use Rattle.rule_document_definitions.specs.Defer.{DeferOnRootMutationOrSubscriptionFieldAt, DeferInSubscriptionMustBeConditionalAt, DeferBreaks}
use Rattle.rule_selection_queries.specs.Stays.{is_directive}
use Rattle.rule_fragments.specs.ListedBreaches.{deferred_at_root, fragment_deferred, is_condition, is_conditional, deferred_always, always_deferred}
use Rattle.rule_fragments.specs.Rooted.{AreRoots}
use Rattle.rule_selection_queries.specs.Always.{AreAlways}
use Rattle.rule_selection_queries.proofs.Staying.{or_left, or_right, and_both, and_is, not_true}
use Rattle.rule_fragments.proofs.Listing.{when_true, true_when, at_index, index_at, filtered, in_filter, mapped_told, told_mapped}

-- ---- uses of @defer among directives

module _ {P : Type 0} where
  abbrev is_defer : Placed P (DirectiveTree P) → Bool
  is_defer = is_directive (codes "defer")

  -- one of those that pass
  among : (ds : Directives P) (Q : Placed P (DirectiveTree P) → Type 0) (i : ℕ) (e : Placed P (DirectiveTree P)) → slice_get ds i ≡ Some e → is_defer e ≡ true → Q e → AtSomeIndex (filter is_defer ds) (λ i e. Q e)
  among ds Q i e at k q =
      let j = index_found (filter is_defer ds) e (in_filter is_defer ds e (index_given ds i e at) k) in
      (j.0, (e, (j.1, q)))

  of_all : (ds : Directives P) (Q : Placed P (DirectiveTree P) → Type 0) → AtSomeIndex (filter is_defer ds) (λ i e. Q e) → (i : ℕ) × ((e : Placed P (DirectiveTree P)) × ((slice_get ds i ≡ Some e) × ((is_defer e ≡ true) × Q e)))
  of_all ds Q (i, (e, (at, q))) =
      let p = filtered is_defer ds e (index_given (filter is_defer ds) i e at) in
      let j = index_found ds e p.0 in
      (j.0, (e, (j.1, (p.1, q))))

  -- ---- conditions

  condition : (v : ValueTree P) → is_condition v ≡ true → (boolean_value v ≡ Some false) ⊎ Present (variable_name v) (λ n. Unit {0})
  condition (VariableTree n) h = inr (n, (refl, tt))
  condition (BooleanTree true) h = absurd (true≢false (sym h))
  condition (BooleanTree false) h = inl refl
  condition NullTree h = absurd (true≢false (sym h))
  condition (EnumTree n) h = absurd (true≢false (sym h))
  condition (StringTree t) h = absurd (true≢false (sym h))
  condition (FloatTree t) h = absurd (true≢false (sym h))
  condition (IntTree t) h = absurd (true≢false (sym h))
  condition (ListTree ts) h = absurd (true≢false (sym h))
  condition (ObjectTree ts) h = absurd (true≢false (sym h))

  false_condition : (v : ValueTree P) → boolean_value v ≡ Some false → is_condition v ≡ true
  false_condition v h = or_right (is_some (variable_name v)) (not (unwrap_or (boolean_value v) true)) (ap (λ o. not (unwrap_or o true)) h)

  variable_condition : (v : ValueTree P) → Present (variable_name v) (λ n. Unit {0}) → is_condition v ≡ true
  variable_condition v (n, (h, u)) = or_left (is_some (variable_name v)) (not (unwrap_or (boolean_value v) true)) (ap is_some h)

  abbrev Conditional : Option (Placed P (ValueTree P)) → Type 0
  Conditional o = (option_and_then (λ v. boolean_value v.it) o ≡ Some false) ⊎ Present o (λ v. Present (variable_name v.it) (λ n. Unit {0}))

  conditional_given : (o : Option (Placed P (ValueTree P))) → option_map_or (λ v. is_condition v.it) o false ≡ true → Conditional o
  conditional_given None h = absurd (true≢false (sym h))
  conditional_given (Some v) h = elim (condition v.it h) [
    | inl e ↦ inl e
    | inr p ↦ inr (v, (refl, p))
  ]

  given_conditional : (o : Option (Placed P (ValueTree P))) → Conditional o → option_map_or (λ v. is_condition v.it) o false ≡ true
  given_conditional None (inl e) = absurd (true≢false (sym (ap is_some e)))
  given_conditional None (inr (v, (e, p))) = absurd (true≢false (sym (ap is_some e)))
  given_conditional (Some v) (inl e) = false_condition v.it e
  given_conditional (Some v) (inr (w, (e, p))) = variable_condition v.it (subst (λ (u : Placed P (ValueTree P)). Present (variable_name u.it) (λ n. Unit {0})) (sym (same_Some _ _ e)) p)

  not_conditional : (e : Placed P (DirectiveTree P)) → not (is_conditional e) ≡ true → IsConditional e → ⊥
  not_conditional e h c = true≢false (sym (given_conditional (given_if e) c) ∙ not_true (is_conditional e) h)

  is_not : (e : Placed P (DirectiveTree P)) → (IsConditional e → ⊥) → not (is_conditional e) ≡ true
  is_not e never = by (is_conditional e) refl
    where
      by : (b : Bool) → is_conditional e ≡ b → not b ≡ true
      by true k = absurd (never (conditional_given (given_if e) k))
      by false k = refl

module _ {P : Type 0} (d : MeantDocument P) (o : MeantOperation P) (fault : Broken P) where
  -- ---- at the root

  abbrev AtDirective : Placed P (DirectiveTree P) → Type 0
  AtDirective e = fault ≡ broken e.place (DeferOnRootMutationOrSubscriptionField o.operation_type)

  at_directives : (ds : Directives P) → Contains (flat_map (deferred_at_root o) ds) fault → AtSomeIndex (filter is_defer ds) (λ i e. AtDirective e)
  at_directives ds c =
      let e = at_index (deferred_at_root o) ds fault c in
      let p = when_true (is_defer e.1.0) (broken e.1.0.place (DeferOnRootMutationOrSubscriptionField o.operation_type)) fault e.1.1.1 in
      among ds AtDirective e.0 e.1.0 e.1.1.0 p.0 p.1

  directives_at : (ds : Directives P) → AtSomeIndex (filter is_defer ds) (λ i e. AtDirective e) → Contains (flat_map (deferred_at_root o) ds) fault
  directives_at ds q =
      let e = of_all ds AtDirective q in
      index_at (deferred_at_root o) ds fault e.0 e.1.0 e.1.1.0 (true_when (is_defer e.1.0) (broken e.1.0.place (DeferOnRootMutationOrSubscriptionField o.operation_type)) fault e.1.1.1.0 e.1.1.1.1)

  no_field : (at : Position) (t : List ℕ) (s : MeantSelection P) → Contains (fragment_deferred o s) fault → (field_there at t s ≡ None) × AtSomeIndex (filter is_defer (selection_directives s)) (λ i e. AtDirective e)
  no_field at t (MeantField p x h s) c = not_in_nil fault c
  no_field at t (MeantSpread p n ds) c = (refl, at_directives ds c)
  no_field at t (MeantInline p x ds s) c = (refl, at_directives ds c)

  field_no : (at : Position) (t : List ℕ) (s : MeantSelection P) → field_there at t s ≡ None → AtSomeIndex (filter is_defer (selection_directives s)) (λ i e. AtDirective e) → Contains (fragment_deferred o s) fault
  field_no at t (MeantField p x h s) e q = absurd (true≢false (ap is_some e))
  field_no at t (MeantSpread p n ds) e q = directives_at ds q
  field_no at t (MeantInline p x ds s) e q = directives_at ds q

  pub at_roots : (ss : List (MeantSelection P)) → AreRoots d o ss → o.operation_type ≢ operation.Query → Contains (flat_map (fragment_deferred o) ss) fault → DeferOnRootMutationOrSubscriptionFieldAt d o fault
  at_roots ss (xs, (is, (roots, apart))) other c =
      let x = mapped_told (λ (x : Standing P). x.it) (fragment_deferred o) xs fault (subst (λ l. Contains (flat_map (fragment_deferred o) l) fault) (sym is) c) in
      (other, (x.0, ((roots x.0).0 x.1.0, no_field x.0.position x.0.parent x.0.it x.1.1)))

  pub roots_at : (ss : List (MeantSelection P)) → AreRoots d o ss → DeferOnRootMutationOrSubscriptionFieldAt d o fault → Contains (flat_map (fragment_deferred o) ss) fault
  roots_at ss (xs, (is, (roots, apart))) (other, (x, (r, (e, q)))) =
      subst (λ l. Contains (flat_map (fragment_deferred o) l) fault) is
      (told_mapped (λ (x : Standing P). x.it) (fragment_deferred o) xs fault x ((roots x).1 r) (field_no x.position x.parent x.it e q))

  -- ---- always reached

  abbrev AtAlways : Placed P (DirectiveTree P) → Type 0
  AtAlways e = (IsConditional e → ⊥) × (fault ≡ broken e.place DeferInSubscriptionMustBeConditional)

  always_at : (ds : Directives P) → Contains (flat_map deferred_always ds) fault → AtSomeIndex (filter is_defer ds) (λ i e. AtAlways e)
  always_at ds c =
      let e = at_index deferred_always ds fault c in
      let p = when_true (is_defer e.1.0 && not (is_conditional e.1.0)) (broken e.1.0.place DeferInSubscriptionMustBeConditional) fault e.1.1.1 in
      let q = and_both (is_defer e.1.0) (not (is_conditional e.1.0)) p.0 in
      among ds AtAlways e.0 e.1.0 e.1.1.0 q.0 (not_conditional e.1.0 q.1, p.1)

  at_always : (ds : Directives P) → AtSomeIndex (filter is_defer ds) (λ i e. AtAlways e) → Contains (flat_map deferred_always ds) fault
  at_always ds q =
      let e = of_all ds AtAlways q in
      index_at deferred_always ds fault e.0 e.1.0 e.1.1.0 (true_when (is_defer e.1.0 && not (is_conditional e.1.0)) (broken e.1.0.place DeferInSubscriptionMustBeConditional) fault
      (and_is (is_defer e.1.0) (not (is_conditional e.1.0)) e.1.1.1.0 (is_not e.1.0 e.1.1.1.1.0)) e.1.1.1.1.1)

  pub in_subscription : (ss : List (MeantSelection P)) → AreAlways d o ss → o.operation_type ≡ operation.Subscription → Contains (flat_map always_deferred ss) fault → DeferInSubscriptionMustBeConditionalAt d o fault
  in_subscription ss all kind c =
      let s = found_in always_deferred fault ss c in
      let x = (all s.0).0 s.1.0 in
      (kind, (x.0, (x.1.0, subst (λ z. AtSomeIndex (filter is_defer (selection_directives z)) (λ i e. AtAlways e)) (sym x.1.1) (always_at (selection_directives s.0) s.1.1))))

  pub subscription_in : (ss : List (MeantSelection P)) → AreAlways d o ss → DeferInSubscriptionMustBeConditionalAt d o fault → Contains (flat_map always_deferred ss) fault
  subscription_in ss all (kind, (x, (r, q))) = given_in always_deferred fault ss x.it ((all x.it).1 (x, (r, refl))) (at_always (selection_directives x.it) q)

-- ---- the rules together, for each kind of operation

module _ {P : Type 0} (d : MeantDocument P) (o : MeantOperation P) where
  pub of_query : o.operation_type ≡ operation.Query → (operation.Query ≡ operation.Subscription → ⊥) → (fault : Broken P) → Contains [] fault ↔ DeferBreaks d o fault
  of_query kind never fault = (
    (λ c. not_in_nil fault c),
    (λ breaks. elim breaks [
      | inl p ↦ absurd (p.0 kind)
      | inr p ↦ absurd (never (sym kind ∙ p.0))
    ]),
  )

  pub of_mutation : (ss : List (MeantSelection P)) → AreRoots d o ss → o.operation_type ≢ operation.Query → (o.operation_type ≡ operation.Subscription → ⊥) → (fault : Broken P) → Contains (flat_map (fragment_deferred o) ss) fault ↔ DeferBreaks d o fault
  of_mutation ss roots other never fault = (
    (λ c. inl (at_roots d o fault ss roots other c)),
    (λ breaks. elim breaks [
      | inl p ↦ roots_at d o fault ss roots p
      | inr p ↦ absurd (never p.0)
    ]),
  )

  pub of_subscription : (ss ts : List (MeantSelection P)) → AreRoots d o ss → AreAlways d o ts → o.operation_type ≢ operation.Query → o.operation_type ≡ operation.Subscription
      → (fault : Broken P) → Contains (flat_map (fragment_deferred o) ss ++ flat_map always_deferred ts) fault ↔ DeferBreaks d o fault
  of_subscription ss ts roots all other kind fault = (
    (λ c. elim (Contains-append_cases (flat_map (fragment_deferred o) ss) (flat_map always_deferred ts) fault c) [
      | inl a ↦ inl (at_roots d o fault ss roots other a)
      | inr b ↦ inr (in_subscription d o fault ts all kind b)
    ]),
    (λ breaks. elim breaks [
      | inl p ↦ Contains-append_left (flat_map (fragment_deferred o) ss) (flat_map always_deferred ts) fault (roots_at d o fault ss roots p)
      | inr p ↦ Contains-append_right (flat_map (fragment_deferred o) ss) (flat_map always_deferred ts) fault (subscription_in d o fault ts all p)
    ]),
  )
