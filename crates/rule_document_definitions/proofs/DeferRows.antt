-- Rules on `@defer`, by small documents: what breaks a rule, and what next to it does not.
use Rattle.std.proofs.Common.{◌≡◌, ℕ, [], ◌∷◌, codes, bytes_eq, is_some, None, refl, sym, ap, subst, inl, inr, true≢false, arith}
use Rattle.tree_literals.specs.ValueTree.{ValueTree, StringTree, VariableTree}
use Rattle.tree_directives.specs.DirectiveTree.{Arguments, Directives}
use Rattle.tree_directives.specs.OperationQueries.{default_root_name}
use Rattle.tree_directives.specs.declared.operation_type.OperationType.TheVariants as operation
use Rattle.fault_document_errors.specs.DocumentBreaches.{DeferLabelMustNotBeVariable, DuplicateDeferLabel, DeferOnRootMutationOrSubscriptionField, DeferInSubscriptionMustBeConditional}
use Rattle.spec_document.specs.MeantTree.{MeantSelection, MeantField, MeantOperation, set_on}
use Rattle.rule_definitions.specs.Words.{AtSomeIndex}
use Rattle.rule_definitions.proofs.Lists.{only}
use Rattle.rule_document_definitions.specs.DocumentFaults.{Broken, broken}
use Rattle.rule_document_definitions.specs.Selected.{Standing, SelectionAt}
use Rattle.rule_document_definitions.specs.Reached.{first, next}
use Rattle.rule_document_definitions.specs.DeferUses.{MayBeLeftOut, ReachedAlways, IsConditional, defers, string_labels}
use Rattle.rule_document_definitions.specs.Defer.{LabelsBreak, DeferLabelMustNotBeVariableAt, DuplicateDeferLabelAt, DeferOnRootMutationOrSubscriptionFieldAt, DeferInSubscriptionMustBeConditionalAt}
use Rattle.rule_document_definitions.proofs.MergingFacts.{closed_within}
use Rattle.rule_document_definitions.proofs.RowWords.{not_present, not_at_index, at_only, none_before, one_repeats, none_reached}
use Rattle.rule_document_definitions.proofs.RowParts.{at, query_name, a_name, v_name, of_type, headed, leaf, inline_with, operation_of, query_of, alone, given, applied, at_root, stand_at, root}

-- @defer(arguments)
abbrev defer : ℕ → Arguments ℕ → Directives ℕ
defer p arguments = applied p (codes "defer") arguments ∷ []

abbrev label : ℕ → ValueTree ℕ → Arguments ℕ
label p v = given p (codes "label") v ∷ []

abbrev deferred : ℕ → Arguments ℕ → MeantSelection ℕ
deferred p arguments = inline_with p (defer p arguments) query_name (leaf 9 a_name ∷ [])

abbrev x_text : ValueTree ℕ
x_text = StringTree (codes "x")

-- ---- DeferLabelMustNotBeVariable: `{ ... @defer(label: $v) { a } }`

abbrev labelled_by_v : MeantOperation ℕ
labelled_by_v = query_of (deferred 2 (label 3 (VariableTree (at 3 v_name))) ∷ [])

label_is_a_variable : DeferLabelMustNotBeVariableAt (alone labelled_by_v) (broken 3 DeferLabelMustNotBeVariable)
label_is_a_variable = (0, (_, (refl, (_, (refl, refl)))))

-- ---- DuplicateDeferLabel: `{ ... @defer(label: "x") { a } ... @defer(label: "x") { a } }`

abbrev labelled_twice : MeantOperation ℕ
labelled_twice = query_of (deferred 2 (label 3 x_text) ∷ deferred 4 (label 5 x_text) ∷ [])

label_is_used_twice : DuplicateDeferLabelAt (alone labelled_twice) (broken 5 (DuplicateDeferLabel (codes "x") 3))
label_is_used_twice = (1, (_, (refl, (0, (_, (refl, (refl, (none_before (λ t. t.it) (string_labels (alone labelled_twice)) (codes "x"), (omega arith, refl)))))))))

-- ---- and neither: `{ ... @defer(label: "x") { a } }`, where a query may defer at its root

abbrev labelled_once : MeantOperation ℕ
labelled_once = query_of (deferred 2 (label 3 x_text) ∷ [])

labels_are_fine : (fault : Broken ℕ) → LabelsBreak (alone labelled_once) fault → ⊥
labels_are_fine fault (inl p) = not_present (at_only (record { it = x_text; place = 3 }) p)
labels_are_fine fault (inr p) = one_repeats (λ t. t.it) (record { it = codes "x"; place = 3 }) p

query_may_defer : (fault : Broken ℕ) → DeferOnRootMutationOrSubscriptionFieldAt (alone labelled_once) labelled_once fault → ⊥
query_may_defer fault p = p.0 refl

-- ---- DeferOnRootMutationOrSubscriptionField: `mutation { ... @defer { a } }`

abbrev mutation_defers : MeantOperation ℕ
mutation_defers = operation_of operation.Mutation [] (deferred 2 [] ∷ [])

mutation_may_not : DeferOnRootMutationOrSubscriptionFieldAt (alone mutation_defers) mutation_defers (broken 2 (DeferOnRootMutationOrSubscriptionField operation.Mutation))
mutation_may_not = (
  (λ e. true≢false (sym (ap (λ k. bytes_eq (default_root_name k) (codes "Query")) e))),
  (at_root 0 (deferred 2 []), (first (0, omega arith, refl), (refl, (0, (_, (refl, refl)))))),
)

-- ---- DeferInSubscriptionMustBeConditional: `subscription { s { ... @defer { a } } }`

-- s @applied { deferred }
abbrev s_with : Directives ℕ → Arguments ℕ → MeantSelection ℕ
s_with ds arguments = MeantField 2 (of_type (codes "s") query_name) (headed 2 None (codes "s") [] ds) (set_on query_name (deferred 4 arguments ∷ []))

abbrev subscribes : Directives ℕ → Arguments ℕ → MeantOperation ℕ
subscribes ds arguments = operation_of operation.Subscription [] (s_with ds arguments ∷ [])

abbrev inside : Arguments ℕ → Standing ℕ
inside arguments = stand_at (SelectionAt root 0) 0 query_name (deferred 4 arguments)

always_deferred : DeferInSubscriptionMustBeConditionalAt (alone (subscribes [] [])) (subscribes [] []) (broken 4 DeferInSubscriptionMustBeConditional)
always_deferred = (
  refl,
  (
    inside [],
    (
      next (first ((0, omega arith, refl), λ h. not_at_index h)) (inl (_, (refl, (0, omega arith, refl))), stays),
      (0, (_, (refl, ((λ h. elim h [ inl e ↦ true≢false (sym (ap is_some e)) | inr p ↦ not_present p ]), refl)))),
    ),
  ),
)
  where
    stays : MayBeLeftOut (inside []) → ⊥
    stays h = elim (at_only (applied 4 (codes "defer") []) h) [
      | inl e ↦ true≢false (sym (ap (λ n. bytes_eq n (codes "skip")) e.0))
      | inr e ↦ true≢false (sym (ap (λ n. bytes_eq n (codes "include")) e.0))
    ]

-- ---- and not so: with `@defer(if: $v)`, or below `s @skip`

abbrev if_v : Arguments ℕ
if_v = given 5 (codes "if") (VariableTree (at 5 v_name)) ∷ []

deferred_by_v : (fault : Broken ℕ) → DeferInSubscriptionMustBeConditionalAt (alone (subscribes [] if_v)) (subscribes [] if_v) fault → ⊥
deferred_by_v fault (k, (x, (r, p))) = none_reached (alone (subscribes [] if_v)) (subscribes [] if_v) 3 refl
    {Q = λ z. AtSomeIndex (defers z) (λ i e. (IsConditional e → ⊥) × (fault ≡ broken e.place DeferInSubscriptionMustBeConditional))}
    (x, (closed_within (λ y h. first h.0) (λ y z l. l.0) x r, p)) (
      (λ q. not_at_index q),
      (
        (λ q. (at_only (applied 4 (codes "defer") if_v) q).0 (inr (_, (refl, (_, (refl, tt)))))),
        ((λ q. not_at_index q), tt),
      ),
    )

abbrev skips : Directives ℕ
skips = applied 3 (codes "skip") [] ∷ []

nothing_always : (x : Standing ℕ) → ReachedAlways (alone (subscribes skips [])) (subscribes skips []) x → ⊥
nothing_always x (first (c, stays)) = stays (subst MayBeLeftOut (sym (only (at_root 0 (s_with skips [])) x c)) left_out)
  where
    left_out : MayBeLeftOut (at_root 0 (s_with skips []))
    left_out = (0, (_, (refl, inl (refl, λ e. true≢false (sym (ap is_some e))))))
nothing_always y (next {x} r l) = nothing_always x r

left_out_above : (fault : Broken ℕ) → DeferInSubscriptionMustBeConditionalAt (alone (subscribes skips [])) (subscribes skips []) fault → ⊥
left_out_above fault (k, (x, (r, p))) = nothing_always x r
