-- Rules on subscriptions, by small documents: what breaks a rule, and what next to it does not.
use Rattle.std.proofs.Common.{◌≡◌, ℕ, ◌<◌, ◌==◌, zero, suc, List, [], ◌∷◌, codes, length, bytes_eq, is_some, None, Some, Contains, refl, sym, ap, subst, ◌∙◌, inl, inr, true≢false, arith}
use Rattle.std.proofs.lemmas.Option.{same_Some}
use Rattle.tree_directives.specs.DirectiveTree.{Directives}
use Rattle.tree_directives.specs.declared.operation_type.OperationType.TheVariants as operation
use Rattle.fault_document_errors.specs.DocumentBreaches.{SubscriptionUsesMultipleFields, SubscriptionUsesIntrospection, SubscriptionUsesConditionalSelection}
use Rattle.spec_document.specs.MeantTree.{MeantOperation}
use Rattle.rule_cycle_search.specs.Paths.{HasNoRepeat}
use Rattle.rule_definitions.proofs.Lists.{Contains-first}
use Rattle.rule_document_definitions.specs.DocumentFaults.{Broken, broken}
use Rattle.rule_document_definitions.specs.Selected.{StandingField, as_field, own, field_name}
use Rattle.rule_document_definitions.specs.Reached.{first}
use Rattle.rule_document_definitions.specs.RootFields.{IsRootField, AreRootFields, meta_field_names}
use Rattle.rule_document_definitions.specs.Subscriptions.{SubscriptionBreaks, SubscriptionUsesMultipleFieldsAt, SubscriptionUsesIntrospectionAt, SubscriptionUsesConditionalSelectionAt}
use Rattle.rule_document_definitions.proofs.Levels.{up_to, in_fragment_of, root_in}
use Rattle.rule_document_definitions.proofs.RowWords.{not_at_index, of_each, none_at_root}
use Rattle.rule_document_definitions.proofs.RowParts.{query_name, leaf, leaf_with, operation_of, alone, applied, at_root, leaf_at, root}

abbrev s_name : List ℕ
s_name = codes "s"

-- ---- SubscriptionUsesMultipleFields: `subscription { s s }`

abbrev s_s : MeantOperation ℕ
s_s = operation_of operation.Subscription [] (leaf 2 s_name ∷ leaf 3 s_name ∷ [])

abbrev first_s : StandingField ℕ
first_s = leaf_at root 0 query_name 2 None s_name [] []

abbrev second_s : StandingField ℕ
second_s = leaf_at root 1 query_name 3 None s_name [] []

both_s : AreRootFields (alone s_s) s_s (first_s ∷ second_s ∷ [])
both_s = (once, (λ f. (at_the_root f, in_both f)))
  where
    apart : {R : Type 0} (x : StandingField ℕ) → first_s ≡ x → second_s ≡ x → R
    apart x e i = absurd (true≢false (ap (λ (f : StandingField ℕ). f.place == 2) (e ∙ sym i)))

    once : HasNoRepeat (first_s ∷ second_s ∷ [])
    once zero zero x e i = refl
    once zero (suc zero) x e i = apart x (same_Some _ _ e) (same_Some _ _ i)
    once (suc zero) zero x e i = apart x (same_Some _ _ i) (same_Some _ _ e)
    once (suc zero) (suc zero) x e i = refl
    once (suc (suc k)) j x e i = absurd (true≢false (sym (ap is_some e)))
    once i (suc (suc k)) x e j = absurd (true≢false (sym (ap is_some j)))

    at_the_root : (f : StandingField ℕ) → Contains (first_s ∷ second_s ∷ []) f → IsRootField (alone s_s) s_s f
    at_the_root f c = of_each (IsRootField (alone s_s) s_s) (first_s ∷ second_s ∷ []) (
      (at_root 0 (leaf 2 s_name), (first (0, omega arith, refl), refl)),
      ((at_root 1 (leaf 3 s_name), (first (1, omega arith, refl), refl)), tt),
    ) f c

    in_both : (f : StandingField ℕ) → IsRootField (alone s_s) s_s f → Contains (first_s ∷ second_s ∷ []) f
    in_both f (x, (r, e)) = of_each (λ z. as_field z ≡ Some f → Contains (first_s ∷ second_s ∷ []) f) (up_to (in_fragment_of (alone s_s)) (own s_s) 1) (
      (λ i. subst (Contains (first_s ∷ second_s ∷ [])) (same_Some _ _ i) (0, omega arith, refl)),
      ((λ i. subst (Contains (first_s ∷ second_s ∷ [])) (same_Some _ _ i) (1, omega arith, refl)), tt),
    ) x (root_in (alone s_s) s_s 1 refl x r) e

two_fields : SubscriptionUsesMultipleFieldsAt (alone s_s) s_s (broken 1 (SubscriptionUsesMultipleFields None))
two_fields = (first_s ∷ second_s ∷ [], (both_s, (omega arith, refl)))

-- ---- SubscriptionUsesIntrospection: `subscription { __typename }`

abbrev asks_typename : MeantOperation ℕ
asks_typename = operation_of operation.Subscription [] (leaf 2 (codes "__typename") ∷ [])

a_meta_field : SubscriptionUsesIntrospectionAt (alone asks_typename) asks_typename (broken 2 (SubscriptionUsesIntrospection None (codes "__typename")))
a_meta_field = (leaf_at root 0 query_name 2 None (codes "__typename") [] [], ((at_root 0 (leaf 2 (codes "__typename")), (first (0, omega arith, refl), refl)), ((0, omega arith, refl), refl)))

-- ---- SubscriptionUsesConditionalSelection: `subscription { s @skip }`

abbrev skips : Directives ℕ
skips = applied 3 (codes "skip") [] ∷ []

abbrev s_or_not : MeantOperation ℕ
s_or_not = operation_of operation.Subscription [] (leaf_with 2 s_name [] skips ∷ [])

a_condition : SubscriptionUsesConditionalSelectionAt (alone s_or_not) s_or_not (broken 3 (SubscriptionUsesConditionalSelection None))
a_condition = (at_root 0 (leaf_with 2 s_name [] skips), (first (0, omega arith, refl), (0, (_, (refl, ((0, omega arith, refl), refl))))))

-- ---- and none of them: `subscription { s }`

abbrev only_s : MeantOperation ℕ
only_s = operation_of operation.Subscription [] (leaf 2 s_name ∷ [])

is_first_s : (f : StandingField ℕ) → IsRootField (alone only_s) only_s f → first_s ≡ f
is_first_s f (x, (r, e)) = of_each (λ z. as_field z ≡ Some f → first_s ≡ f) (up_to (in_fragment_of (alone only_s)) (own only_s) 1)
    ((λ i. same_Some _ _ i), tt) x (root_in (alone only_s) only_s 1 refl x r) e

no_two : (fs : List (StandingField ℕ)) → AreRootFields (alone only_s) only_s fs → 1 < length fs → ⊥
no_two [] are more = absurd (omega (arith, more))
no_two (x ∷ []) are more = absurd (omega (arith, more))
no_two (x ∷ y ∷ fs) (once, all) more = absurd (omega (
  arith,
  once 0 1 first_s
      (ap Some (sym (is_first_s x ((all x).0 (Contains-first x (y ∷ fs) x refl)))))
      (ap Some (sym (is_first_s y ((all y).0 (1, omega arith, refl))))),
))

no_meta_field : (f : StandingField ℕ) → first_s ≡ f → Contains meta_field_names (field_name f) → ⊥
no_meta_field f e c = of_each (λ n. n ≡ s_name → ⊥) meta_field_names (
  (λ i. true≢false (sym (ap (λ n. bytes_eq n s_name) i))),
  (
    (λ i. true≢false (sym (ap (λ n. bytes_eq n s_name) i))),
    ((λ i. true≢false (sym (ap (λ n. bytes_eq n s_name) i))), tt),
  ),
) (field_name f) c (sym (ap field_name e))

s_is_fine : (fault : Broken ℕ) → SubscriptionBreaks (alone only_s) only_s fault → ⊥
s_is_fine fault (k, inl (fs, (are, (more, is)))) = no_two fs are more
s_is_fine fault (k, inr (inl (f, (r, (meta, is))))) = no_meta_field f (is_first_s f r) meta
s_is_fine fault (k, inr (inr p)) = none_at_root (alone only_s) only_s 1 refl p ((λ q. not_at_index q), tt)
