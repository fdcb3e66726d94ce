-- How it is shown that nothing breaks a rule.
use Rattle.std.proofs.Common.{◌≡◌, ℕ, zero, suc, List, [], ◌∷◌, None, Some, Contains, ◌⊎◌, is_some, sym, ap, subst, inl, inr, true≢false, ◌∙◌, arith}
use Rattle.std.proofs.lemmas.Option.{same_Some}
use Rattle.rule_definitions.specs.Words.{Present, AtSomeIndex, IsFirst, Repeats}
use Rattle.rule_definitions.proofs.Lists.{not_in_nil, Contains-cons}
use Rattle.spec_document.specs.MeantTree.{MeantOperation, MeantFragment, MeantDocument}
use Rattle.rule_document_definitions.specs.Selected.{Standing, own, spread_name}
use Rattle.rule_document_definitions.specs.Reached.{AtRoot, AtReached, AtReachedFragment}
use Rattle.rule_document_definitions.proofs.Levels.{level, up_to, in_selection, in_fragment_of, reached_in, root_in}

pub of_present : {X : Type 0} {Q : X → Type 0} (x : X) → Present (Some x) Q → Q x
of_present {X} {Q} x (y, (e, q)) = subst Q (sym (same_Some _ _ e)) q

pub not_present : {X : Type 0} {Q : X → Type 0} → Present None Q → ⊥
not_present (y, (e, q)) = true≢false (sym (ap is_some e))

pub not_at_index : {X : Type 0} {Q : ℕ → X → Type 0} → AtSomeIndex [] Q → ⊥
not_at_index (i, (y, (e, q))) = true≢false (sym (ap is_some e))

pub at_index : {X : Type 0} {Q : ℕ → X → Type 0} (x : X) (xs : List X) → AtSomeIndex (x ∷ xs) Q → Q 0 x ⊎ AtSomeIndex xs (λ i. Q (suc i))
at_index {X} {Q} x xs (zero, (y, (e, q))) = inl (subst (Q 0) (sym (same_Some _ _ e)) q)
at_index x xs (suc i, p) = inr (i, p)

-- of the only one
pub at_only : {X : Type 0} {Q : ℕ → X → Type 0} (x : X) → AtSomeIndex (x ∷ []) Q → Q 0 x
at_only x p = elim (at_index x [] p) [ inl q ↦ q | inr r ↦ absurd (not_at_index r) ]

module _ {X : Type 0} (name : X → List ℕ) where
  pub none_before : (xs : List X) (n : List ℕ) → IsFirst name xs n 0
  none_before xs n (k, (y, (e, (below, same)))) = absurd (omega (arith, below))

  pub none_repeats : {Q : ℕ → X → ℕ → X → Type 0} → Repeats name [] Q → ⊥
  none_repeats p = not_at_index p

  -- one alone repeats nothing
  pub one_repeats : {Q : ℕ → X → ℕ → X → Type 0} (x : X) → Repeats name (x ∷ []) Q → ⊥
  one_repeats x (zero, (later, (e, (i, (first, (is, (same, (unheard, (before, q))))))))) = absurd (omega (arith, before))
  one_repeats x (suc j, (later, (e, r))) = true≢false (sym (ap is_some e))

-- Q holds of each of these
abbrev pub Each : {X : Type 0} → (X → Type 0) → List X → Type 0
Each Q [] = Unit {0}
Each Q (x ∷ xs) = Q x × Each Q xs

pub of_each : {X : Type 0} (Q : X → Type 0) (xs : List X) → Each Q xs → (x : X) → Contains xs x → Q x
of_each Q [] qs x h = not_in_nil x h
of_each Q (z ∷ xs) (q, qs) x h = elim (Contains-cons z xs x h) [ inl e ↦ subst Q e q | inr r ↦ of_each Q xs qs x r ]

-- ---- in a document, by levels

module _ {P : Type 0} (d : MeantDocument P) (o : MeantOperation P) (n : ℕ) where
  -- at no selection that is reached
  pub none_reached : level (in_selection d) (own o) n ≡ [] → {Q : Standing P → Type 0} → AtReached d o Q → Each (λ x. Q x → ⊥) (up_to (in_selection d) (own o) n) → ⊥
  none_reached e {Q} (x, (r, q)) none = of_each (λ z. Q z → ⊥) (up_to (in_selection d) (own o) n) none x (reached_in d o n e x r) q

  -- at no selection at the root
  pub none_at_root : level (in_fragment_of d) (own o) n ≡ [] → {Q : Standing P → Type 0} → (x : Standing P) × (AtRoot d o x × Q x) → Each (λ x. Q x → ⊥) (up_to (in_fragment_of d) (own o) n) → ⊥
  none_at_root e {Q} (x, (r, q)) none = of_each (λ z. Q z → ⊥) (up_to (in_fragment_of d) (own o) n) none x (root_in d o n e x r) q

  -- at no fragment, where nothing that is reached is a spread
  pub no_fragment : level (in_selection d) (own o) n ≡ [] → Each (λ x. spread_name x.it ≡ None) (up_to (in_selection d) (own o) n) → {Q : MeantFragment P → Type 0} → AtReachedFragment d o Q → ⊥
  no_fragment e none (f, ((x, (r, (m, (s, k)))), q)) = true≢false (sym (ap is_some (sym (of_each (λ z. spread_name z.it ≡ None) (up_to (in_selection d) (own o) n) none x (reached_in d o n e x r)) ∙ s)))
