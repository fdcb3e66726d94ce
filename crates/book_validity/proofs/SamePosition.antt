-- Positions are the same or not.
use Rattle.std.proofs.Common.{◌≡◌, ◌⊎◌, ◌∙◌, ℕ, Bool, true, false, List, [], ◌∷◌, None, Some, bytes_eq, refl, sym, ap, inl, inr, true≢false}
use Rattle.std.specs.Option.{option_map_or}
use Rattle.std.proofs.lemmas.Slice.Eq.{bytes_eq-Decides}
use Rattle.rule_document_definitions.specs.Selected.{Position, InOperation, InFragment, SelectionAt}

-- what kind of position it is
abbrev form_of : Position → List ℕ
form_of (InOperation None) = 0 ∷ []
form_of (InOperation (Some n)) = 1 ∷ []
form_of (InFragment n) = 2 ∷ []
form_of (SelectionAt h i) = 3 ∷ []

abbrev text_of : Position → List ℕ
text_of (InOperation n) = option_map_or (λ t. t) n []
text_of (InFragment n) = n
text_of (SelectionAt h i) = i ∷ []

abbrev inside_of : Position → Position
inside_of (SelectionAt h i) = h
inside_of p = p

texts_same : (a b : List ℕ) → (a ≡ b) ⊎ (a ≡ b → ⊥)
texts_same a b = by (bytes_eq a b) refl
  where
    by : (r : Bool) → bytes_eq a b ≡ r → (a ≡ b) ⊎ (a ≡ b → ⊥)
    by true e = inl ((bytes_eq-Decides a b).0 e)
    by false e = inr (λ s. true≢false (sym ((bytes_eq-Decides a b).1 s) ∙ e))

apart : (p q : Position) → bytes_eq (form_of p) (form_of q) ≡ false → (p ≡ q) ⊎ (p ≡ q → ⊥)
apart p q differ = inr (λ e. true≢false (sym ((bytes_eq-Decides (form_of p) (form_of q)).1 (ap form_of e)) ∙ differ))

abbrev first_of : List ℕ → ℕ
first_of [] = 0
first_of (n ∷ ns) = n

pub same_or_not : (p q : Position) → (p ≡ q) ⊎ (p ≡ q → ⊥)
same_or_not (InOperation None) (InOperation None) = inl refl
same_or_not (InOperation (Some a)) (InOperation (Some b)) = elim (texts_same a b) [ inl e ↦ inl (ap (λ n. InOperation (Some n)) e) | inr n ↦ inr (λ e. n (ap text_of e)) ]
same_or_not (InFragment a) (InFragment b) = elim (texts_same a b) [ inl e ↦ inl (ap InFragment e) | inr n ↦ inr (λ e. n (ap text_of e)) ]
same_or_not (SelectionAt h i) (SelectionAt k j) = by (same_or_not h k) (texts_same (i ∷ []) (j ∷ []))
  where
    head : (i ∷ []) ≡ (j ∷ []) → i ≡ j
    head e = ap first_of e

    by : (h ≡ k) ⊎ (h ≡ k → ⊥) → ((i ∷ []) ≡ (j ∷ [])) ⊎ ((i ∷ []) ≡ (j ∷ []) → ⊥) → (SelectionAt h i ≡ SelectionAt k j) ⊎ (SelectionAt h i ≡ SelectionAt k j → ⊥)
    by (inl a) (inl b) = inl (ap (λ p. SelectionAt p i) a ∙ ap (SelectionAt k) (head b))
    by (inr n) b = inr (λ e. n (ap inside_of e))
    by (inl a) (inr n) = inr (λ e. n (ap text_of e))
same_or_not (InOperation None) (InOperation (Some b)) = apart _ _ refl
same_or_not (InOperation None) (InFragment b) = apart _ _ refl
same_or_not (InOperation None) (SelectionAt k j) = apart _ _ refl
same_or_not (InOperation (Some a)) (InOperation None) = apart _ _ refl
same_or_not (InOperation (Some a)) (InFragment b) = apart _ _ refl
same_or_not (InOperation (Some a)) (SelectionAt k j) = apart _ _ refl
same_or_not (InFragment a) (InOperation None) = apart _ _ refl
same_or_not (InFragment a) (InOperation (Some b)) = apart _ _ refl
same_or_not (InFragment a) (SelectionAt k j) = apart _ _ refl
same_or_not (SelectionAt h i) (InOperation None) = apart _ _ refl
same_or_not (SelectionAt h i) (InOperation (Some b)) = apart _ _ refl
same_or_not (SelectionAt h i) (InFragment b) = apart _ _ refl
