-- Whether a number is in a list.
use Rattle.std.proofs.Common.{◌≡◌, ℕ, ◌==◌, ◌||◌, ◌⊎◌, Bool, true, false, List, [], ◌∷◌, ◌++◌, reverse, Option, Some, refl, sym, ap, subst, ◌∙◌, inl, inr, true≢false, append_assoc}
use Rattle.std.specs.Prelude.{Contains, option_to_list, Result, Ok, Err, is_ok, OnOk, if◌then◌else◌}
use Rattle.std.specs.List.{list_any}
use Rattle.std.proofs.lemmas.Bool.{eqb-true, eq-eqb}
use Rattle.std.proofs.lemmas.List.{reverse-append}
use Rattle.std.proofs.lemmas.List.Elements.{Contains-append_right, Contains-append_cases}
use Rattle.rule_cycle_search.proofs.Lists.{Contains-cons, Contains-first, not_in_nil, only}

pub contains_true : (xs : List ℕ) (x : ℕ) → list_any (λ y. y == x) xs ≡ true → Contains xs x
contains_true [] x h = absurd (true≢false (sym h))
contains_true (y ∷ ys) x h = by (y == x) refl h (contains_true ys x)
  where
    by : (b : Bool) → (y == x) ≡ b → (b || list_any (λ z. z == x) ys) ≡ true → (list_any (λ z. z == x) ys ≡ true → Contains ys x) → Contains (y ∷ ys) x
    by true e k later = Contains-first y ys x (eqb-true y x e)
    by false e k later = Contains-append_right (y ∷ []) ys x (later k)

pub contains_false : (xs : List ℕ) (x : ℕ) → list_any (λ y. y == x) xs ≡ false → Contains xs x → ⊥
contains_false [] x h c = not_in_nil x c
contains_false (y ∷ ys) x h c = by (y == x) refl h (contains_false ys x)
  where
    by : (b : Bool) → (y == x) ≡ b → (b || list_any (λ z. z == x) ys) ≡ false → (list_any (λ z. z == x) ys ≡ false → Contains ys x → ⊥) → ⊥
    by true e k later = true≢false k
    by false e k later = elim (Contains-cons y ys x c) [
      | inl q ↦ true≢false (sym (eq-eqb y x q) ∙ e)
      | inr r ↦ later k r
    ]

pub contains_or_not : (xs : List ℕ) (x : ℕ) → Contains xs x ⊎ (Contains xs x → ⊥)
contains_or_not xs x = by (list_any (λ y. y == x) xs) refl
  where
    by : (b : Bool) → list_any (λ y. y == x) xs ≡ b → Contains xs x ⊎ (Contains xs x → ⊥)
    by true e = inl (contains_true xs x e)
    by false e = inr (contains_false xs x e)

pub split_at : (xs : List ℕ) (x : ℕ) → Contains xs x → (front : List ℕ) × ((rest : List ℕ) × (xs ≡ front ++ x ∷ rest))
split_at [] x h = not_in_nil x h
split_at (y ∷ ys) x h = elim (Contains-cons y ys x h) [
  | inl e ↦ ([], (ys, ap (λ z. z ∷ ys) e))
  | inr r ↦ let s = split_at ys x r in (y ∷ s.0, (s.1.0, ap (λ l. y ∷ l) s.1.1))
]

pub reverse-cons : (x : ℕ) (xs : List ℕ) → reverse (x ∷ xs) ≡ reverse xs ++ x ∷ []
reverse-cons x xs = reverse-append (x ∷ []) xs

pub in_reverse : (xs : List ℕ) (x : ℕ) → Contains (reverse xs) x → Contains xs x
in_reverse [] x h = h
in_reverse (y ∷ ys) x h = elim (Contains-append_cases (reverse ys) (y ∷ []) x (subst (λ l. Contains l x) (reverse-cons y ys) h)) [
  | inl a ↦ Contains-append_right (y ∷ []) ys x (in_reverse ys x a)
  | inr b ↦ Contains-first y ys x (sym (only y x b))
]

-- one more is taken off
pub popped : (all items items' rest : List ℕ) (o : Option ℕ) (x : ℕ) → items ≡ items' ++ option_to_list o → o ≡ Some x → all ≡ items ++ rest → all ≡ items' ++ x ∷ rest
popped all items items' rest o x pop some is = is ∙ ap (λ l. l ++ rest) (pop ∙ ap (λ q. items' ++ option_to_list q) some) ∙ append_assoc items' (x ∷ []) rest

pub on_ok_if : {E : Type 0} (r : Result (Unit {0}) E) (xs ys zs : List ℕ) → xs ≡ (if is_ok r then ys else zs) → OnOk r (xs ≡ ys)
on_ok_if (Ok u) xs ys zs e = e
on_ok_if (Err x) xs ys zs e = tt
