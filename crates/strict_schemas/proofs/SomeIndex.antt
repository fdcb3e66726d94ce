-- What holds of some item of lists that are joined, flattened and mapped.
use Rattle.std.proofs.Common.{◌≡◌, ℕ, zero, suc, ◌⊎◌, ◌↔◌, inl, inr, List, [], ◌∷◌, ◌++◌, map, flat_map, slice_get, Option, None, Some, is_some, refl, sym, ap, subst, ◌∙◌, true≢false}
use Rattle.rule_definitions.specs.Words.{Present, AtSomeIndex}

-- ---- both ways

pub after : {A B C : Type 0} → A ↔ B → B ↔ C → A ↔ C
after f g = (λ a. g.0 (f.0 a), λ c. f.1 (g.1 c))

pub sums : {A B C D : Type 0} → A ↔ B → C ↔ D → (A ⊎ C) ↔ (B ⊎ D)
sums f g = (λ h. elim h [ inl a ↦ inl (f.0 a) | inr c ↦ inr (g.0 c) ], λ h. elim h [ inl b ↦ inl (f.1 b) | inr d ↦ inr (g.1 d) ])

-- ---- some item

pub nowhere : {X : Type 0} (R : X → Type 0) → AtSomeIndex [] (λ i x. R x) → ⊥
nowhere R q = true≢false (sym (ap is_some q.1.1.0))

pub absent : {X : Type 0} (o : Option X) (R : X → Type 0) → o ≡ None → Present o R → ⊥
absent o R none q = true≢false (sym (ap is_some q.1.0) ∙ ap is_some none)

pub first_or_later : {X : Type 0} (R : X → Type 0) (x : X) (xs : List X) → (R x ⊎ AtSomeIndex xs (λ i y. R y)) ↔ AtSomeIndex (x ∷ xs) (λ i y. R y)
first_or_later {X} R x xs = (
  λ h. elim h [ inl r ↦ (0, (x, (refl, r))) | inr q ↦ (suc q.0, q.1) ],
  λ q. by q.0 q.1.0 q.1.1.0 q.1.1.1,
)
  where
    by : (i : ℕ) (y : X) → slice_get (x ∷ xs) i ≡ Some y → R y → R x ⊎ AtSomeIndex xs (λ i y. R y)
    by zero y e r = let same : y ≡ x = cc in inl (subst R same r)
    by (suc i) y e r = inr (i, (y, (e, r)))

pub at_each : {X : Type 0} (R S : X → Type 0) (xs : List X) → ((x : X) → R x ↔ S x) → AtSomeIndex xs (λ i x. R x) ↔ AtSomeIndex xs (λ i x. S x)
at_each R S xs same = (λ q. (q.0, (q.1.0, (q.1.1.0, (same q.1.0).0 q.1.1.1))), λ q. (q.0, (q.1.0, (q.1.1.0, (same q.1.0).1 q.1.1.1))))

pub in_either : {X : Type 0} (R : X → Type 0) (xs ys : List X) → (AtSomeIndex xs (λ i x. R x) ⊎ AtSomeIndex ys (λ i x. R x)) ↔ AtSomeIndex (xs ++ ys) (λ i x. R x)
in_either R [] ys = (λ h. elim h [ inl q ↦ absurd (nowhere R q) | inr q ↦ q ], λ q. inr q)
in_either R (x ∷ xs) ys = (
  λ h. elim h [
    | inl q ↦ elim ((first_or_later R x xs).1 q) [
      | inl r ↦ (first_or_later R x (xs ++ ys)).0 (inl r)
      | inr m ↦ (first_or_later R x (xs ++ ys)).0 (inr ((in_either R xs ys).0 (inl m)))
    ]
    | inr q ↦ (first_or_later R x (xs ++ ys)).0 (inr ((in_either R xs ys).0 (inr q)))
  ],
  λ q. elim ((first_or_later R x (xs ++ ys)).1 q) [
    | inl r ↦ inl ((first_or_later R x xs).0 (inl r))
    | inr m ↦ elim ((in_either R xs ys).1 m) [ inl a ↦ inl ((first_or_later R x xs).0 (inr a)) | inr b ↦ inr b ]
  ],
)

pub in_mapped : {X Y : Type 0} (R : Y → Type 0) (g : X → Y) (xs : List X) → AtSomeIndex xs (λ i x. R (g x)) ↔ AtSomeIndex (map g xs) (λ i y. R y)
in_mapped R g [] = (λ q. absurd (nowhere (λ x. R (g x)) q), λ q. absurd (nowhere R q))
in_mapped R g (x ∷ xs) = (
  λ q. elim ((first_or_later (λ x. R (g x)) x xs).1 q) [
    | inl r ↦ (first_or_later R (g x) (map g xs)).0 (inl r)
    | inr m ↦ (first_or_later R (g x) (map g xs)).0 (inr ((in_mapped R g xs).0 m))
  ],
  λ q. elim ((first_or_later R (g x) (map g xs)).1 q) [
    | inl r ↦ (first_or_later (λ x. R (g x)) x xs).0 (inl r)
    | inr m ↦ (first_or_later (λ x. R (g x)) x xs).0 (inr ((in_mapped R g xs).1 m))
  ],
)

pub in_flat : {X Y : Type 0} (R : Y → Type 0) (g : X → List Y) (xs : List X) → AtSomeIndex xs (λ i x. AtSomeIndex (g x) (λ k y. R y)) ↔ AtSomeIndex (flat_map g xs) (λ i y. R y)
in_flat R g [] = (λ q. absurd (nowhere (λ x. AtSomeIndex (g x) (λ k y. R y)) q), λ q. absurd (nowhere R q))
in_flat R g (x ∷ xs) = (
  λ q. elim ((first_or_later (λ x. AtSomeIndex (g x) (λ k y. R y)) x xs).1 q) [
    | inl r ↦ (in_either R (g x) (flat_map g xs)).0 (inl r)
    | inr m ↦ (in_either R (g x) (flat_map g xs)).0 (inr ((in_flat R g xs).0 m))
  ],
  λ q. elim ((in_either R (g x) (flat_map g xs)).1 q) [
    | inl r ↦ (first_or_later (λ x. AtSomeIndex (g x) (λ k y. R y)) x xs).0 (inl r)
    | inr m ↦ (first_or_later (λ x. AtSomeIndex (g x) (λ k y. R y)) x xs).0 (inr ((in_flat R g xs).1 m))
  ],
)
