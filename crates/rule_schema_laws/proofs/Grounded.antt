-- Where the things that are referred to are finitely many and no references lead from one back to it, what holds of each thing
-- once it holds of all that it refers to holds of all.
use Rattle.std.proofs.Common.{◌≡◌, ℕ, zero, suc, ◌<◌, ◌≤◌, arith, Bool, true, false, cond, List, [], ◌∷◌, ◌++◌, length, refl, sym, ap, subst, ◌∙◌, ◌⊎◌, inl, inr, Contains}
use Rattle.std.specs.Bool.{Decides}
use Rattle.std.proofs.lemmas.List.Elements.{Contains-append_right}
use Rattle.rule_cycle_search.proofs.Lists.{not_in_nil, Contains-cons, Contains-first}
use Rattle.rule_cycle_search.specs.Paths.{Leads}

module _ {X : Type 0} (same : X → X → Bool) (decides : (a b : X) → Decides (same a b) (a ≡ b)) where
  -- the list without each m
  abbrev without : X → List X → List X
  without m [] = []
  without m (x ∷ xs) = cond (same m x) (without m xs) (x ∷ without m xs)

  no_more : (m : X) (xs : List X) → length (without m xs) ≤ length xs
  no_more m [] = omega arith
  no_more m (x ∷ xs) = by (same m x) (no_more m xs)
    where
      by : (b : Bool) → length (without m xs) ≤ length xs → length (cond b (without m xs) (x ∷ without m xs)) ≤ length (x ∷ xs)
      by true h = omega (arith, h)
      by false h = omega (arith, h)

  fewer : (m : X) (xs : List X) → Contains xs m → length (without m xs) < length xs
  fewer m [] c = absurd (not_in_nil m c)
  fewer m (x ∷ xs) c = by (same m x) refl (Contains-cons x xs m c) (λ r. fewer m xs r)
    where
      by : (b : Bool) → same m x ≡ b → (x ≡ m) ⊎ Contains xs m → (Contains xs m → length (without m xs) < length xs) → length (cond b (without m xs) (x ∷ without m xs)) < length (x ∷ xs)
      by true t e rest = omega (arith, no_more m xs)
      by false t (inl e) rest = cc (t, (decides m x).1 (sym e))
      by false t (inr r) rest = let h = rest r in omega (arith, h)

  still : (m : X) (xs : List X) (x : X) → Contains xs x → same m x ≡ false → Contains (without m xs) x
  still m [] x c d = absurd (not_in_nil x c)
  still m (y ∷ xs) x c d = by (same m y) refl (Contains-cons y xs x c) (λ r. still m xs x r d)
    where
      by : (b : Bool) → same m y ≡ b → (y ≡ x) ⊎ Contains xs x → (Contains xs x → Contains (without m xs) x) → Contains (cond b (without m xs) (y ∷ without m xs)) x
      by true t (inl e) rest = cc (sym t ∙ ap (same m) e ∙ d)
      by true t (inr r) rest = rest r
      by false t (inl e) rest = Contains-first y (without m xs) x e
      by false t (inr r) rest = Contains-append_right (y ∷ []) (without m xs) x (rest r)

module _ {X R : Type 0} (Refers : X → R → X → Type 0) where
  leads_on : (x : X) (bys : List R) (n : X) (by : R) (m : X) → Leads Refers x bys n → Refers n by m → Leads Refers x (bys ++ by ∷ []) m
  leads_on x [] n by m l r = (m, (subst (λ y. Refers y by m) (sym l) r, refl))
  leads_on x (b ∷ bys) n by m l r = (l.0, (l.1.0, leads_on l.0 bys n by m l.1.1 r))

module _ {X R : Type 0} (Refers : X → R → X → Type 0) (same : X → X → Bool) (decides : (a b : X) → Decides (same a b) (a ≡ b)) (all : List X)
    (covers : (x : X) (by : R) (y : X) → Refers x by y → Contains all y)
    (acyclic : (x : X) (by : R) (rest : List R) → Leads Refers x (by ∷ rest) x → ⊥) where
  -- each of these is left, or leads to n
  abbrev Leaves : List X → X → Type 0
  Leaves left n = (x : X) → Contains all x → Contains left x ⊎ ((bys : List R) × Leads Refers x bys n)

  leaves_on : (left : List X) (n : X) (by : R) (m : X) → Refers n by m → Leaves left n → Leaves (without same decides m left) m
  leaves_on left n by m r leaves x h = elim (leaves x h) [
    | inl c ↦ by_same (same m x) refl c
    | inr w ↦ inr (w.0 ++ by ∷ [], leads_on Refers x w.0 n by m w.1 r)
  ]
    where
      by_same : (b : Bool) → same m x ≡ b → Contains left x → Contains (without same decides m left) x ⊎ ((bys : List R) × Leads Refers x bys m)
      by_same true t c = inr ([], sym ((decides m x).0 t))
      by_same false t c = inl (still same decides m left x c t)

  module _ (P : X → Type 0) (step : (n : X) → ((by : R) (m : X) → Refers n by m → P m) → P n) where
    from_left : (fuel : ℕ) (left : List X) → length left ≤ fuel → (n : X) → Leaves left n → P n
    from_left zero left short n leaves = step n (λ by m r. elim (leaves m (covers n by m r)) [
      | inl c ↦ absurd (omega (arith, c.1, short))
      | inr w ↦ absurd (acyclic n by w.0 (m, (r, w.1)))
    ])
    from_left (suc k) left short n leaves = step n (λ by m r. elim (leaves m (covers n by m r)) [
      | inl c ↦ from_left k (without same decides m left) (omega (arith, fewer same decides m left c, short)) m (leaves_on left n by m r leaves)
      | inr w ↦ absurd (acyclic n by w.0 (m, (r, w.1)))
    ])

    pub by_references : (n : X) → P n
    by_references n = from_left (length all) all (omega arith) n (λ x c. inl c)
