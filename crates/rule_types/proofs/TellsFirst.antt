-- What is told of the first of a name, or where nothing has it.
use Rattle.std.proofs.Common.{◌≡◌, ℕ, ◌<◌, ◌⊎◌, Bool, true, false, List, [], ◌∷◌, map, refl, sym, ap, subst, ◌∙◌, inl, inr, Option, None, Some, slice_get, length, zero, suc, arith, if◌then◌else◌, true≢false}
use Rattle.std.specs.List.{find}
use Rattle.std.specs.Option.{option_map, option_map_or}
use Rattle.std.specs.Str.{bytes_eq}
use Rattle.std.proofs.lemmas.List.{take_all}
use Rattle.std.proofs.lemmas.Option.{same_Some}
use Rattle.std.proofs.lemmas.Slice.Eq.{bytes_eq-Decides}
use Rattle.fault_data.specs.in_rule_definitions.Words.{Lacks, IsFirst, FirstNamed}
use Rattle.fault_data.proofs.in_rule_definitions.Lists.{slice_get-map, mapped_some}
use Rattle.fault_data.proofs.in_rule_definitions.Lookups.{first_found}
use Rattle.fault_data.proofs.in_rule_definitions.Tells.{Tells, tells_same}

same_index : (a b : ℕ) → (a < b → ⊥) → (b < a → ⊥) → a ≡ b
same_index zero zero h k = refl
same_index zero (suc b) h k = absurd (h (omega arith))
same_index (suc a) zero h k = absurd (k (omega arith))
same_index (suc a) (suc b) h k = ap suc (same_index a b (λ l. h (omega (arith, l))) (λ l. k (omega (arith, l))))

module _ {X : Type 0} (test : X → Bool) where
  first_at : (xs : List X) (w : X) → find test xs ≡ Some w → (i : ℕ) × ((slice_get xs i ≡ Some w) × ((test w ≡ true) × ((k : ℕ) (y : X) → k < i → slice_get xs k ≡ Some y → test y ≡ false)))
  first_at xs w e = let r = first_found test xs (length xs) w (ap (find test) (take_all (length xs) xs (omega arith)) ∙ e) in (r.0, r.1.1)

  none_at : (xs : List X) → find test xs ≡ None → (i : ℕ) (x : X) → slice_get xs i ≡ Some x → test x ≡ false
  none_at [] e i x at = cc
  none_at (y ∷ xs) e i x at = by (test y) refl e (none_at xs) i at
    where
      by : (b : Bool) → test y ≡ b → (if b then Some y else find test xs) ≡ None → (find test xs ≡ None → (i : ℕ) (x : X) → slice_get xs i ≡ Some x → test x ≡ false) → (i : ℕ) → slice_get (y ∷ xs) i ≡ Some x → test x ≡ false
      by true t e rest i at = cc
      by false t e rest zero at = let same : y ≡ x = cc in ap test (sym same) ∙ t
      by false t e rest (suc i) at = rest e i x at

module _ {A B : Type 0} (Is : A → B → Type 0) {X Y : Type 0} (u : X → Y) (name : Y → List ℕ) (n : List ℕ) (xs : List X) where
  seen_at : (i : ℕ) (x : X) → slice_get xs i ≡ Some x → slice_get (map u xs) i ≡ Some (u x)
  seen_at i x at = slice_get-map u xs i ∙ ap (option_map u) at

  -- one that has the name, of those that are seen
  passing : (k : ℕ) (y : Y) → slice_get (map u xs) k ≡ Some y → name y ≡ n → (x : X) × ((slice_get xs k ≡ Some x) × (bytes_eq n (name (u x)) ≡ true))
  passing k y at same =
      let (x, (at', text)) = mapped_some u (slice_get xs k) y (sym (slice_get-map u xs k) ∙ at) in
      (x, (at', (bytes_eq-Decides n (name (u x))).1 (sym same ∙ ap name text)))

  -- the first of a name is one
  back : {G : Type 0} (R : ℕ → Y → G → Type 0) (g : G) (i : ℕ) (w : X) → slice_get (map u xs) i ≡ Some (u w) → name (u w) ≡ n → IsFirst name (map u xs) n i
      → (j : ℕ) (y : Y) → slice_get (map u xs) j ≡ Some y → name y ≡ n → IsFirst name (map u xs) n j → R j y g → R i (u w) g
  back R g i w here has first j y there same other r =
      let one : j ≡ i = same_index j i (λ less. first (j, (y, (there, (less, same))))) (λ less. other (i, (u w, (here, (less, has))))) in
      let it : y ≡ u w = same_Some _ _ (sym there ∙ ap (slice_get (map u xs)) one ∙ here) in
      subst (λ k. R k (u w) g) one (subst (λ z. R j z g) it r)

  pub tells_first : (tells : X → List B) (none : List B) (R : ℕ → Y → A → Type 0) (Q : A → Type 0) → Tells Is none Q → ((i : ℕ) (x : X) → slice_get xs i ≡ Some x → name (u x) ≡ n → Tells Is (tells x) (R i (u x)))
      → Tells Is (option_map_or tells (find (λ x. bytes_eq n (name (u x))) xs) none) (λ g. (Lacks name (map u xs) n × Q g) ⊎ FirstNamed name (map u xs) n (λ i y. R i y g))
  tells_first tells none R Q missing each = by (find (λ x. bytes_eq n (name (u x))) xs) refl
    where
      Either : A → Type 0
      Either g = (Lacks name (map u xs) n × Q g) ⊎ FirstNamed name (map u xs) n (λ i y. R i y g)

      by : (o : Option X) → find (λ x. bytes_eq n (name (u x))) xs ≡ o → Tells Is (option_map_or tells o none) Either
      by None e =
          let lacks : Lacks name (map u xs) n = λ h. (
          let p = passing h.0 h.1.0 h.1.1.0 h.1.1.1 in
          true≢false (sym p.1.1 ∙ none_at (λ x. bytes_eq n (name (u x))) xs e h.0 p.0 p.1.0)
          ) in
          tells_same Is none Q Either (λ g. (λ q. inl (lacks, q), λ h. elim h [ inl r ↦ r.1 | inr p ↦ absurd (lacks (p.0, (p.1.0, (p.1.1.0, p.1.1.1.0)))) ])) missing
      by (Some w) e =
          let (i, (at, (passes, earlier))) = first_at (λ x. bytes_eq n (name (u x))) xs w e in
          let here : slice_get (map u xs) i ≡ Some (u w) = seen_at i w at in
          let has : name (u w) ≡ n = sym ((bytes_eq-Decides n (name (u w))).0 passes) in
          let first : IsFirst name (map u xs) n i = λ h. (
          let p = passing h.0 h.1.0 h.1.1.0 h.1.1.1.1 in
          true≢false (sym p.1.1 ∙ earlier h.0 p.0 h.1.1.1.0 p.1.0)
          ) in
          tells_same Is (tells w) (R i (u w)) Either (λ g. (
            λ r. inr (i, (u w, (here, (has, (first, r))))),
            λ h. elim h [
              | inl r ↦ absurd (r.0 (i, (u w, (here, has))))
              | inr p ↦ back R g i w here has first p.0 p.1.0 p.1.1.0 p.1.1.1.0 p.1.1.1.1.0 p.1.1.1.1.1
            ],
          )) (each i w at has)
