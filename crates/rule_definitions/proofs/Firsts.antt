-- The first of a name: by its index, and by a lookup.
use Rattle.std.proofs.Common.{◌≡◌, ℕ, ◌<◌, ◌↔◌, Bool, true, false, cond, List, [], ◌∷◌, take, length, refl, sym, ap, subst, ◌∙◌, Option, None, Some, zero, suc, slice_get, find, bytes_eq, arith, true≢false, is_some}
use Rattle.std.proofs.lemmas.Slice.Eq.{bytes_eq-Decides}
use Rattle.std.proofs.lemmas.Option.{same_Some}
use Rattle.rule_definitions.specs.Words.{Present, Lacks, IsFirst, FirstNamed}

no_some : {X A : Type 0} (x : X) → None ≡ Some x → A
no_some x e = absurd (true≢false (sym (ap is_some e)))

none_of : {X : Type 0} (o : Option X) → ((x : X) → o ≡ Some x → ⊥) → o ≡ None
none_of None h = refl
none_of (Some x) h = absurd (h x refl)

below : {A : Type 0} (k : ℕ) → k < 0 → A
below k h = absurd (omega arith)

later : (i j : ℕ) → i < j → suc i < suc j
later i j h = omega arith

less : (i j : ℕ) → suc i < suc j → i < j
less i j h = omega arith

pub take_none : {X : Type 0} (xs : List X) → take 0 xs ≡ []
take_none [] = refl
take_none (x ∷ xs) = refl

pub take_all : {X : Type 0} (xs : List X) → take (length xs) xs ≡ xs
take_all [] = refl
take_all (x ∷ xs) = ap (λ l. x ∷ l) (take_all xs)

-- the index is of the list
pub index_below : {X : Type 0} (xs : List X) (i : ℕ) (x : X) → slice_get xs i ≡ Some x → i < length xs
index_below [] i x e = no_some x e
index_below (y ∷ xs) zero x e = omega arith
index_below (y ∷ xs) (suc i) x e = let h : i < length xs = index_below xs i x e in omega arith

module _ {X : Type 0} (name : X → List ℕ) where
  abbrev pub has : List ℕ → X → Bool
  has n x = bytes_eq (name x) n

  -- among those before j, what is found is the first
  pub found_first : (xs : List X) (n : List ℕ) (j : ℕ) (x : X) → find (has n) (take j xs) ≡ Some x → (i : ℕ) × ((i < j) × ((slice_get xs i ≡ Some x) × ((name x ≡ n) × IsFirst name xs n i)))
  found_first [] n zero x e = no_some x e
  found_first [] n (suc j) x e = no_some x e
  found_first (y ∷ xs) n zero x e = no_some x e
  found_first (y ∷ xs) n (suc j) x e = by (has n y) refl (found_first xs n j x) e
    where
      no_other : (i : ℕ) → IsFirst name xs n i → has n y ≡ false → (k : ℕ) (z : X) → slice_get (y ∷ xs) k ≡ Some z → k < suc i → name z ≡ n → ⊥
      no_other i first t zero z g h m = true≢false (sym ((bytes_eq-Decides (name y) n).1 (ap name (same_Some _ _ g) ∙ m)) ∙ t)
      no_other i first t (suc k) z g h m = first (k, (z, (g, (less k i h, m))))

      by : (b : Bool) → has n y ≡ b → (find (has n) (take j xs) ≡ Some x → (i : ℕ) × ((i < j) × ((slice_get xs i ≡ Some x) × ((name x ≡ n) × IsFirst name xs n i))))
          → cond b (Some y) (find (has n) (take j xs)) ≡ Some x → (i : ℕ) × ((i < suc j) × ((slice_get (y ∷ xs) i ≡ Some x) × ((name x ≡ n) × IsFirst name (y ∷ xs) n i)))
      by true t rest f =
          let same : y ≡ x = same_Some _ _ f in
          (0, (omega arith, (f, (subst (λ z. name z ≡ n) same ((bytes_eq-Decides (name y) n).0 t), λ q. below q.0 q.1.1.1.0))))
      by false t rest f =
          let r = rest f in
          (suc r.0, (later r.0 j r.1.0, (r.1.1.0, (r.1.1.1.0, λ q. no_other r.0 r.1.1.1.1 t q.0 q.1.0 q.1.1.0 q.1.1.1.0 q.1.1.1.1))))

  -- where none is found there is none before j
  pub not_found : (xs : List X) (n : List ℕ) (j : ℕ) → find (has n) (take j xs) ≡ None → IsFirst name xs n j
  not_found [] n j e q = no_some q.1.0 q.1.1.0
  not_found (y ∷ xs) n zero e q = below q.0 q.1.1.1.0
  not_found (y ∷ xs) n (suc j) e q = by (has n y) refl (not_found xs n j) e q.0 q.1.0 q.1.1.0 q.1.1.1.0 q.1.1.1.1
    where
      by : (b : Bool) → has n y ≡ b → (find (has n) (take j xs) ≡ None → IsFirst name xs n j) → cond b (Some y) (find (has n) (take j xs)) ≡ None
          → (k : ℕ) (z : X) → slice_get (y ∷ xs) k ≡ Some z → k < suc j → name z ≡ n → ⊥
      by true t rest f k z g h m = true≢false (ap is_some f)
      by false t rest f zero z g h m = true≢false (sym ((bytes_eq-Decides (name y) n).1 (ap name (same_Some _ _ g) ∙ m)) ∙ t)
      by false t rest f (suc k) z g h m = rest f (k, (z, (g, (less k j h, m))))

  -- where there is none before j none is found
  pub none_found : (xs : List X) (n : List ℕ) (j : ℕ) → IsFirst name xs n j → find (has n) (take j xs) ≡ None
  none_found xs n j first = none_of (find (has n) (take j xs)) (λ x e. let r = found_first xs n j x e in first (r.0, (x, (r.1.1.0, (r.1.0, r.1.1.1.0)))))

  -- the first is found
  pub first_found : (xs : List X) (n : List ℕ) (j i : ℕ) (x : X) → slice_get xs i ≡ Some x → i < j → name x ≡ n → IsFirst name xs n i → find (has n) (take j xs) ≡ Some x
  first_found [] n j i x g h m first = no_some x g
  first_found (y ∷ xs) n zero i x g h m first = below i h
  first_found (y ∷ xs) n (suc j) zero x g h m first = ap (λ b. cond b (Some y) (find (has n) (take j xs))) ((bytes_eq-Decides (name y) n).1 (ap name (same_Some _ _ g) ∙ m)) ∙ g
  first_found (y ∷ xs) n (suc j) (suc i) x g h m first =
      by (has n y) refl (first_found xs n j i x g (less i j h) m (λ q. first (suc q.0, (q.1.0, (q.1.1.0, (later q.0 i q.1.1.1.0, q.1.1.1.1))))))
    where
      by : (b : Bool) → has n y ≡ b → find (has n) (take j xs) ≡ Some x → cond b (Some y) (find (has n) (take j xs)) ≡ Some x
      by true t rest = absurd (first (0, (y, (refl, (omega arith, (bytes_eq-Decides (name y) n).0 t)))))
      by false t rest = rest

  -- ---- of the whole list

  pub lacks_found : (xs : List X) (n : List ℕ) → find (has n) xs ≡ None → Lacks name xs n
  lacks_found xs n e q = not_found xs n (length xs) (ap (find (has n)) (take_all xs) ∙ e) (q.0, (q.1.0, (q.1.1.0, (index_below xs q.0 q.1.0 q.1.1.0, q.1.1.1))))

  pub lacks_given : (xs : List X) (n : List ℕ) → Lacks name xs n → find (has n) xs ≡ None
  lacks_given xs n lacks = ap (find (has n)) (sym (take_all xs)) ∙ none_found xs n (length xs) (λ q. lacks (q.0, (q.1.0, (q.1.1.0, q.1.1.1.1))))

  -- what holds of the first of a name holds of what is found, and the other way round
  pub first_is_found : (xs : List X) (n : List ℕ) (P : ℕ → X → Type 0) (Q : X → Type 0) → ((i : ℕ) (x : X) → slice_get xs i ≡ Some x → P i x ↔ Q x) → FirstNamed name xs n P ↔ Present (find (has n) xs) Q
  first_is_found xs n P Q same = (
    λ h. (
      h.1.0,
      (
        ap (find (has n)) (sym (take_all xs)) ∙ first_found xs n (length xs) h.0 h.1.0 h.1.1.0 (index_below xs h.0 h.1.0 h.1.1.0) h.1.1.1.0 h.1.1.1.1.0,
        (same h.0 h.1.0 h.1.1.0).0 h.1.1.1.1.1,
      ),
    ),
    λ q. let r = found_first xs n (length xs) q.0 (ap (find (has n)) (take_all xs) ∙ q.1.0) in
        (r.0, (q.0, (r.1.1.0, (r.1.1.1.0, (r.1.1.1.1, (same r.0 q.0 r.1.1.0).1 q.1.1))))),
  )

  -- the same of those before j
  pub earlier_is_found : (xs : List X) (n : List ℕ) (j : ℕ) (Q : X → Type 0) → FirstNamed name xs n (λ i x. (i < j) × Q x) ↔ Present (find (has n) (take j xs)) Q
  earlier_is_found xs n j Q = (
    λ h. (h.1.0, (first_found xs n j h.0 h.1.0 h.1.1.0 h.1.1.1.1.1.0 h.1.1.1.0 h.1.1.1.1.0, h.1.1.1.1.1.1)),
    λ q. let r = found_first xs n j q.0 q.1.0 in (r.0, (q.0, (r.1.1.0, (r.1.1.1.0, (r.1.1.1.1, (r.1.0, q.1.1)))))),
  )
