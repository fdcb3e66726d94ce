-- Entries by number and by name.
use Rattle.std.proofs.Common.{◌≡◌, ℕ, ◌<◌, Bool, true, false, cond, if◌then◌else◌, List, [], ◌∷◌, get_or, length, slice_get, Option, None, Some, refl, sym, ap, subst, ◌∙◌, inl, inr, zero, suc, true≢false, arith}
use Rattle.std.specs.Prelude.{Contains, find, bytes_eq}
use Rattle.std.specs.List.{IsDistinct, AllByRecursion, position_or_len}
use Rattle.std.specs.Map.{keys_of}
use Rattle.std.specs.Option.{option_map}
use Rattle.std.proofs.lemmas.Bool.{cases_lt, lt-ltb}
use Rattle.std.proofs.lemmas.Option.{same_Some, slice_get-map, slice_get-get_or}
use Rattle.std.proofs.lemmas.List.Elements.{Contains-append_left, Contains-append_right, Contains-append_cases}
use Rattle.std.proofs.lemmas.List.Quantifiers.{position-Some}
use Rattle.std.proofs.lemmas.List.Sums.{fails_before_first}
use Rattle.std.proofs.lemmas.Map.Keys.{IsDistinct-head, IsDistinct-tail}
use Rattle.std.proofs.lemmas.Slice.Eq.{bytes_eq-Decides}
use Rattle.schema_components.specs.Names.{Entries}
use Rattle.schema_types.specs.Addresses.{under}
use Rattle.rule_cycles.specs.Numbers.{number_of, each_value}
use Rattle.rule_cycle_search.proofs.Lists.{Contains-cons, Contains-first, not_in_nil}
use Rattle.fault_data.proofs.in_rule_definitions.Lookups.{itself}

pub same_bytes : (n m : List ℕ) → bytes_eq n m ≡ true → n ≡ m
same_bytes n m h = (bytes_eq-Decides n m).0 h

module _ {V : Type 0} where
  -- ---- the number of a name

  pub number_given : (n : List ℕ) (es : Entries V) (i : ℕ) → number_of n es ≡ Some i → (v : V) × (slice_get es i ≡ Some (n, v))
  number_given n es i h = by (slice_get es i) refl
    where
      found : (i < length (keys_of es)) × (bytes_eq n (get_or (keys_of es) i n) ≡ true) × ((k : ℕ) → k < i → bytes_eq n (get_or (keys_of es) k n) ≡ false)
      found = position-Some (bytes_eq n) (keys_of es) i n h

      key : option_map (λ (e : List ℕ × V). e.0) (slice_get es i) ≡ Some n
      key = sym (slice_get-map (λ (e : List ℕ × V). e.0) es i) ∙ slice_get-get_or (keys_of es) i n found.0 ∙ ap (λ k. Some k) (sym (same_bytes n (get_or (keys_of es) i n) found.1))

      by : (o : Option (List ℕ × V)) → slice_get es i ≡ o → (v : V) × (slice_get es i ≡ Some (n, v))
      by None e = absurd (none (sym (ap (option_map (λ (x : List ℕ × V). x.0)) e) ∙ key))
        where
          none : None ≡ Some n → ⊥
          none q = cc
      by (Some x) e = let k : x.0 ≡ n = same_Some x.0 n (sym (ap (option_map (λ (y : List ℕ × V). y.0)) e) ∙ key) in (x.1, e ∙ (λ j. Some (k j, x.1)))

  pub number_there : (es : Entries V) (e : List ℕ × V) → Contains es e → (i : ℕ) × (number_of e.0 es ≡ Some i)
  number_there es e c = (position_or_len (bytes_eq e.0) (keys_of es), ap (λ b. cond b (Some (position_or_len (bytes_eq e.0) (keys_of es))) None) (lt-ltb (position_or_len (bytes_eq e.0) (keys_of es)) (length (keys_of es)) (low (key_there es c))))
    where
      key_there : (es : Entries V) → Contains es e → Contains (keys_of es) e.0
      key_there [] c = not_in_nil e c
      key_there (x ∷ es) c = elim (Contains-cons x es e c) [
        | inl q ↦ Contains-first x.0 (keys_of es) e.0 (ap (λ y. y.0) q)
        | inr m ↦ Contains-append_right (x.0 ∷ []) (keys_of es) e.0 (key_there es m)
      ]

      low : Contains (keys_of es) e.0 → position_or_len (bytes_eq e.0) (keys_of es) < length (keys_of es)
      low (k, l, q) = elim (cases_lt k (position_or_len (bytes_eq e.0) (keys_of es))) [
        | inl below ↦ absurd (true≢false (sym (itself e.0) ∙ ap (bytes_eq e.0) (sym q) ∙ fails_before_first (bytes_eq e.0) (keys_of es) k e.0 below))
        | inr above ↦ omega arith
      ]

  -- ---- distinct names

  not_later : (n : List ℕ) (es : Entries V) (j : ℕ) (v : V) → AllByRecursion (λ m. bytes_eq n m ≡ false) (keys_of es) → slice_get es j ≡ Some (n, v) → ⊥
  not_later n [] j v all h = cc
  not_later n (e ∷ es) zero v all h = true≢false (sym (itself n) ∙ ap (bytes_eq n) (sym (ap (λ x. x.0) (same_Some e (n, v) h))) ∙ all.0)
  not_later n (e ∷ es) (suc j) v all h = not_later n es j v all.1 h

  head_apart : (e : List ℕ × V) (es : Entries V) (n : List ℕ) → IsDistinct bytes_eq (keys_of (e ∷ es)) → e.0 ≡ n → AllByRecursion (λ m. bytes_eq n m ≡ false) (keys_of es)
  head_apart e es n d q = subst (λ k. AllByRecursion (λ m. bytes_eq k m ≡ false) (keys_of es)) q (IsDistinct-head bytes_eq e.0 (keys_of es) d)

  pub one_number : (es : Entries V) → IsDistinct bytes_eq (keys_of es) → (i j : ℕ) (n : List ℕ) (v w : V) → slice_get es i ≡ Some (n, v) → slice_get es j ≡ Some (n, w) → i ≡ j
  one_number [] d i j n v w h k = cc
  one_number (e ∷ es) d zero zero n v w h k = refl
  one_number (e ∷ es) d zero (suc j) n v w h k = absurd (not_later n es j w (head_apart e es n d (ap (λ x. x.0) (same_Some e (n, v) h))) k)
  one_number (e ∷ es) d (suc i) zero n v w h k = absurd (not_later n es i v (head_apart e es n d (ap (λ x. x.0) (same_Some e (n, w) k))) h)
  one_number (e ∷ es) d (suc i) (suc j) n v w h k = ap (λ x. suc x) (one_number es (IsDistinct-tail bytes_eq e.0 (keys_of es) d) i j n v w h k)

  pub under_at : (es : Entries V) → IsDistinct bytes_eq (keys_of es) → (i : ℕ) (n : List ℕ) (v : V) → slice_get es i ≡ Some (n, v) → under n es ≡ Some v
  under_at [] d i n v h = cc
  under_at (e ∷ es) d zero n v h =
      let same : e ≡ (n, v) = same_Some e (n, v) h in
      ap (λ (b : Bool). option_map (λ (x : List ℕ × V). x.1) (if b then Some e else find (λ (x : List ℕ × V). bytes_eq n x.0) es)) (ap (bytes_eq n) (ap (λ x. x.0) same) ∙ itself n) ∙ ap (λ x. Some x.1) same
  under_at (e ∷ es) d (suc i) n v h = by (bytes_eq n e.0) refl (under_at es (IsDistinct-tail bytes_eq e.0 (keys_of es) d) i n v h)
    where
      by : (b : Bool) → bytes_eq n e.0 ≡ b → under n es ≡ Some v → under n (e ∷ es) ≡ Some v
      by true t rest = absurd (not_later n es i v (head_apart e es n d (sym (same_bytes n e.0 t))) h)
      by false t rest =
          ap (λ (b : Bool). option_map (λ (x : List ℕ × V). x.1) (if b then Some e else find (λ (x : List ℕ × V). bytes_eq n x.0) es)) t
          ∙ rest

  pub under_given : (n : List ℕ) (es : Entries V) (v : V) → under n es ≡ Some v → (i : ℕ) × (slice_get es i ≡ Some (n, v))
  under_given n [] v h = cc
  under_given n (e ∷ es) v h = by (bytes_eq n e.0) refl (λ q. under_given n es v q) h
    where
      by : (b : Bool) → bytes_eq n e.0 ≡ b → (under n es ≡ Some v → (i : ℕ) × (slice_get es i ≡ Some (n, v))) → option_map (λ (x : List ℕ × V). x.1) (if b then Some e else find (λ (x : List ℕ × V). bytes_eq n x.0) es) ≡ Some v → (i : ℕ) × (slice_get (e ∷ es) i ≡ Some (n, v))
      by true t later q = (0, (λ j. Some (sym (same_bytes n e.0 t) j, same_Some e.1 v q j)))
      by false t later q = let r : (i : ℕ) × (slice_get es i ≡ Some (n, v)) = later q in (suc r.0, r.1)

-- what is given of a value
module _ {K V Y : Type 0} (f : V → List Y) where
  pub each_found : (es : List (K × V)) (y : Y) → Contains (each_value f es) y → (i : ℕ) × ((e : K × V) × ((slice_get es i ≡ Some e) × Contains (f e.1) y))
  each_found [] y c = not_in_nil y c
  each_found (e ∷ es) y c = elim (Contains-append_cases (f e.1) (each_value f es) y c) [
    | inl m ↦ (0, (e, (refl, m)))
    | inr m ↦ let r : (i : ℕ) × ((e : K × V) × ((slice_get es i ≡ Some e) × Contains (f e.1) y)) = each_found es y m in (suc r.0, r.1)
  ]

  pub each_given : (es : List (K × V)) (i : ℕ) (e : K × V) (y : Y) → slice_get es i ≡ Some e → Contains (f e.1) y → Contains (each_value f es) y
  each_given [] i e y h c = cc
  each_given (x ∷ es) zero e y h c = Contains-append_left (f x.1) (each_value f es) y (subst (λ z. Contains (f z.1) y) (sym (same_Some x e h)) c)
  each_given (x ∷ es) (suc i) e y h c = Contains-append_right (f x.1) (each_value f es) y (each_given es i e y h c)
