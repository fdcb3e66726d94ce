-- What is found under a name, and membership in lists.
use Rattle.std.proofs.Common.{◌≡◌, ◌+◌, ◌<◌, ◌⊎◌, inl, inr, ℕ, zero, suc, Bool, true, false, List, [], ◌∷◌, map, length, get_or, refl, ap, sym, ◌∙◌, subst, arith, true≢false, Contains}
use Rattle.std.specs.Prelude.{Option, Some, None, is_some, unwrap_or, slice_get, cond, not, nat_lt}
use Rattle.std.specs.List.{position, position_from, prefix_len, find}
use Rattle.std.proofs.lemmas.Iterator.Adapters.{position_from-zero}
use Rattle.std.proofs.lemmas.List.Elements.{Contains-append_right}

pub none_is_some : {A B : Type 0} (a : A) → None ≡ Some a → B
none_is_some a h = absurd (true≢false (sym (ap is_some h)))

pub some_is : {A : Type 0} (a b : A) → Some a ≡ Some b → a ≡ b
some_is a b h = ap (λ o. unwrap_or o a) h

-- the item at an index that was found
pub record FoundAt {X : Type 0} (test : X → Bool) (xs : List X) (k : ℕ) : Type 0 where
  pub item : X
  pub stands : slice_get xs k ≡ Some item
  pub first : find test xs ≡ Some item
  pub passes : test item ≡ true

pub length-map : {A B : Type 0} (f : A → B) (xs : List A) → length (map f xs) ≡ length xs
length-map f [] = refl
length-map f (x ∷ xs) = ap suc (length-map f xs)

prefix-map : {A B : Type 0} (f : A → B) (p : B → Bool) (xs : List A) → prefix_len p (map f xs) ≡ prefix_len (λ x. p (f x)) xs
prefix-map f p [] = refl
prefix-map f p (x ∷ xs) = ap (λ n. cond (p (f x)) (1 + n) 0) (prefix-map f p xs)

abbrev at_or_none : ℕ → ℕ → Option ℕ
at_or_none n l = cond (nat_lt n l) (Some n) None

-- the place of a name among keys
pub position-map : {A B : Type 0} (f : A → B) (p : B → Bool) (xs : List A) → position p (map f xs) ≡ position (λ x. p (f x)) xs
position-map f p xs = ap (λ n. at_or_none n (length (map f xs))) (prefix-map f (λ y. not (p y)) xs) ∙ ap (at_or_none (prefix_len (λ x. not (p (f x))) xs)) (length-map f xs)

module _ {X : Type 0} (test : X → Bool) where
  found_from : (xs : List X) (i j : ℕ) → position_from test i xs ≡ Some j → (k : ℕ) × ((j ≡ i + k) × FoundAt test xs k)
  found_from [] i j h = none_is_some j h
  found_from (x ∷ xs) i j h = by (test x) refl (found_from xs (i + 1) j)
    where
      by : (b : Bool) → test x ≡ b → (position_from test (i + 1) xs ≡ Some j → (k : ℕ) × ((j ≡ (i + 1) + k) × FoundAt test xs k)) → (k : ℕ) × ((j ≡ i + k) × FoundAt test (x ∷ xs) k)
      by true is further = (
        0,
        (
          omega (some_is i j (sym (ap (λ b. cond b (Some i) (position_from test (i + 1) xs)) is) ∙ h), arith),
          record {
            item = x;
            stands = refl;
            first = ap (λ b. cond b (Some x) (find test xs)) is;
            passes = is;
          },
        ),
      )
      by false is further =
          let rest = further (sym (ap (λ b. cond b (Some i) (position_from test (i + 1) xs)) is) ∙ h) in (
            suc rest.0,
            (
              omega (rest.1.0, arith),
              record {
                item = rest.1.1.item;
                stands = rest.1.1.stands;
                first = ap (λ b. cond b (Some x) (find test xs)) is ∙ rest.1.1.first;
                passes = rest.1.1.passes;
              },
            ),
          )

  missing_from : (xs : List X) (i : ℕ) → position_from test i xs ≡ None → find test xs ≡ None
  missing_from [] i h = refl
  missing_from (x ∷ xs) i h = by (test x) refl (missing_from xs (i + 1))
    where
      by : (b : Bool) → test x ≡ b → (position_from test (i + 1) xs ≡ None → find test xs ≡ None) → find test (x ∷ xs) ≡ None
      by true is further = none_is_some i (sym h ∙ ap (λ b. cond b (Some i) (position_from test (i + 1) xs)) is)
      by false is further = ap (λ b. cond b (Some x) (find test xs)) is ∙ further (sym (ap (λ b. cond b (Some i) (position_from test (i + 1) xs)) is) ∙ h)

  pub found_at : (xs : List X) (j : ℕ) → position test xs ≡ Some j → FoundAt test xs j
  found_at xs j h =
      let found = found_from xs 0 j (sym (position_from-zero test xs) ∙ h) in
      subst (FoundAt test xs) (omega (found.1.0, arith)) found.1.1

  pub missing : (xs : List X) → position test xs ≡ None → find test xs ≡ None
  missing xs h = missing_from xs 0 (sym (position_from-zero test xs) ∙ h)

  -- what is found has a place
  pub place_of_found : (xs : List X) (x : X) → find test xs ≡ Some x → (j : ℕ) × ((position test xs ≡ Some j) × (slice_get xs j ≡ Some x))
  place_of_found xs x h = by (position test xs) refl
    where
      by : (o : Option ℕ) → position test xs ≡ o → (j : ℕ) × ((position test xs ≡ Some j) × (slice_get xs j ≡ Some x))
      by None is = none_is_some x (sym (missing xs is) ∙ h)
      by (Some j) is = let found = found_at xs j is in (j, (is, found.stands ∙ sym found.first ∙ h))

module _ {X : Type 0} where
  pub not_in_nil : (y : X) → Contains [] y → ⊥
  not_in_nil y h = absurd (omega (arith, h.1))

  pub Contains-cons : (x : X) (xs : List X) (y : X) → Contains (x ∷ xs) y → (x ≡ y) ⊎ Contains xs y
  Contains-cons x xs y (k, h, e) = by k h e
    where
      by : (k : ℕ) → k < length (x ∷ xs) → get_or (x ∷ xs) k y ≡ y → (x ≡ y) ⊎ Contains xs y
      by zero h e = inl e
      by (suc k) h e = inr (k, omega arith, e)

  pub Contains-first : (x : X) (xs : List X) (y : X) → x ≡ y → Contains (x ∷ xs) y
  Contains-first x xs y e = (0, omega arith, e)

  pub Contains-rest : (x : X) (xs : List X) (y : X) → Contains xs y → Contains (x ∷ xs) y
  Contains-rest x xs y h = Contains-append_right (x ∷ []) xs y h
