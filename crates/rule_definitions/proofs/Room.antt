-- What is told where there is room.
use Rattle.std.proofs.Common.{◌≡◌, ℕ, suc, ◌≤◌, ◌⊎◌, ltb, true, false, Bool, List, [], ◌∷◌, ◌++◌, take, length, refl, sym, ap, subst, ◌∙◌, inl, inr, Contains, arith, append_assoc, if◌then◌else◌, true≢false}
use Rattle.std.specs.List.{flat_map}
use Rattle.std.proofs.lemmas.Bool.{cases_lt, ltb-true, lt-ltb, lt-leb}
use Rattle.std.proofs.lemmas.List.{append-nil, length-append, flat_map_more, take-append-le, take_all}
use Rattle.std.proofs.lemmas.List.Elements.{Contains-append_cases, Contains-append_left, Contains-append_right}
use Rattle.rule_definitions.specs.Room.{most_told, told_one, ◌⊕◌}

not_below : (m n : ℕ) → ltb m n ≡ false → n ≤ m
not_below m n h = elim (cases_lt m n) [ inl lt ↦ absurd (true≢false (sym (lt-ltb m n lt) ∙ h)) | inr le ↦ le ]

-- a list that has something is not empty
abbrev is_cons : {A : Type 0} → List A → Bool
is_cons [] = false
is_cons (x ∷ xs) = true

module _ {A : Type 0} where
  -- one list after the other
  pub room_both : (a l m : List A) → (a ⊕ l) ⊕ m ≡ a ⊕ (l ++ m)
  room_both a [] m = refl
  room_both a (x ∷ l) m = room_both (told_one a x) l m

  -- one list of a loop more
  pub room_flat_map : {X : Type 0} (f : X → List A) (a : List A) (xs : List X) (x : X) → (a ⊕ flat_map f xs) ⊕ f x ≡ a ⊕ flat_map f (xs ++ x ∷ [])
  room_flat_map f a xs x = room_both a (flat_map f xs) (f x) ∙ ap (λ l. a ⊕ l) (flat_map_more f [] xs x)

  -- where there is room for one, and where there is none
  one_fits : (a : List A) (x : A) → ltb (length a) most_told ≡ true → told_one a x ≡ a ++ x ∷ []
  one_fits a x h = ap (λ b. if b then a ++ x ∷ [] else a) h

  one_fails : (a : List A) (x : A) → ltb (length a) most_told ≡ false → told_one a x ≡ a
  one_fails a x h = ap (λ b. if b then a ++ x ∷ [] else a) h

  -- a full list stays
  pub room_full : (a l : List A) → ltb (length a) most_told ≡ false → a ⊕ l ≡ a
  room_full a [] full = refl
  room_full a (x ∷ l) full = ap (λ b. b ⊕ l) (one_fails a x full) ∙ room_full a l full

  pub no_room : (a l : List A) → most_told ≤ length a → a ⊕ l ≡ a
  no_room a l h = room_full a l (lt-leb (suc (length a)) most_told (omega (arith, h)))

  -- what was told stays at the front
  pub room_begins : (a l : List A) → (told : List A) × (a ⊕ l ≡ a ++ told)
  room_begins a [] = ([], sym (append-nil a))
  room_begins a (x ∷ l) = by (ltb (length a) most_told) refl (room_begins (told_one a x) l)
    where
      by : (b : Bool) → ltb (length a) most_told ≡ b → (told : List A) × (told_one a x ⊕ l ≡ told_one a x ++ told) → (told : List A) × (told_one a x ⊕ l ≡ a ++ told)
      by true h (told, is) = (x ∷ told, is ∙ ap (λ k. k ++ told) (one_fits a x h) ∙ append_assoc a (x ∷ []) told)
      by false h (told, is) = (told, is ∙ ap (λ k. k ++ told) (one_fails a x h))

  -- all that is told are the first of all
  pub room_take : (a l : List A) → length a ≤ most_told → a ⊕ l ≡ take most_told (a ++ l)
  room_take a [] h = sym (ap (take most_told) (append-nil a) ∙ take_all most_told a h)
  room_take a (x ∷ l) h = by (ltb (length a) most_told) refl (λ more. room_take (a ++ x ∷ []) l more)
    where
      by : (b : Bool) → ltb (length a) most_told ≡ b → (length (a ++ x ∷ []) ≤ most_told → (a ++ x ∷ []) ⊕ l ≡ take most_told ((a ++ x ∷ []) ++ l)) → told_one a x ⊕ l ≡ take most_told (a ++ x ∷ l)
      by true e next =
          let fits = ltb-true (length a) most_told e in
          let more : length (a ++ x ∷ []) ≤ most_told = omega (arith, fits, length-append a (x ∷ [])) in
          ap (λ k. k ⊕ l) (one_fits a x e) ∙ next more ∙ ap (take most_told) (append_assoc a (x ∷ []) l)
      by false e next =
          room_full a (x ∷ l) e ∙ sym (take-append-le most_told a (x ∷ l) (not_below (length a) most_told e) ∙ take_all most_told a h)

  pub room_first : (l : List A) → [] ⊕ l ≡ take most_told l
  room_first l = room_take [] l (omega arith)

  -- where nothing is told, nothing was to be told
  pub room_silent : (l : List A) → [] ⊕ l ≡ [] → l ≡ []
  room_silent [] is = refl
  room_silent (x ∷ l) is = absurd (true≢false (sym (ap is_cons (ap (λ k. k ⊕ l) (one_fits [] x refl) ∙ (room_begins (x ∷ []) l).1)) ∙ ap is_cons is))

  -- what is told was told or is among these
  pub room_tells : (a l : List A) (f : A) → Contains (a ⊕ l) f → Contains a f ⊎ Contains l f
  room_tells a [] f h = inl h
  room_tells a (x ∷ l) f h = elim (room_tells (told_one a x) l f h) [
    | inl c ↦ by (ltb (length a) most_told) refl c
    | inr c ↦ inr (Contains-append_right (x ∷ []) l f c)
  ]
    where
      by : (b : Bool) → ltb (length a) most_told ≡ b → Contains (told_one a x) f → Contains a f ⊎ Contains (x ∷ l) f
      by true e c = elim (Contains-append_cases a (x ∷ []) f (subst (λ k. Contains k f) (one_fits a x e) c)) [
        | inl r ↦ inl r
        | inr r ↦ inr (Contains-append_left (x ∷ []) l f r)
      ]
      by false e c = inl (subst (λ k. Contains k f) (one_fails a x e) c)
