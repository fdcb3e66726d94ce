-- Lists to which faults are added, one at a time: what AddsNew and TellsAll say of each step.
use Rattle.std.proofs.Common.{◌≡◌, ◌⊎◌, ◌∙◌, ◌<◌, ◌≤◌, ℕ, List, [], ◌∷◌, ◌++◌, length, get_or, slice_get, Some, Bool, false, true≢false, IsTrue, ◌↔◌, map, refl, sym, ap, subst, inl, inr, Contains, arith, append_assoc}
use Rattle.std.specs.Option.{option_map}
use Rattle.std.proofs.lemmas.Bool.{cases_lt}
use Rattle.std.proofs.lemmas.List.{append-nil, length-append, length_push, map-append, get_or_append_left}
use Rattle.std.proofs.lemmas.List.Elements.{Contains-append_cases, Contains-append_left, Contains-append_right}
use Rattle.std.proofs.lemmas.Option.{slice_get_within, slice_get-get_or, get_or_from_slice_get}
use Rattle.std.proofs.Math.Seq.{get_or-append_seam}
use Rattle.rule_cycle_search.specs.Paths.{HasNoRepeat}
use Rattle.rule_cycle_search.proofs.Lists.{Contains-first, index_given, slice_get-map, only}
use Rattle.rule_definitions.specs.Room.{most_told}
use Rattle.graphql_faults.specs.Added.{BeginsAs, AddsNew, TellsAll}

module _ {A : Type 0} where
  -- ---- one more at the end
  pub push_cases : (xs : List A) (x : A) (i : ℕ) (y : A) → slice_get (xs ++ x ∷ []) i ≡ Some y → (slice_get xs i ≡ Some y) ⊎ ((i ≡ length xs) × (y ≡ x))
  push_cases xs x i y h =
      let within : i < length (xs ++ x ∷ []) = slice_get_within (xs ++ x ∷ []) i y h in
      let is : get_or (xs ++ x ∷ []) i y ≡ y = get_or_from_slice_get (xs ++ x ∷ []) i y y h in
      elim (cases_lt i (length xs)) [
        | inl low ↦ inl (slice_get-get_or xs i y low ∙ ap (λ a. Some a) (sym (get_or_append_left xs (x ∷ []) y i low) ∙ is))
        | inr high ↦
            let last : i ≡ length xs = omega (arith, length_push xs x) in
            inr (last, sym is ∙ ap (λ k. get_or (xs ++ x ∷ []) k y) last ∙ get_or-append_seam xs x [] y)
      ]

  none_twice_more : (xs : List A) (x : A) → (Contains xs x → ⊥) → HasNoRepeat xs → HasNoRepeat (xs ++ x ∷ [])
  none_twice_more xs x new apart i j y h k =
      elim (push_cases xs x i y h) [
        | inl a ↦ elim (push_cases xs x j y k) [
          | inl b ↦ apart i j y a b
          | inr b ↦ absurd (new (subst (Contains xs) b.1 (index_given xs i y a)))
        ]
        | inr a ↦ elim (push_cases xs x j y k) [
          | inl b ↦ absurd (new (subst (Contains xs) a.1 (index_given xs j y b)))
          | inr b ↦ a.0 ∙ sym b.0
        ]
      ]

  pub in_last : (xs : List A) (x : A) → Contains (xs ++ x ∷ []) x
  in_last xs x = Contains-append_right xs (x ∷ []) x (Contains-first x [] x refl)

  pub begins_on : (old mid new : List A) → BeginsAs old mid → BeginsAs mid new → BeginsAs old new
  begins_on old mid new (a, p) (b, q) = (a ++ b, q ∙ ap (λ l. l ++ b) p ∙ append_assoc old a b)

  pub still_there : (old new : List A) → BeginsAs old new → (x : A) → Contains old x → Contains new x
  still_there old new (a, p) x h = subst (λ l. Contains l x) (sym p) (Contains-append_left old a x h)

  -- ---- what is added
  -- nothing
  pub adds_nothing : (old more new : List A) → new ≡ old → AddsNew old more new
  adds_nothing old more new is = record {
    begins = ([], is ∙ sym (append-nil old));
    from = λ x h. inl (subst (λ l. Contains l x) is h);
    once = λ h. subst HasNoRepeat (sym is) h;
    most = λ h. subst (λ l. length l ≤ most_told) (sym is) h;
  }

  -- one
  pub adds_one : (old new : List A) (x : A) → length old < most_told → (Contains old x → ⊥) → new ≡ old ++ x ∷ [] → AddsNew old (x ∷ []) new
  adds_one old new x room absent is = record {
    begins = (x ∷ [], is);
    from = λ y h. Contains-append_cases old (x ∷ []) y (subst (λ l. Contains l y) is h);
    once = λ h. subst HasNoRepeat (sym is) (none_twice_more old x absent h);
    most = λ h. omega (arith, ap length is, length-append old (x ∷ []));
  }

  -- one after others
  pub adds_on : (old xs mid ys new : List A) → AddsNew old xs mid → AddsNew mid ys new → AddsNew old (xs ++ ys) new
  adds_on old xs mid ys new a b = record {
    begins = begins_on old mid new a.begins b.begins;
    from = λ y h. elim (b.from y h) [
      | inl m ↦ elim (a.from y m) [ inl o ↦ inl o | inr x ↦ inr (Contains-append_left xs ys y x) ]
      | inr n ↦ inr (Contains-append_right xs ys y n)
    ];
    once = λ h. b.once (a.once h);
    most = λ h. b.most (a.most h);
  }

  -- of the first of more
  pub adds_of : (old xs ys new : List A) → AddsNew old xs new → AddsNew old (xs ++ ys) new
  adds_of old xs ys new a = adds_on old xs new ys new a (adds_nothing new ys new refl)

-- ---- by what the things say
module _ {A B : Type 0} (f : A → B) where
  pub read_at : (xs : List A) (k : ℕ) (x : A) → k < length xs → x ≡ get_or xs k x → slice_get (map f xs) k ≡ Some (f x)
  read_at xs k x h e = slice_get-map f xs k ∙ ap (option_map f) (slice_get-get_or xs k x h ∙ ap (λ a. Some a) (sym e))

  pub says_otherwise : (xs : List A) (k : ℕ) (x : A) (y : B) (same : Bool) → k < length xs → x ≡ get_or xs k x → IsTrue same ↔ (f x ≡ y) → same ≡ false → slice_get (map f xs) k ≡ Some y → ⊥
  says_otherwise xs k x y same h e means differs at =
      let is : f x ≡ y = cc (read_at xs k x h e) in
      true≢false (sym (means.1 is) ∙ differs)

  pub pushed_says : (old new : List A) (x : A) → new ≡ old ++ x ∷ [] → map f new ≡ map f old ++ f x ∷ []
  pushed_says old new x is = ap (map f) is ∙ map-append f old (x ∷ [])

  -- ---- through a loop over more
  pub adds_first : (old new : List B) (more front rest : List A) → AddsNew old (map f front) new → more ≡ front ++ rest → AddsNew old (map f more) new
  adds_first old new more front rest a is =
      subst (λ l. AddsNew old l new) (sym (ap (map f) is ∙ map-append f front rest)) (adds_of old (map f front) (map f rest) new a)

  pub adds_more : (old mid new : List B) (front : List A) (x : A) → AddsNew old (map f front) mid → AddsNew mid (f x ∷ []) new → AddsNew old (map f (front ++ x ∷ [])) new
  adds_more old mid new front x a b =
      subst (λ l. AddsNew old l new) (sym (map-append f front (x ∷ []))) (adds_on old (map f front) mid (f x ∷ []) new a b)

  pub tells_more : (mid new : List B) (front : List A) (x : A) → BeginsAs mid new → ((y : B) → Contains (map f front) y → Contains mid y) → Contains new (f x) → (y : B) → Contains (map f (front ++ x ∷ [])) y → Contains new y
  tells_more mid new front x begins told here y h =
      elim (Contains-append_cases (map f front) (f x ∷ []) y (subst (λ l. Contains l y) (map-append f front (x ∷ [])) h)) [
        | inl a ↦ still_there mid new begins y (told y a)
        | inr b ↦ subst (Contains new) (sym (only (f x) y b)) here
      ]

  pub tells_all : (more front rest : List A) (new : List B) → more ≡ front ++ rest → length rest ≡ 0 → ((y : B) → Contains (map f front) y → Contains new y) → TellsAll (map f more) new
  tells_all more front [] new is none told = inr (λ y h. told y (subst (λ l. Contains (map f l) y) (is ∙ append-nil front) h))
  tells_all more front (x ∷ rest) new is none told = absurd (omega (arith, none))
