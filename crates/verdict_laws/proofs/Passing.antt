-- Lemmas on lists of what passes a test: what passes again, what is given by it, and where it stands.
use Rattle.std.proofs.Common.{◌≡◌, ◌⊎◌, Bool, true, false, List, [], ◌∷◌, ◌++◌, flat_map, refl, sym, ap, subst, ◌∙◌, if◌then◌else◌, inl, inr}
use Rattle.std.specs.List.{filter, list_all}
use Rattle.std.proofs.lemmas.List.{map-id}
use Rattle.std.proofs.lemmas.List.Elements.{filter-append}
use Rattle.std.proofs.lemmas.Bool.{and_from, and_parts}
use Rattle.std.proofs.lemmas.Grind.{flat_map-append}
use Rattle.schema_components.specs.Lists.{StandsAfter}
use Rattle.verdict_laws.proofs.Order.{Each-map, passed, filter_all, filter_none}
use Rattle.verdict_laws.proofs.Moved.{found}

module _ {X : Type 0} where
  -- ---- what passes a test, and then another

  module _ (f g : X → Bool) where
    pub all_pass : ((x : X) → f x ≡ true → g x ≡ true) → (xs : List X) → filter g (filter f xs) ≡ filter f xs
    all_pass h xs = filter_all g (filter f xs) (Each-map {P = λ x. f x ≡ true} {Q = λ x. g x ≡ true} h (filter f xs) (passed f xs))

    pub none_passes : ((x : X) → f x ≡ true → g x ≡ false) → (xs : List X) → filter g (filter f xs) ≡ []
    none_passes h xs = filter_none g (filter f xs) (Each-map {P = λ x. f x ≡ true} {Q = λ x. g x ≡ false} h (filter f xs) (passed f xs))

  pub three_passing : (f : X → Bool) (a b c : List X) → filter f (a ++ b ++ c) ≡ filter f a ++ filter f b ++ filter f c
  three_passing f a b c = filter-append f (a ++ b) c ∙ ap (λ l. l ++ filter f c) (filter-append f a b)

  -- what holds of all holds of those that pass
  pub all_passing : (p f : X → Bool) (xs : List X) → list_all p xs ≡ true → list_all p (filter f xs) ≡ true
  all_passing p f [] h = refl
  all_passing p f (x ∷ xs) h =
      let k = and_parts (p x) (list_all p xs) h in
      by (f x) k.0 (all_passing p f xs k.1)
    where
      by : (b : Bool) → p x ≡ true → list_all p (filter f xs) ≡ true → list_all p (if b then x ∷ filter f xs else filter f xs) ≡ true
      by true e rest = and_from (p x) (list_all p (filter f xs)) e rest
      by false e rest = rest

  -- ---- what each gives

  module _ {Y : Type 0} (give : X → List Y) where
    pub three_giving : (a b c : List X) → flat_map give (a ++ b ++ c) ≡ flat_map give a ++ flat_map give b ++ flat_map give c
    three_giving a b c = flat_map-append give (a ++ b) c ∙ ap (λ l. l ++ flat_map give c) (flat_map-append give a b)

    -- what fails the test gives nothing
    pub given_by_passing : (f : X → Bool) → ((x : X) → f x ≡ false → give x ≡ []) → (xs : List X) → flat_map give (filter f xs) ≡ flat_map give xs
    given_by_passing f none [] = refl
    given_by_passing f none (x ∷ xs) = by (f x) refl (given_by_passing f none xs)
      where
        by : (b : Bool) → f x ≡ b → flat_map give (filter f xs) ≡ flat_map give xs → flat_map give (if b then x ∷ filter f xs else filter f xs) ≡ give x ++ flat_map give xs
        by true e rest = ap (λ l. give x ++ l) rest
        by false e rest = rest ∙ ap (λ l. l ++ flat_map give xs) (sym (none x e))

    -- what passes it gives nothing
    pub none_given : (f : X → Bool) → ((x : X) → f x ≡ true → give x ≡ []) → (xs : List X) → flat_map give (filter f xs) ≡ []
    none_given f none [] = refl
    none_given f none (x ∷ xs) = by (f x) refl (none_given f none xs)
      where
        by : (b : Bool) → f x ≡ b → flat_map give (filter f xs) ≡ [] → flat_map give (if b then x ∷ filter f xs else filter f xs) ≡ []
        by true e rest = ap (λ l. l ++ flat_map give (filter f xs)) (none x e) ∙ rest
        by false e rest = rest

  -- ---- where something stands

  -- in the first of two lists, after these, or in the second, after all of the first
  abbrev pub StandsAfterEither : List X → List X → List X → X → Type 0
  StandsAfterEither xs ys before x = StandsAfter xs before x ⊎ ((front : List X) × ((before ≡ xs ++ front) × StandsAfter ys front x))

  head_same : (a b : X) (as' bs : List X) → a ∷ as' ≡ b ∷ bs → a ≡ b
  head_same a b as' bs e = cc

  tail_same : (a b : X) (as' bs : List X) → a ∷ as' ≡ b ∷ bs → as' ≡ bs
  tail_same a b as' bs e = cc

  pub stands_after_either : (xs ys before : List X) (x : X) → StandsAfter (xs ++ ys) before x → StandsAfterEither xs ys before x
  stands_after_either [] ys before x at = inr (before, (refl, at))
  stands_after_either (y ∷ xs) ys [] x (after, is) = inl (xs, ap (λ z. z ∷ xs) (head_same y x (xs ++ ys) after is))
  stands_after_either (y ∷ xs) ys (b ∷ before) x (after, is) =
      further (head_same y b (xs ++ ys) (before ++ x ∷ after) is) (stands_after_either xs ys before x (after, tail_same y b (xs ++ ys) (before ++ x ∷ after) is))
    where
      further : y ≡ b → StandsAfterEither xs ys before x → StandsAfterEither (y ∷ xs) ys (b ∷ before) x
      further e (inl (rest, k)) = inl (rest, λ i. e i ∷ k i)
      further e (inr (front, (k, at))) = inr (front, (λ i. sym e i ∷ k i, at))

  -- what is among those that pass a test passes, and is in the list, after the same that pass
  pub stands_passing : (f : X → Bool) (xs before : List X) (x : X) → StandsAfter (filter f xs) before x → (front : List X) × (StandsAfter xs front x × ((filter f front ≡ before) × (f x ≡ true)))
  stands_passing f xs before x (after, is) =
      let p = found (λ (y : X). y) f xs before x after (map-id (filter f xs) ∙ is) in (
        p.front,
        (subst (StandsAfter xs p.front) p.same p.stands, (sym (map-id (filter f p.front)) ∙ p.front_same, subst (λ y. f y ≡ true) p.same p.sorted)),
      )
