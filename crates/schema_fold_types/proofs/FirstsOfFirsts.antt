-- The first of each name among some and the firsts of others.
use Rattle.std.proofs.Common.{◌≡◌, ◌⊎◌, ℕ, Bool, true, false, ◌||◌, List, [], ◌∷◌, ◌++◌, refl, sym, ap, ◌∙◌, inl, inr, cond, if◌then◌else◌}
use Rattle.std.specs.Str.{bytes_eq}
use Rattle.std.proofs.lemmas.Slice.Eq.{bytes_eq-Decides}
use Rattle.schema_fold_index.specs.in_components.Lists.{each_place_after, firsts, has_name}
use Rattle.schema_fold_index.proofs.in_components.Firsts.{has_name-push}

either : (a b : Bool) → (a || b) ≡ true → (a ≡ true) ⊎ (b ≡ true)
either true b h = inl refl
either false b h = inr h

or_more : (a b : Bool) → a ≡ true → (a || b) ≡ true
or_more true b h = refl
or_more false b h = cc

or_true : (a b : Bool) → b ≡ true → (a || b) ≡ true
or_true true b h = refl
or_true false b h = h

or_within : (a b : Bool) → (b ≡ true → a ≡ true) → (a || b) ≡ a
or_within true b h = refl
or_within false true h = sym (h refl)
or_within false false h = refl

module _ {X : Type 0} (key : X → List ℕ) where
  abbrev first_here : List X → X → List X
  first_here before x = if has_name key (key x) before then [] else x ∷ []

  abbrev kept_from : List X → List X → List X
  kept_from = each_place_after first_here

  abbrev HaveSame : List X → List X → Type 0
  HaveSame p q = (n : List ℕ) → has_name key n p ≡ has_name key n q

  abbrev HasAll : List X → List X → Type 0
  HasAll p c = (n : List ℕ) → has_name key n c ≡ true → has_name key n p ≡ true

  same_name : (n : List ℕ) (x : X) (p : List X) → bytes_eq n (key x) ≡ true → has_name key (key x) p ≡ true → has_name key n p ≡ true
  same_name n x p e h = ap (λ m. has_name key m p) ((bytes_eq-Decides n (key x)).0 e) ∙ h

  -- one more, of a name that is had
  same_seen : (p q : List X) (x : X) → HaveSame p q → has_name key (key x) q ≡ true → HaveSame p (q ++ x ∷ [])
  same_seen p q x same seen n = same n ∙ sym (has_name-push key n q x ∙ or_within (has_name key n q) (bytes_eq n (key x)) (λ e. same_name n x q e seen))

  all_seen : (p c : List X) (x : X) → HasAll p c → has_name key (key x) p ≡ true → HasAll p (c ++ x ∷ [])
  all_seen p c x all seen n h = elim (either (has_name key n c) (bytes_eq n (key x)) (sym (has_name-push key n c x) ∙ h)) [
    | inl a ↦ all n a
    | inr e ↦ same_name n x p e seen
  ]

  -- one more on both sides
  same_more : (p q : List X) (x : X) → HaveSame p q → HaveSame (p ++ x ∷ []) (q ++ x ∷ [])
  same_more p q x same n = has_name-push key n p x ∙ ap (λ b. b || bytes_eq n (key x)) (same n) ∙ sym (has_name-push key n q x)

  all_more : (p c : List X) (x : X) → HasAll p c → HasAll (p ++ x ∷ []) (c ++ x ∷ [])
  all_more p c x all n h = has_name-push key n p x ∙ elim (either (has_name key n c) (bytes_eq n (key x)) (sym (has_name-push key n c x) ∙ h)) [
    | inl a ↦ or_more (has_name key n p) (bytes_eq n (key x)) (all n a)
    | inr e ↦ or_true (has_name key n p) (bytes_eq n (key x)) e
  ]

  kept_again : (p c q xs : List X) → HaveSame p q → HasAll p c → kept_from p (kept_from c xs) ≡ kept_from q xs
  kept_again p c q [] same all = refl
  kept_again p c q (x ∷ xs) same all = by (has_name key (key x) c) refl (λ p' q' s a. kept_again p' (c ++ x ∷ []) q' xs s a)
    where
      by : (b : Bool) → has_name key (key x) c ≡ b → ((p' q' : List X) → HaveSame p' q' → HasAll p' (c ++ x ∷ []) → kept_from p' (kept_from (c ++ x ∷ []) xs) ≡ kept_from q' xs)
          → kept_from p (cond b [] (x ∷ []) ++ kept_from (c ++ x ∷ []) xs) ≡ cond (has_name key (key x) q) [] (x ∷ []) ++ kept_from (q ++ x ∷ []) xs
      by true e rest =
          let seen : has_name key (key x) p ≡ true = all (key x) e in
          let here : has_name key (key x) q ≡ true = sym (same (key x)) ∙ seen in
          rest p (q ++ x ∷ []) (same_seen p q x same here) (all_seen p c x all seen) ∙ ap (λ b. cond b [] (x ∷ []) ++ kept_from (q ++ x ∷ []) xs) (sym here)
      by false e rest = λ i. cond (same (key x) i) [] (x ∷ []) ++ rest (p ++ x ∷ []) (q ++ x ∷ []) (same_more p q x same) (all_more p c x all) i

  kept_after : (before xs ys : List X) → kept_from before (xs ++ firsts key ys) ≡ kept_from before (xs ++ ys)
  kept_after before [] ys = kept_again before [] before ys (λ n. refl) (λ n h. absurd cc)
  kept_after before (x ∷ xs) ys = ap (λ l. first_here before x ++ l) (kept_after (before ++ x ∷ []) xs ys)

  -- the same as among all
  pub firsts_of_firsts : (xs ys : List X) → firsts key (xs ++ firsts key ys) ≡ firsts key (xs ++ ys)
  firsts_of_firsts xs ys = kept_after [] xs ys
