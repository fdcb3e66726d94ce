-- Ways along references, and lists without repetition.
use Rattle.std.proofs.Common.{◌≡◌, ℕ, ◌<◌, ◌⊎◌, List, [], ◌∷◌, ◌++◌, length, get_or, Some, refl, sym, ap, subst, ◌∙◌, inl, inr, arith}
use Rattle.std.specs.Prelude.{slice_get, Contains}
use Rattle.std.proofs.lemmas.Bool.{cases_lt}
use Rattle.std.proofs.lemmas.List.{length_push, get_or_append_left}
use Rattle.std.proofs.lemmas.List.Elements.{Contains-append_cases, Contains-append_right}
use Rattle.std.proofs.lemmas.Option.{slice_get_within, slice_get-get_or, get_or_from_slice_get}
use Rattle.std.proofs.Math.Seq.{get_or-append_seam}
use Rattle.rule_cycle_search.specs.Paths.{Leads, HasNoRepeat}
use Rattle.rule_cycle_search.proofs.Lists.{only}

module _ {X R : Type 0} (Refers : X → R → X → Type 0) where
  pub Leads-append : (x : X) (bys : List R) (y : X) (more : List R) (z : X) → Leads Refers x bys y → Leads Refers y more z → Leads Refers x (bys ++ more) z
  Leads-append x [] y more z e w = subst (λ a. Leads Refers a more z) (sym e) w
  Leads-append x (by ∷ bys) y more z l w = (l.0, (l.1.0, Leads-append l.0 bys y more z l.1.1 w))

  pub Leads-push : (x : X) (bys : List R) (y : X) (by : R) (z : X) → Leads Refers x bys y → Refers y by z → Leads Refers x (bys ++ by ∷ []) z
  Leads-push x bys y by z l r = Leads-append x bys y (by ∷ []) z l (z, (r, refl))

pub Contains-last : {X : Type 0} (xs : List X) (x : X) → Contains (xs ++ x ∷ []) x
Contains-last xs x = Contains-append_right xs (x ∷ []) x (0, omega arith, refl)

pub Contains-push_cases : {X : Type 0} (xs : List X) (x y : X) → Contains (xs ++ x ∷ []) y → Contains xs y ⊎ (y ≡ x)
Contains-push_cases xs x y h = elim (Contains-append_cases xs (x ∷ []) y h) [ inl c ↦ inl c | inr c ↦ inr (only x y c) ]

pub Contains-from_get : {X : Type 0} (xs : List X) (i : ℕ) (x : X) → slice_get xs i ≡ Some x → Contains xs x
Contains-from_get xs i x h = (i, slice_get_within xs i x h, get_or_from_slice_get xs i x x h)

slice_get-push_cases : {X : Type 0} (xs : List X) (x : X) (i : ℕ) (y : X) → slice_get (xs ++ x ∷ []) i ≡ Some y → (slice_get xs i ≡ Some y) ⊎ ((i ≡ length xs) × (y ≡ x))
slice_get-push_cases xs x i y h =
    let within : i < length (xs ++ x ∷ []) = slice_get_within (xs ++ x ∷ []) i y h in
    let is : get_or (xs ++ x ∷ []) i y ≡ y = get_or_from_slice_get (xs ++ x ∷ []) i y y h in
    elim (cases_lt i (length xs)) [
      | inl low ↦ inl (slice_get-get_or xs i y low ∙ ap (λ a. Some a) (sym (get_or_append_left xs (x ∷ []) y i low) ∙ is))
      | inr high ↦
          let last : i ≡ length xs = omega (arith, length_push xs x) in
          inr (last, sym is ∙ ap (λ k. get_or (xs ++ x ∷ []) k y) last ∙ get_or-append_seam xs x [] y)
    ]

pub HasNoRepeat-push : {X : Type 0} (xs : List X) (x : X) → HasNoRepeat xs → (Contains xs x → ⊥) → HasNoRepeat (xs ++ x ∷ [])
HasNoRepeat-push xs x apart new i j y h k =
    elim (slice_get-push_cases xs x i y h) [
      | inl a ↦ elim (slice_get-push_cases xs x j y k) [
        | inl b ↦ apart i j y a b
        | inr b ↦ absurd (new (subst (Contains xs) b.1 (Contains-from_get xs i y a)))
      ]
      | inr a ↦ elim (slice_get-push_cases xs x j y k) [
        | inl b ↦ absurd (new (subst (Contains xs) a.1 (Contains-from_get xs j y b)))
        | inr b ↦ a.0 ∙ sym b.0
      ]
    ]

pub HasNoRepeat-single : {X : Type 0} (x : X) → HasNoRepeat (x ∷ [])
HasNoRepeat-single x i j y h k =
    let a : i < length (x ∷ []) = slice_get_within (x ∷ []) i y h in
    let b : j < length (x ∷ []) = slice_get_within (x ∷ []) j y k in
    omega arith
