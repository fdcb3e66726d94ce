-- Members of lists, by their places.
use Rattle.std.proofs.Common.{◌≡◌, ◌⊎◌, ◌∙◌, ℕ, ◌+◌, ◌<◌, List, [], ◌∷◌, ◌++◌, length, get_or, take, Contains, refl, sym, ap, subst, inl, inr, arith, length-append}
use Rattle.std.specs.Prelude.{Some, slice_get}
use Rattle.std.proofs.lemmas.Bool.{cases_lt}
use Rattle.std.proofs.lemmas.List.{take_more, length_push, get_or_append_left}
use Rattle.std.proofs.lemmas.List.Elements.{Contains-append_right}
use Rattle.std.proofs.lemmas.Option.{slice_get_within, slice_get-get_or, get_or_from_slice_get}
use Rattle.std.proofs.Math.Seq.{get_or-append_seam}
use Rattle.document_typed_operations.proofs.Finding.{not_in_nil, Contains-cons, Contains-first}
use Rattle.rule_cycle_search.specs.Paths.{HasNoRepeat}

pub only : {X : Type 0} (x y : X) → Contains (x ∷ []) y → x ≡ y
only x y c = elim (Contains-cons x [] y c) [ inl e ↦ e | inr e ↦ absurd (not_in_nil y e) ]

pub in_last : {X : Type 0} (xs : List X) (x : X) → Contains (xs ++ x ∷ []) x
in_last xs x = Contains-append_right xs (x ∷ []) x (Contains-first x [] x refl)

-- the front with the next element
pub taken_more : {X : Type 0} (xs : List X) (i : ℕ) (x : X) → i < length xs → x ≡ get_or xs i x → take (i + 1) xs ≡ take i xs ++ x ∷ []
taken_more xs i x h e = take_more xs i x h ∙ ap (λ y. take i xs ++ y ∷ []) (sym e)

-- ---- what is at a place

-- more elements after it change nothing
pub stands_more : {X : Type 0} (xs ys : List X) (i : ℕ) (x : X) → slice_get xs i ≡ Some x → slice_get (xs ++ ys) i ≡ Some x
stands_more xs ys i x h =
    let within : i < length xs = slice_get_within xs i x h in
    slice_get-get_or (xs ++ ys) i x (omega (arith, within, length-append xs ys))
    ∙ ap (λ a. Some a) (get_or_append_left xs ys x i within ∙ get_or_from_slice_get xs i x x h)

pub stands_mid : {X : Type 0} (xs : List X) (x : X) (ys : List X) → slice_get (xs ++ x ∷ ys) (length xs) ≡ Some x
stands_mid [] x ys = refl
stands_mid (y ∷ xs) x ys = stands_mid xs x ys

pub stands_push_cases : {X : Type 0} (xs : List X) (x : X) (i : ℕ) (y : X) → slice_get (xs ++ x ∷ []) i ≡ Some y → (slice_get xs i ≡ Some y) ⊎ ((i ≡ length xs) × (y ≡ x))
stands_push_cases xs x i y h =
    let within : i < length (xs ++ x ∷ []) = slice_get_within (xs ++ x ∷ []) i y h in
    let is : get_or (xs ++ x ∷ []) i y ≡ y = get_or_from_slice_get (xs ++ x ∷ []) i y y h in
    elim (cases_lt i (length xs)) [
      | inl low ↦ inl (slice_get-get_or xs i y low ∙ ap (λ a. Some a) (sym (get_or_append_left xs (x ∷ []) y i low) ∙ is))
      | inr high ↦
          let last : i ≡ length xs = omega (arith, length_push xs x) in
          inr (last, sym is ∙ ap (λ k. get_or (xs ++ x ∷ []) k y) last ∙ get_or-append_seam xs x [] y)
    ]

pub contains_from_get : {X : Type 0} (xs : List X) (i : ℕ) (x : X) → slice_get xs i ≡ Some x → Contains xs x
contains_from_get xs i x h = (i, slice_get_within xs i x h, get_or_from_slice_get xs i x x h)

-- ---- no member twice

pub none_twice : {X : Type 0} → HasNoRepeat {X = X} []
none_twice i j x h k = absurd (omega (arith, slice_get_within [] i x h))

pub apart_more : {X : Type 0} (xs : List X) (x : X) → HasNoRepeat xs → (Contains xs x → ⊥) → HasNoRepeat (xs ++ x ∷ [])
apart_more xs x apart new i j y h k =
    elim (stands_push_cases xs x i y h) [
      | inl a ↦ elim (stands_push_cases xs x j y k) [
        | inl b ↦ apart i j y a b
        | inr b ↦ absurd (new (subst (Contains xs) b.1 (contains_from_get xs i y a)))
      ]
      | inr a ↦ elim (stands_push_cases xs x j y k) [
        | inl b ↦ absurd (new (subst (Contains xs) a.1 (contains_from_get xs j y b)))
        | inr b ↦ a.0 ∙ sym b.0
      ]
    ]
