-- Each selection inside a set is at a position of its own.
use Rattle.std.proofs.Common.{◌≡◌, ◌++◌, ℕ, suc, ◌≤◌, Bool, true, false, List, [], ◌∷◌, map, refl, sym, ap, subst, ◌∙◌, inl, inr, append_assoc, arith, Contains}
use Rattle.std.specs.Prelude.{if◌then◌else◌}
use Rattle.std.proofs.lemmas.List.{map-append}
use Rattle.std.proofs.lemmas.List.Elements.{Contains-append_right, Contains-append_cases}
use Rattle.rule_cycle_search.proofs.Lists.{not_in_nil, Contains-cons, Contains-first}
use Rattle.spec_document.specs.MeantTree.{MeantSelection, MeantField, MeantSpread, MeantInline, MeantSet, meant_set, MeantSelections, no_meant, meant_then}
use Rattle.rule_document_definitions.specs.Selected.{Position, InOperation, InFragment, SelectionAt, Standing}
use Rattle.rule_selection_queries.specs.Inside.{inside, inside_from, inside_below}
use Rattle.rule_fragments.specs.Rooted.{Apart}
use Rattle.rule_selection_queries.proofs.Mapped.{mapped_in}
use Rattle.rule_selection_queries.proofs.Inside.{head, here}

-- ---- lists

module _ {X : Type 0} where
  pub apart_append : (xs ys : List X) → Apart xs → Apart ys → ((z : X) → Contains xs z → Contains ys z → ⊥) → Apart (xs ++ ys)
  apart_append [] ys a b never = b
  apart_append (x ∷ xs) ys a b never = (
    λ c. elim (Contains-append_cases xs ys x c) [
      | inl l ↦ a.0 l
      | inr r ↦ never x (Contains-first x xs x refl) r
    ],
    apart_append xs ys a.1 b (λ z l r. never z (Contains-append_right (x ∷ []) xs z l) r),
  )

  cancel : (xs : List X) (x y : X) (r s : List X) → xs ++ x ∷ r ≡ xs ++ y ∷ s → x ≡ y
  cancel [] x y r s e = cc
  cancel (z ∷ xs) x y r s e = let tails : xs ++ x ∷ r ≡ xs ++ y ∷ s = cc in cancel xs x y r s tails

-- ---- positions

-- the operation or fragment that it is in, and the way down from there
abbrev pub top : Position → Position
top (InOperation n) = InOperation n
top (InFragment n) = InFragment n
top (SelectionAt h i) = top h

abbrev steps : Position → List ℕ
steps (InOperation n) = []
steps (InFragment n) = []
steps (SelectionAt h i) = steps h ++ i ∷ []

-- it is below the holder, in the selection at that index
abbrev IsAt : Position → ℕ → Position → Type 0
IsAt h j p = (rest : List ℕ) × ((top p ≡ top h) × (steps p ≡ steps h ++ j ∷ rest))

abbrev IsFrom : Position → ℕ → Position → Type 0
IsFrom h i p = (j : ℕ) × ((i ≤ j) × IsAt h j p)

module _ {P : Type 0} (nested : Bool) (keep : MeantSelection P → Bool) where
  further_down : (h : Position) (i : ℕ) (p : Position) → IsFrom (SelectionAt h i) 0 p → IsAt h i p
  further_down h i p (j, (l, (rest, (t, e)))) = (j ∷ rest, (t, e ∙ append_assoc (steps h) (i ∷ []) (j ∷ rest)))

  at_here : (b : Bool) (h : Position) (t : List ℕ) (i : ℕ) (s : MeantSelection P) (x : Standing P) → Contains (if b then head nested keep h t i s ∷ inside_below nested keep (SelectionAt h i) s else []) x
      → (Contains (inside_below nested keep (SelectionAt h i) s) x → IsFrom (SelectionAt h i) 0 x.position) → IsAt h i x.position
  at_here true h t i s x c further = elim (Contains-cons (head nested keep h t i s) (inside_below nested keep (SelectionAt h i) s) x c) [
    | inl e ↦ subst (λ (z : Standing P). IsAt h i z.position) e ([], (refl, refl))
    | inr r ↦ further_down h i x.position (further r)
  ]
  at_here false h t i s x c further = not_in_nil x c

  in_field : (b : Bool) (l : List (Standing P)) (x : Standing P) → Contains (if b then l else []) x → Contains l x
  in_field true l x c = c
  in_field false l x c = not_in_nil x c

  mutual
    pub place_in : (h : Position) (s : MeantSet P) (x : Standing P) → Contains (inside nested keep h s) x → IsFrom h 0 x.position
    place_in h (meant_set t ss) x c = place_from h t 0 ss x c

    place_from : (h : Position) (t : List ℕ) (i : ℕ) (ss : MeantSelections P) (x : Standing P) → Contains (inside_from nested keep h t i ss) x → IsFrom h i x.position
    place_from h t i no_meant x c = not_in_nil x c
    place_from h t i (meant_then s ss) x c = elim (Contains-append_cases (here nested keep h t i s) (inside_from nested keep h t (suc i) ss) x c) [
      | inl a ↦ (i, (omega arith, at_here (keep s) h t i s x a (λ b. place_below (SelectionAt h i) s x b)))
      | inr r ↦ let p = place_from h t (suc i) ss x r in (p.0, (omega (arith, p.1.0), p.1.1))
    ]

    place_below : (at : Position) (s : MeantSelection P) (x : Standing P) → Contains (inside_below nested keep at s) x → IsFrom at 0 x.position
    place_below at (MeantField p d h s) x c = place_in at s x (in_field nested (inside nested keep at s) x c)
    place_below at (MeantSpread p n ds) x c = not_in_nil x c
    place_below at (MeantInline p c' ds s) x c = place_in at s x c

  abbrev pub places : List (Standing P) → List Position
  places xs = map (λ x. x.position) xs

  no_longer : (xs : List ℕ) (j : ℕ) (rest : List ℕ) → xs ≡ xs ++ j ∷ rest → ⊥
  no_longer [] j rest e = cc
  no_longer (x ∷ xs) j rest e = let tails : xs ≡ xs ++ j ∷ rest = cc in no_longer xs j rest tails

  not_below : (h : Position) (i : ℕ) (s : MeantSelection P) → Contains (places (inside_below nested keep (SelectionAt h i) s)) (SelectionAt h i) → ⊥
  not_below h i s c =
      let x = mapped_in (λ (x : Standing P). x.position) (inside_below nested keep (SelectionAt h i) s) (SelectionAt h i) c in
      let p = place_below (SelectionAt h i) s x.0 x.1.0 in
      no_longer (steps (SelectionAt h i)) p.0 p.1.1.0 (sym (ap steps x.1.1) ∙ p.1.1.1.1)

  apart_here : (b : Bool) (h : Position) (t : List ℕ) (i : ℕ) (s : MeantSelection P) → Apart (places (inside_below nested keep (SelectionAt h i) s))
      → Apart (places (if b then head nested keep h t i s ∷ inside_below nested keep (SelectionAt h i) s else []))
  apart_here true h t i s rest = (not_below h i s, rest)
  apart_here false h t i s rest = tt

  apart_field : (b : Bool) (l : List (Standing P)) → Apart (places l) → Apart (places (if b then l else []))
  apart_field true l a = a
  apart_field false l a = tt

  -- one after another
  other : (h : Position) (t : List ℕ) (i : ℕ) (s : MeantSelection P) (ss : MeantSelections P) (z : Position) → Contains (places (here nested keep h t i s)) z → Contains (places (inside_from nested keep h t (suc i) ss)) z → ⊥
  other h t i s ss z c d =
      let x = mapped_in (λ (x : Standing P). x.position) (here nested keep h t i s) z c in
      let y = mapped_in (λ (x : Standing P). x.position) (inside_from nested keep h t (suc i) ss) z d in
      let p = at_here (keep s) h t i s x.0 x.1.0 (λ b. place_below (SelectionAt h i) s x.0 b) in
      let q = place_from h t (suc i) ss y.0 y.1.0 in
      let same = cancel (steps h) i q.0 p.0 q.1.1.0 (sym p.1.1 ∙ ap steps x.1.1 ∙ sym (ap steps y.1.1) ∙ q.1.1.1.1) in
      absurd (omega (arith, same, q.1.0))

  mutual
    pub apart_in : (h : Position) (s : MeantSet P) → Apart (places (inside nested keep h s))
    apart_in h (meant_set t ss) = apart_from h t 0 ss

    apart_from : (h : Position) (t : List ℕ) (i : ℕ) (ss : MeantSelections P) → Apart (places (inside_from nested keep h t i ss))
    apart_from h t i no_meant = tt
    apart_from h t i (meant_then s ss) =
        subst Apart (sym (map-append (λ (x : Standing P). x.position) (here nested keep h t i s) (inside_from nested keep h t (suc i) ss)))
        (apart_append (places (here nested keep h t i s)) (places (inside_from nested keep h t (suc i) ss)) (apart_here (keep s) h t i s (apart_below (SelectionAt h i) s)) (apart_from h t (suc i) ss) (other h t i s ss))

    apart_below : (at : Position) (s : MeantSelection P) → Apart (places (inside_below nested keep at s))
    apart_below at (MeantField p d h s) = apart_field nested (inside nested keep at s) (apart_in at s)
    apart_below at (MeantSpread p n ds) = tt
    apart_below at (MeantInline p c ds s) = apart_in at s

  pub top_in : (h : Position) (s : MeantSet P) (x : Standing P) → Contains (inside nested keep h s) x → top x.position ≡ top h
  top_in h s x c = (place_in h s x c).1.1.1.0
