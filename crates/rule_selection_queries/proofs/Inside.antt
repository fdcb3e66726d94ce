-- What stands inside a set: which selections these are, and that they lead to no others in their text.
use Rattle.std.proofs.Common.{◌≡◌, ◌++◌, ℕ, suc, Bool, true, false, List, [], ◌∷◌, map, refl, sym, ap, subst, ◌∙◌, inl, inr, true≢false, Contains}
use Rattle.std.specs.Prelude.{if◌then◌else◌}
use Rattle.std.proofs.lemmas.List.{map-append}
use Rattle.std.proofs.lemmas.List.Elements.{Contains-append_left, Contains-append_right, Contains-append_cases}
use Rattle.rule_cycle_search.proofs.Lists.{not_in_nil, Contains-cons, Contains-first}
use Rattle.spec_document.specs.MeantTree.{MeantSelection, MeantField, MeantSpread, MeantInline, MeantSet, meant_set, MeantSelections, no_meant, meant_then}
use Rattle.rule_document_definitions.specs.Selected.{Position, SelectionAt, Standing, stand, standing_in}
use Rattle.rule_selection_queries.specs.Inside.{contents_in, contents_along, contents_below, inside, inside_from, inside_below}

module _ {P : Type 0} (nested : Bool) (keep : MeantSelection P → Bool) where
  abbrev pub head : Position → List ℕ → ℕ → MeantSelection P → Standing P
  head h t i s = record { position = SelectionAt h i; parent = t; it = s }

  -- the selection and what is in it
  abbrev pub here : Position → List ℕ → ℕ → MeantSelection P → List (Standing P)
  here h t i s = if keep s then head h t i s ∷ inside_below nested keep (SelectionAt h i) s else []

  -- ---- the selections themselves

  here_contents : (b : Bool) (h : Position) (t : List ℕ) (i : ℕ) (s : MeantSelection P) → map (λ x. x.it) (inside_below nested keep (SelectionAt h i) s) ≡ contents_below nested keep s
      → map (λ x. x.it) (if b then head h t i s ∷ inside_below nested keep (SelectionAt h i) s else []) ≡ (if b then s ∷ contents_below nested keep s else [])
  here_contents true h t i s e = ap (λ l. s ∷ l) e
  here_contents false h t i s e = refl

  field_contents : (b : Bool) (at : Position) (s : MeantSet P) → map (λ x. x.it) (inside nested keep at s) ≡ contents_in nested keep s
      → map (λ x. x.it) (if b then inside nested keep at s else []) ≡ (if b then contents_in nested keep s else [])
  field_contents true at s e = e
  field_contents false at s e = refl

  mutual
    pub contents_inside : (h : Position) (s : MeantSet P) → map (λ x. x.it) (inside nested keep h s) ≡ contents_in nested keep s
    contents_inside h (meant_set t ss) = contents_from h t 0 ss

    contents_from : (h : Position) (t : List ℕ) (i : ℕ) (ss : MeantSelections P) → map (λ x. x.it) (inside_from nested keep h t i ss) ≡ contents_along nested keep ss
    contents_from h t i no_meant = refl
    contents_from h t i (meant_then s ss) =
        map-append (λ (x : Standing P). x.it) (here h t i s) (inside_from nested keep h t (suc i) ss)
        ∙ (λ k. here_contents (keep s) h t i s (contents_under (SelectionAt h i) s) k ++ contents_from h t (suc i) ss k)

    contents_under : (at : Position) (s : MeantSelection P) → map (λ x. x.it) (inside_below nested keep at s) ≡ contents_below nested keep s
    contents_under at (MeantField p d h s) = field_contents nested at s (contents_inside at s)
    contents_under at (MeantSpread p n ds) = refl
    contents_under at (MeantInline p c ds s) = contents_inside at s

  -- ---- what is in a selection itself, if that counts

  abbrev pub InsideOf : Position → MeantSelection P → Standing P → Type 0
  InsideOf at (MeantField p d h s) y = (nested ≡ true) × Contains (standing_in at s) y
  InsideOf at (MeantSpread p n ds) y = ⊥
  InsideOf at (MeantInline p c ds s) y = Contains (standing_in at s) y

  head_in : (b : Bool) (x : Standing P) (below : List (Standing P)) (y : Standing P) → x ≡ y → b ≡ true → Contains (if b then x ∷ below else []) y
  head_in true x below y e k = Contains-first x below y e
  head_in false x below y e k = absurd (true≢false (sym k))

  -- the selections of the set itself are inside
  own_from : (h : Position) (t : List ℕ) (i : ℕ) (ss : MeantSelections P) (y : Standing P) → Contains (stand h t i ss) y → keep y.it ≡ true → Contains (inside_from nested keep h t i ss) y
  own_from h t i no_meant y c k = not_in_nil y c
  own_from h t i (meant_then s ss) y c k = elim (Contains-cons (head h t i s) (stand h t (suc i) ss) y c) [
    | inl e ↦ Contains-append_left (here h t i s) (inside_from nested keep h t (suc i) ss) y (head_in (keep s) (head h t i s) (inside_below nested keep (SelectionAt h i) s) y e (ap (λ (z : Standing P). keep z.it) e ∙ k))
    | inr r ↦ Contains-append_right (here h t i s) (inside_from nested keep h t (suc i) ss) y (own_from h t (suc i) ss y r k)
  ]

  pub own_in : (h : Position) (s : MeantSet P) (y : Standing P) → Contains (standing_in h s) y → keep y.it ≡ true → Contains (inside nested keep h s) y
  own_in h (meant_set t ss) y c k = own_from h t 0 ss y c k

  own_below : (at : Position) (s : MeantSelection P) (y : Standing P) → InsideOf at s y → keep y.it ≡ true → Contains (inside_below nested keep at s) y
  own_below at (MeantField p d h s) y w k = subst (λ b. Contains (if b then inside nested keep at s else []) y) (sym w.0) (own_in at s y w.1 k)
  own_below at (MeantSpread p n ds) y w k = absurd w
  own_below at (MeantInline p c ds s) y w k = own_in at s y w k

  -- ---- what is in one of these is one of them

  next_here : (b : Bool) (h : Position) (t : List ℕ) (i : ℕ) (s : MeantSelection P) (x y : Standing P)
      → Contains (if b then head h t i s ∷ inside_below nested keep (SelectionAt h i) s else []) x → InsideOf x.position x.it y → keep y.it ≡ true
      → (Contains (inside_below nested keep (SelectionAt h i) s) x → Contains (inside_below nested keep (SelectionAt h i) s) y)
      → Contains (if b then head h t i s ∷ inside_below nested keep (SelectionAt h i) s else []) y
  next_here true h t i s x y c w k further =
      Contains-append_right (head h t i s ∷ []) (inside_below nested keep (SelectionAt h i) s) y
      (elim (Contains-cons (head h t i s) (inside_below nested keep (SelectionAt h i) s) x c) [
        | inl e ↦ own_below (SelectionAt h i) s y (subst (λ (z : Standing P). InsideOf z.position z.it y) (sym e) w) k
        | inr r ↦ further r
      ])
  next_here false h t i s x y c w k further = not_in_nil x c

  next_field : (b : Bool) (at : Position) (s : MeantSet P) (x y : Standing P) → Contains (if b then inside nested keep at s else []) x
      → (Contains (inside nested keep at s) x → Contains (inside nested keep at s) y) → Contains (if b then inside nested keep at s else []) y
  next_field true at s x y c further = further c
  next_field false at s x y c further = not_in_nil x c

  mutual
    pub next_in : (h : Position) (s : MeantSet P) (x y : Standing P) → Contains (inside nested keep h s) x → InsideOf x.position x.it y → keep y.it ≡ true → Contains (inside nested keep h s) y
    next_in h (meant_set t ss) x y c w k = next_from h t 0 ss x y c w k

    next_from : (h : Position) (t : List ℕ) (i : ℕ) (ss : MeantSelections P) (x y : Standing P) → Contains (inside_from nested keep h t i ss) x → InsideOf x.position x.it y → keep y.it ≡ true → Contains (inside_from nested keep h t i ss) y
    next_from h t i no_meant x y c w k = not_in_nil x c
    next_from h t i (meant_then s ss) x y c w k = elim (Contains-append_cases (here h t i s) (inside_from nested keep h t (suc i) ss) x c) [
      | inl a ↦ Contains-append_left (here h t i s) (inside_from nested keep h t (suc i) ss) y (next_here (keep s) h t i s x y a w k (λ b. next_below (SelectionAt h i) s x y b w k))
      | inr r ↦ Contains-append_right (here h t i s) (inside_from nested keep h t (suc i) ss) y (next_from h t (suc i) ss x y r w k)
    ]

    next_below : (at : Position) (s : MeantSelection P) (x y : Standing P) → Contains (inside_below nested keep at s) x → InsideOf x.position x.it y → keep y.it ≡ true → Contains (inside_below nested keep at s) y
    next_below at (MeantField p d h s) x y c w k = next_field nested at s x y c (λ b. next_in at s x y b w k)
    next_below at (MeantSpread p n ds) x y c w k = not_in_nil x c
    next_below at (MeantInline p c' ds s) x y c w k = next_in at s x y c w k

  -- ---- and all of them are come to from the selections of the set

  module _ (Q : Standing P → Type 0) (onward : (x y : Standing P) → Q x → InsideOf x.position x.it y → keep y.it ≡ true → Q y) where
    sound_here : (b : Bool) (h : Position) (t : List ℕ) (i : ℕ) (s : MeantSelection P) (x : Standing P) → b ≡ keep s
        → Contains (if b then head h t i s ∷ inside_below nested keep (SelectionAt h i) s else []) x → (keep s ≡ true → Q (head h t i s))
        → (Q (head h t i s) → Contains (inside_below nested keep (SelectionAt h i) s) x → Q x × (keep x.it ≡ true)) → Q x × (keep x.it ≡ true)
    sound_here true h t i s x is c begins further = elim (Contains-cons (head h t i s) (inside_below nested keep (SelectionAt h i) s) x c) [
      | inl e ↦ subst (λ (z : Standing P). Q z × (keep z.it ≡ true)) e (begins (sym is), sym is)
      | inr r ↦ further (begins (sym is)) r
    ]
    sound_here false h t i s x is c begins further = not_in_nil x c

    sound_field : (b : Bool) (at : Position) (s : MeantSet P) (x : Standing P) → b ≡ nested → Contains (if b then inside nested keep at s else []) x
        → (nested ≡ true → Contains (inside nested keep at s) x → Q x × (keep x.it ≡ true)) → Q x × (keep x.it ≡ true)
    sound_field true at s x is c further = further (sym is) c
    sound_field false at s x is c further = not_in_nil x c

    mutual
      pub sound_in : (h : Position) (s : MeantSet P) → ((y : Standing P) → Contains (standing_in h s) y → keep y.it ≡ true → Q y) → (x : Standing P) → Contains (inside nested keep h s) x → Q x × (keep x.it ≡ true)
      sound_in h (meant_set t ss) begins x c = sound_from h t 0 ss begins x c

      sound_from : (h : Position) (t : List ℕ) (i : ℕ) (ss : MeantSelections P) → ((y : Standing P) → Contains (stand h t i ss) y → keep y.it ≡ true → Q y) → (x : Standing P) → Contains (inside_from nested keep h t i ss) x → Q x × (keep x.it ≡ true)
      sound_from h t i no_meant begins x c = not_in_nil x c
      sound_from h t i (meant_then s ss) begins x c = elim (Contains-append_cases (here h t i s) (inside_from nested keep h t (suc i) ss) x c) [
        | inl a ↦ sound_here (keep s) h t i s x refl a (λ k. begins (head h t i s) (Contains-first (head h t i s) (stand h t (suc i) ss) (head h t i s) refl) k)
            (λ q b. sound_below (head h t i s) (SelectionAt h i) s (λ y w k. onward (head h t i s) y q w k) x b)
        | inr r ↦ sound_from h t (suc i) ss (λ y b k. begins y (Contains-append_right (head h t i s ∷ []) (stand h t (suc i) ss) y b) k) x r
      ]

      sound_below : (z : Standing P) (at : Position) (s : MeantSelection P) → ((y : Standing P) → InsideOf at s y → keep y.it ≡ true → Q y) → (x : Standing P) → Contains (inside_below nested keep at s) x → Q x × (keep x.it ≡ true)
      sound_below z at (MeantField p d h s) begins x c = sound_field nested at s x refl c (λ n b. sound_in at s (λ y a k. begins y (n, a) k) x b)
      sound_below z at (MeantSpread p n ds) begins x c = not_in_nil x c
      sound_below z at (MeantInline p c' ds s) begins x c = sound_in at s begins x c
