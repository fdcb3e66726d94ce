-- What is in a list that is mapped, and how long it is.
use Rattle.std.proofs.Common.{◌≡◌, ◌++◌, suc, length, List, [], ◌∷◌, map, refl, ap, inl, inr, Contains}
use Rattle.std.proofs.lemmas.List.Elements.{Contains-append_right}
use Rattle.rule_cycle_search.proofs.Lists.{not_in_nil, Contains-cons, Contains-first}
use Rattle.document_typed_selections.specs.declared.selection.Selection.{Selection}
use Rattle.rule_selection_queries.specs.Lent.{lent_all}

module _ {X Y : Type 0} (f : X → Y) where
  pub mapped_in : (xs : List X) (y : Y) → Contains (map f xs) y → (x : X) × (Contains xs x × (f x ≡ y))
  mapped_in [] y c = not_in_nil y c
  mapped_in (x ∷ xs) y c = elim (Contains-cons (f x) (map f xs) y c) [
    | inl e ↦ (x, (Contains-first x xs x refl, e))
    | inr r ↦ let p = mapped_in xs y r in (p.0, (Contains-append_right (x ∷ []) xs p.0 p.1.0, p.1.1))
  ]

  pub in_mapped : (xs : List X) (x : X) → Contains xs x → Contains (map f xs) (f x)
  in_mapped [] x c = not_in_nil x c
  in_mapped (z ∷ xs) x c = elim (Contains-cons z xs x c) [
    | inl e ↦ Contains-first (f z) (map f xs) (f x) (ap f e)
    | inr r ↦ Contains-append_right (f z ∷ []) (map f xs) (f x) (in_mapped xs x r)
  ]

-- as many as are lent
pub length-lent : (xs : List Selection) → length (lent_all xs) ≡ length xs
length-lent [] = refl
length-lent (x ∷ xs) = ap suc (length-lent xs)
