-- Lemmas on lists that grow by one in each turn of a loop.
use Rattle.std.proofs.Common.{◌≡◌, ℕ, ◌+◌, ◌<◌, List, [], ◌∷◌, ◌++◌, map, take, drop, get_or, length, sym, ap, ◌∙◌}
use Rattle.std.proofs.lemmas.List.{append_assoc, map-append, map_more, take-append-drop, at_drop_more}

module _ {X Y : Type 0} (view : X → Y) (xs : List X) (i : ℕ) (x : X) (h : i < length xs) (is : x ≡ get_or xs i x) where
  -- the views of one more
  pub front : map view (take (i + 1) xs) ≡ map view (take i xs) ++ view x ∷ []
  front = map_more view xs i x h ∙ ap (λ y. map view (take i xs) ++ view y ∷ []) (sym is)

  -- the whole list: those before, this one and those after
  pub split : map view xs ≡ map view (take i xs) ++ view x ∷ map view (drop (i + 1) xs)
  split =
      ap (map view) (sym (take-append-drop i xs) ∙ at_drop_more (λ r. take i xs ++ r) xs i x h ∙ ap (λ y. take i xs ++ y ∷ drop (i + 1) xs) (sym is))
      ∙ map-append view (take i xs) (x ∷ drop (i + 1) xs)

  module _ {Z : Type 0} (old now new : List Z) where
    pub mapped : (f : Y → Z) → now ≡ old ++ map f (map view (take i xs)) → new ≡ now ++ f (view x) ∷ [] → new ≡ old ++ map f (map view (take (i + 1) xs))
    mapped f before step =
        step ∙ ap (λ l. l ++ f (view x) ∷ []) before ∙ append_assoc old (map f (map view (take i xs))) (f (view x) ∷ [])
        ∙ ap (λ l. old ++ l) (sym (ap (map f) front ∙ map-append f (map view (take i xs)) (view x ∷ [])))
