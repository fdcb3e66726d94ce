-- The entries of a map with the next.
use Rattle.std.proofs.Common.{◌≡◌, List, [], ◌∷◌, ◌++◌, map, ap, ◌∙◌}
use Rattle.std.proofs.lemmas.List.{map-append}

pub pairs_more : {X Y Z : Type 0} (g : Y → Z) (d : X → Y) (xs : List X) (x : X) → map g (map d (xs ++ x ∷ [])) ≡ map g (map d xs) ++ g (d x) ∷ []
pairs_more g d xs x = ap (map g) (map-append d xs (x ∷ [])) ∙ map-append g (map d xs) (d x ∷ [])
