-- What a loop tells, turn by turn.
use Rattle.std.proofs.Common.{◌≡◌, ℕ, ◌+◌, ◌<◌, ◌≤◌, List, [], ◌∷◌, ◌++◌, map, length, get_or, take, drop, sym, ap, ◌∙◌}
use Rattle.std.specs.List.{flat_map}
use Rattle.std.proofs.lemmas.List.{map_more, take-append-drop}
use Rattle.std.proofs.lemmas.List.Concat.{flat_map-append}
use Rattle.fault_data.specs.Room.{most_told, ◌⊕◌}
use Rattle.fault_data.proofs.Room.{room_both, room_flat_map, no_room}

-- one element more of a list
pub tells_item : {A X Y : Type 0} (v : Y → X) (f : X → List A) (old now new : List A) (ys : List Y) (k : ℕ) (y : Y) → k < length ys → y ≡ get_or ys k y
    → now ≡ old ⊕ flat_map f (map v (take k ys)) → new ≡ now ⊕ f (v y) → new ≡ old ⊕ flat_map f (map v (take (k + 1) ys))
tells_item v f old now new ys k y inside is so_far step =
    let before = map v (take k ys) in
    step
    ∙ ap (λ l. l ⊕ f (v y)) so_far
    ∙ room_flat_map f old before (v y)
    ∙ ap (λ l. old ⊕ flat_map f l) (ap (λ x. before ++ v x ∷ []) is ∙ sym (map_more v ys k y inside))

-- where the list is full, the rest tells nothing
pub full_rest : {A X : Type 0} (f : X → List A) (old now : List A) (all : List X) (k : ℕ) → now ≡ old ⊕ flat_map f (take k all) → most_told ≤ length now → now ≡ old ⊕ flat_map f all
full_rest f old now all k so_far full =
    let first = flat_map f (take k all) in
    let rest = flat_map f (drop k all) in
    sym (no_room now rest full)
    ∙ ap (λ l. l ⊕ rest) so_far
    ∙ room_both old first rest
    ∙ ap (λ l. old ⊕ l) (sym (flat_map-append f (take k all) (drop k all)) ∙ ap (flat_map f) (take-append-drop k all))
