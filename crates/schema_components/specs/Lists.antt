-- Elements of a list by what comes before them.
use Rattle.std.specs.Prelude.{◌≡◌, ℕ, Bool, true, List, [], ◌∷◌, ◌++◌, map, if◌then◌else◌}
use Rattle.std.specs.List.{list_any}
use Rattle.std.specs.Str.{bytes_eq}

-- the list is the elements `before`, then x, then any others
abbrev pub StandsAfter : {X : Type 0} → List X → List X → X → Type 0
StandsAfter {X} xs before x = (after : List X) × (xs ≡ before ++ x ∷ after)

-- at some position of the list, P holds for the elements before it and the element at it
abbrev pub AtSomePlace : {X : Type 0} → (List X → X → Type 0) → List X → Type 0
AtSomePlace {X} P xs = (before : List X) × ((x : X) × (StandsAfter xs before x × P before x))

module _ {X Y : Type 0} (f : List X → X → List Y) where
  -- what f gives at each position in turn, if these elements come before the list
  abbrev pub each_place_after : List X → List X → List Y
  each_place_after before [] = []
  each_place_after before (x ∷ xs) = f before x ++ each_place_after (before ++ x ∷ []) xs

  -- what f gives at each position of the list in turn, for the elements before it and the element at it
  abbrev pub each_place : List X → List Y
  each_place xs = each_place_after [] xs

-- whether this text is one of these
abbrev pub is_among : List ℕ → List (List ℕ) → Bool
is_among text texts = list_any (bytes_eq text) texts

module _ {X : Type 0} (name : X → List ℕ) where
  -- whether one of these has the name
  abbrev pub has_name : List ℕ → List X → Bool
  has_name n xs = is_among n (map name xs)

  -- the elements whose name no earlier element has
  abbrev pub firsts : List X → List X
  firsts = each_place (λ before x. if has_name (name x) before then [] else x ∷ [])

  -- the elements whose name an earlier element has
  abbrev pub repeats : List X → List X
  repeats = each_place (λ before x. if has_name (name x) before then x ∷ [] else [])

  -- x is in the list, after an element with the same name
  abbrev pub IsRepeated : List X → X → Type 0
  IsRepeated xs x = AtSomePlace (λ before y. (y ≡ x) × (has_name (name x) before ≡ true)) xs
