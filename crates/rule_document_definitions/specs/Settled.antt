-- Settled fields: if `Stand`, a relation of fields that are examined together, relates two fields that go together, they agree, and
-- it relates each field below the one to each field below the other. To be in one list is one such relation: the order of a list
-- does not count.
use Rattle.std.specs.Prelude.{List, Contains, ◌⊎◌}

module _ {F : Type 0} where
  -- both fields are in one of these lists
  abbrev pub AreInOne : List (List F) → F → F → Type 0
  AreInOne lists f g = (list : List F) × (Contains lists list × (Contains list f × Contains list g))

  -- if the two fields go together, both are in one of these lists
  abbrev pub StandWhere : (F → F → Type 0) → List (List F) → F → F → Type 0
  StandWhere Together lists f g = Together f g → AreInOne lists f g

  -- a list in `Kept` has every field of `Starts`
  abbrev pub HasStart : (F → Type 0) → (List F → Type 0) → Type 0
  HasStart Starts Kept = (list : List F) × (Kept list × ((f : F) → Starts f → Contains list f))

  -- `Stand` relates any two fields of `Starts`
  abbrev pub StartsStand : (F → Type 0) → (F → F → Type 0) → Type 0
  StartsStand Starts Stand = (f g : F) → Starts f → Starts g → Stand f g

module _ {F : Type 0} (Below Together Agree : F → F → Type 0) where
  -- if `Stand` relates two fields that go together, they agree, and it relates each field below the one to each field below the
  -- other
  pub record IsSettledIn (Stand : F → F → Type 0) : Type 0 where
    pub agree : (f g : F) → Stand f g → Together f g → Agree f g
    pub below : (f g x y : F) → Stand f g → Together f g → Below f x → Below g y → Stand x y

  -- the same during an examination, with all pairs of `Starts`: a pair that `Stand` must relate may be in `Left` instead
  pub record IsUnderWay (Starts : F → Type 0) (Left Stand : F → F → Type 0) : Type 0 where
    pub start : (f g : F) → Starts f → Starts g → Stand f g ⊎ Left f g
    pub agree : (f g : F) → Stand f g → Together f g → Agree f g
    pub below : (f g x y : F) → Stand f g → Together f g → Below f x → Below g y → Stand x y ⊎ Left x y

  -- ---- by lists

  -- every field below f or g is in the list
  abbrev pub HasBelow : F → F → List F → Type 0
  HasBelow f g list = (x : F) → Below f x ⊎ Below g x → Contains list x

  -- two fields of one of these lists that go together agree, and some list in `Kept` has every field below them
  pub record IsSettledBy (Kept : List F → Type 0) (lists : List (List F)) : Type 0 where
    pub agree : (list : List F) (f g : F) → Contains lists list → Contains list f → Contains list g → Together f g → Agree f g
    pub below : (list : List F) (f g : F) → Contains lists list → Contains list f → Contains list g → Together f g
        → (next : List F) × (Kept next × HasBelow f g next)

  -- the same, with a list that has the fields below them among these lists
  abbrev pub IsSettled : List (List F) → Type 0
  IsSettled lists = IsSettledBy (Contains lists) lists
