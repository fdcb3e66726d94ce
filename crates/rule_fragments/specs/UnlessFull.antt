-- What is told by work that ends once as many faults are told as one call tells.
use Rattle.std.specs.Prelude.{◌≡◌, ◌≤◌, List, length, Contains, ◌⊎◌}
use Rattle.rule_definitions.specs.Room.{most_told, ◌⊕◌}

module _ {A : Type 0} where
  -- the list has as many as one call tells, or more
  abbrev pub IsFull : List A → Type 0
  IsFull told = most_told ≤ length told

  -- each of these is right; they are at most as many as one call tells, and if they are fewer, `TellsAll` holds of them
  pub record TellsUnlessFull (Right : A → Type 0) (TellsAll : List A → Type 0) (told : List A) : Type 0 where
    pub right : (f : A) → Contains told f → Right f
    pub most : length told ≤ most_told
    pub full : IsFull told ⊎ TellsAll told

  -- everything for which `Right` holds is told
  abbrev pub HasAll : (A → Type 0) → List A → Type 0
  HasAll Right told = (f : A) → Right f → Contains told f

  -- The old list unchanged, then, as far as there is room, some that are right; unless the new list is full, `TellsAll` holds of
  -- those that are added.
  abbrev pub AddsUnlessFull : List A → List A → (A → Type 0) → (List A → Type 0) → Type 0
  AddsUnlessFull old new Right TellsAll = (added : List A) × ((new ≡ old ⊕ added) × (((f : A) → Contains added f → Right f) × (IsFull new ⊎ TellsAll added)))
