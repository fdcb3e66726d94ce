-- Paths from one thing to another along references: without an order of traversal, and without a set
-- of visited things.
use Rattle.std.specs.Prelude.{◌≡◌, ℕ, List, [], ◌∷◌, slice_get, Some}

-- `Refers x by y`: x refers to y, and `by` is the reference
module _ {X R : Type 0} (Refers : X → R → X → Type 0) where
  -- these references lead from x to y, each from where the one before it leads
  abbrev pub Leads : X → List R → X → Type 0
  Leads x [] y = x ≡ y
  Leads x (by ∷ rest) y = (z : X) × (Refers x by z × Leads z rest y)

  -- there is a reference from each of these to the next
  abbrev pub IsWay : List X → Type 0
  IsWay [] = Unit {0}
  IsWay (x ∷ []) = Unit {0}
  IsWay (x ∷ y ∷ rest) = ((by : R) × Refers x by y) × IsWay (y ∷ rest)

-- nothing is in the list twice
abbrev pub HasNoRepeat : {X : Type 0} → List X → Type 0
HasNoRepeat {X} xs = (i j : ℕ) (x : X) → slice_get xs i ≡ Some x → slice_get xs j ≡ Some x → i ≡ j
