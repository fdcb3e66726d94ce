-- Lists of fields that chains lead to: any two of their fields that go together are the ends of two such chains, so what is
-- told of them is true.
use Rattle.std.specs.Prelude.{◌≡◌, ℕ, List, [], ◌∷◌, ◌++◌, length, Contains}
use Rattle.rule_document_definitions.specs.Chains.{Chain, Meet}

module _ {F : Type 0} (Below : F → F → Type 0) where
  -- each field of the second list is below one of the first
  abbrev pub LiesBelow : List F → List F → Type 0
  LiesBelow list next = (x : F) → Contains next x → (f : F) × (Contains list f × Below f x)

  module _ (Starts : F → Type 0) where
    -- each field is the last of a chain of this length
    abbrev pub IsEndOf : ℕ → List F → Type 0
    IsEndOf k list = (f : F) → Contains list f → (c : List F) × (Chain Below Starts (c ++ f ∷ []) × (length (c ++ f ∷ []) ≡ k))

    -- any two fields that go together are the last fields of two chains that go together
    abbrev pub IsGoing : (F → F → Type 0) → List F → Type 0
    IsGoing Together list = (f g : F) → Contains list f → Contains list g → Together f g → Meet Below Together Starts f g
