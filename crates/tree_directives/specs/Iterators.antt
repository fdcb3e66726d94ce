-- Iterators whose items can all be taken.
use Rattle.std.specs.Prelude.{Option, ⊤}
use Rattle.std.specs.Iterator.{Count, IsFinite, HoldsAlong}

-- each iterator made from this can be asked for items, and ends after finitely many
abbrev pub CanBeDrained : {C S A : Type 0} → (C → S → Type 0) → (S → Type 0) → (S → Count) → (S → Option A → S → Type 0) → C → Type 0
CanBeDrained {C} {S} {A} gives can left steps c = (it : S) → gives c it → can it × IsFinite (left it) × HoldsAlong steps it (λ _. ⊤)
