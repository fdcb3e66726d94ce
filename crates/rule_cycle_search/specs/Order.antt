-- Private: leads to `CyclesBreak` and `RecursiveFragmentDefinitionAt`. What a depth-first search has left to do.
use Rattle.std.specs.Prelude.{ℕ, ◌+◌, Bool, List, [], ◌∷◌, length, cond, Vec}
use Rattle.std.specs.Global.{Global}

-- how many steps the nodes that are not entered still take: one for each of them and one for each of their
-- references
abbrev pub to_enter : List Bool → List (Vec ℕ Global) → ℕ
to_enter [] lists = 0
to_enter (e ∷ es) [] = cond e 0 1 + to_enter es []
to_enter (e ∷ es) (l ∷ ls) = cond e 0 (1 + length l.items) + to_enter es ls
