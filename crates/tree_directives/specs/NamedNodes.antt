-- Nodes of values that have names: which of them have a given name, and what a list of them is after a borrow of one ends.
use Rattle.std.specs.Prelude.{ℕ, ◌+◌, ◌-◌, ◌==◌, List, [], ◌∷◌, Bool, ◌&&◌, if◌then◌else◌, Option, Vec, bytes_eq}
use Rattle.std.specs.Borrow.{MutBor, Fml, RattleType, LendsIf}
use Rattle.std.specs.Vec.{with_item}
use Rattle.std.specs.declared.alloc.Global.{Global}
use Rattle.std.specs.contracts.alloc.Global as global
use Rattle.std.specs.contracts.impls.GlobalAllocator.TheImpl.{ghosts}
use Rattle.std.specs.contracts.vec.Vec as vec
use Rattle.tree_literals.specs.in_names.Node.{content}
use Rattle.tree_literals.specs.in_names.declared.node.Node.{Node}
use Rattle.tree_literals.specs.in_names.contracts.node.Node as node

-- whether the name of what the node holds is this text
abbrev pub is_named : {A : Type 0} → (A → List ℕ) → List ℕ → Node A → Bool
is_named name_of name n = bytes_eq (name_of (content n)) name

-- the index of the n-th element that passes p, counted from 0; the length of the list if there is none
abbrev pub nth_place : {A : Type 0} → (A → Bool) → ℕ → List A → ℕ
nth_place p n [] = 0
nth_place p n (x ∷ xs) = if p x && (n == 0) then 0 else 1 + nth_place p (if p x then n - 1 else n) xs

-- once the borrow r ends, the n-th node of that name is the last value written through r, and all else is unchanged; if the answer
-- is `None`, nothing changes
abbrev pub LendsNamed : (T : RattleType) → (T.Denot → List ℕ) → List ℕ → ℕ → MutBor (Vec (Node T.Denot) Global) → Option (MutBor (Node T.Denot)) → Fml
LendsNamed T name_of name n s r = LendsIf (vec.the_row (node.the_row T) global.the_row ghosts) (node.the_row T) s r (with_item s.now (nth_place (is_named name_of name) n s.now.items)) s.now
