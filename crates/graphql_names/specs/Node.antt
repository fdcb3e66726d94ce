-- What contracts see of a `Node`: its content, its place, and what it holds after a borrow of its content ends.
use Rattle.std.specs.Prelude.{◌≡◌, Option, ◌⊎◌}
use Rattle.std.specs.Borrow.{MutBor, Fml, LendsIf, LendsSoOk}
use Rattle.std.specs.declared.result.Result.{Result}
use Rattle.std.specs.declared.alloc.AllocError.{AllocError}
use denote.RattleType.{RattleType}
use Rattle.graphql_names.specs.declared.span.SourceSpan.{SourceSpan}
use Rattle.graphql_names.specs.declared.node.Node.{Node}
use Rattle.graphql_names.specs.contracts.node.Node.{the_row}

module _ {A : Type 0} where
  -- what a node holds
  abbrev pub content : Node A → A
  content n = n.shared.value

  -- the place that a node was read from, if it was read
  abbrev pub place : Node A → Option SourceSpan
  place n = n.location

  -- the same node with another content
  abbrev pub with_content : Node A → A → Node A
  with_content n x = record n { shared = record n.shared { value = x } }

-- once the borrow r ends, the node holds the last value written through r, at its old place; if the answer is `None`,
-- the node is unchanged
abbrev pub LendsContent : (T : RattleType) → MutBor (Node T.Denot) → Option (MutBor T.Denot) → Fml
LendsContent T s r = LendsIf (the_row T) T s r (with_content s.now) s.now

-- y is x, or a copy of it
abbrev pub IsCopy : {A : Type 0} → (A → A → Type 0) → A → A → Type 0
IsCopy is_clone x y = (y ≡ x) ⊎ is_clone x y

-- once the borrow r ends, the node holds the last value written through r, at its old place; if the answer
-- is `Err`, the node holds its old content or a copy of it, at its old place
abbrev pub LendsCopy : (T : RattleType) → (T.Denot → T.Denot → Type 0) → MutBor (Node T.Denot)
    → Result (MutBor T.Denot) AllocError → Fml
LendsCopy T is_clone s r = LendsSoOk (the_row T) T s r
    (λ n w. (content n ≡ w) × (place n ≡ place s.now))
    (λ n. IsCopy is_clone (content s.now) (content n) × (place n ≡ place s.now))
