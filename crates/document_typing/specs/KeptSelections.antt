-- Which selections have a meaning, and what is kept of a selection set (GraphQL, October 2021, sections 5.3.1, 5.3.3 and 5.5.1.2).
use Rattle.std.specs.Prelude.{◌≡◌, ℕ, Bool, not, ◌&&◌, ◌||◌, List, [], ◌∷◌, ◌++◌, None, Some, if◌then◌else◌}
use Rattle.std.specs.Option.{option_map_or}
use Rattle.tree_operations.specs.SelectionTree.{SelectionTree, FieldTree, SpreadTree, InlineTree, SelectionTrees, no_selections, selection_then}
use Rattle.tree_operations.specs.OperationWritable.{has_selection}
use Rattle.document_typed_selections.specs.TypedTree.{TypedSet}
use Rattle.document_typing.specs.MeantTree.{MeantSelection, MeantField, MeantSpread, MeantInline, set_on, meant_of_set}
use Rattle.document_typing.specs.Meanings.{Meanings, inner_type}

-- whether the type of that name is a scalar or an enum, so that its values have no fields
abbrev pub is_leaf : Meanings → List ℕ → Bool
is_leaf m t = m.is_scalar t || m.is_enum t

-- whether a field of that inner type may have these selections: on a leaf there must be none
abbrev pub may_select : {P : Type 0} → Meanings → List ℕ → SelectionTrees P → Bool
may_select m t ts = not (has_selection ts && is_leaf m t)

abbrev mutual
  -- what is kept of a selection in a set on the type t: the selection with its meaning, or nothing if it has no meaning
  pub kept : {P : Type 0} → Meanings → SelectionTree P → List ℕ → List (MeantSelection P)
  kept m (FieldTree p h ts) t = option_map_or
      (λ d. if may_select m (inner_type d) ts then MeantField p d h (set_on (inner_type d) (kept_all m ts (inner_type d))) ∷ [] else [])
      (m.field t h.name.it) []
  kept m (SpreadTree p n ds) t = MeantSpread p n ds ∷ []
  kept m (InlineTree p None ds ts) t = MeantInline p None ds (set_on t (kept_all m ts t)) ∷ []
  kept m (InlineTree p (Some c) ds ts) t = if m.has_type c.it then MeantInline p (Some c) ds (set_on c.it (kept_all m ts c.it)) ∷ [] else []

  -- the selections of a set that have a meaning
  pub kept_all : {P : Type 0} → Meanings → SelectionTrees P → List ℕ → List (MeantSelection P)
  kept_all m no_selections t = []
  kept_all m (selection_then s ss) t = kept m s t ++ kept_all m ss t

-- the typed set is on the type t and means what is kept of these selections
abbrev pub IsKeptSet : {P : Type 0} → Meanings → List ℕ → SelectionTrees P → TypedSet P → Type 0
IsKeptSet m t ts set = meant_of_set set ≡ set_on t (kept_all m ts t)
