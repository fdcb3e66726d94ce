-- Types and values that the grammar can write (GraphQL, October 2021, appendix B): what it requires of a tree apart from
-- its form. Names and numbers are well formed by their types.
use Rattle.std.specs.Prelude.{ℕ, Bool, true, false, not, ◌&&◌, List, codes, nat_eq, Option, None, Some}
use Rattle.std.specs.Cmp.Lexicographic.{pointwise}
use Rattle.graphql_names.specs.Placed.{Placed}
use Rattle.tree_literals.specs.TypeTree.{TypeTree, NamedTree, NonNullNamedTree, ListTree as ListTypeTree, NonNullListTree}
use Rattle.tree_literals.specs.ValueTree.{ValueTree, NullTree, EnumTree, VariableTree, StringTree, FloatTree, IntTree, BooleanTree, ListTree, ObjectTree, ItemTrees, no_items, item_then, EntryTrees, no_entries, entry_then}

abbrev pub is_text : List ℕ → List ℕ → Bool
is_text wanted text = pointwise nat_eq text wanted

-- the grammar requires nothing more of a reference to a type
abbrev pub type_writable : {P : Type 0} → TypeTree P → Bool
type_writable (NamedTree n) = true
type_writable (NonNullNamedTree n) = true
type_writable (ListTypeTree t) = type_writable t
type_writable (NonNullListTree t) = type_writable t

-- no enum value is `true`, `false` or `null` (section 2.9.6)
abbrev pub can_be_enum : List ℕ → Bool
can_be_enum text = not (is_text (codes "true") text) && not (is_text (codes "false") text) && not (is_text (codes "null") text)

-- Below, `const` says that no variable is allowed.
abbrev mutual
  pub value_writable : {P : Type 0} → Bool → ValueTree P → Bool
  value_writable const NullTree = true
  value_writable const (EnumTree n) = can_be_enum n.it
  value_writable const (VariableTree n) = not const
  value_writable const (StringTree s) = true
  value_writable const (FloatTree s) = true
  value_writable const (IntTree s) = true
  value_writable const (BooleanTree b) = true
  value_writable const (ListTree ts) = items_writable const ts
  value_writable const (ObjectTree ts) = entries_writable const ts

  pub items_writable : {P : Type 0} → Bool → ItemTrees P → Bool
  items_writable const no_items = true
  items_writable const (item_then p t ts) = value_writable const t && items_writable const ts

  pub entries_writable : {P : Type 0} → Bool → EntryTrees P → Bool
  entries_writable const no_entries = true
  entries_writable const (entry_then n p t ts) = value_writable const t && entries_writable const ts

-- a default value can be written, and has no variable
abbrev pub default_writable : {P : Type 0} → Option (Placed P (ValueTree P)) → Bool
default_writable None = true
default_writable (Some v) = value_writable true v.it
