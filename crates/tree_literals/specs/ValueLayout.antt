-- The texts of types and values (GraphQL, October 2021, sections 2.9 and 2.11).
use Rattle.std.specs.Prelude.{ℕ, Bool, true, false, List, [], ◌∷◌, codes, Option, None, Some}
use Rattle.tree_literals.specs.Joined.{joined, separated}
use Rattle.graphql_names.specs.Placed.{Placed}
use Rattle.tree_literals.specs.TypeTree.{TypeTree, NamedTree, NonNullNamedTree, ListTree, NonNullListTree}
use Rattle.tree_literals.specs.ValueTree as value
use Rattle.tree_literals.specs.ValueTree.{ValueTree, NullTree, EnumTree, VariableTree, StringTree, FloatTree, IntTree, BooleanTree, ObjectTree, ItemTrees, no_items, item_then, EntryTrees, no_entries, entry_then}
use Rattle.tree_literals.specs.StringLayout.{quoted_text}

abbrev pub type_text : {P : Type 0} → TypeTree P → List ℕ
type_text (NamedTree n) = n.it
type_text (NonNullNamedTree n) = joined (n.it ∷ codes "!" ∷ [])
type_text (ListTree t) = joined (codes "[" ∷ type_text t ∷ codes "]" ∷ [])
type_text (NonNullListTree t) = joined (codes "[" ∷ type_text t ∷ codes "]!" ∷ [])

abbrev pub boolean_text : Bool → List ℕ
boolean_text true = codes "true"
boolean_text false = codes "false"

-- [items]; [] without items
abbrev pub list_text : List (List ℕ) → List ℕ
list_text items = joined (codes "[" ∷ separated (codes ", ") items ∷ codes "]" ∷ [])

-- {fields}; {} without fields
abbrev pub object_text : List (List ℕ) → List ℕ
object_text fields = joined (codes "{" ∷ separated (codes ", ") fields ∷ codes "}" ∷ [])

-- name: value
abbrev pub named_value_text : List ℕ → List ℕ → List ℕ
named_value_text name text = joined (name ∷ codes ": " ∷ text ∷ [])

abbrev mutual
  pub value_text : {P : Type 0} → ValueTree P → List ℕ
  value_text NullTree = codes "null"
  value_text (EnumTree n) = n.it
  value_text (VariableTree n) = joined (codes "$" ∷ n.it ∷ [])
  value_text (StringTree s) = quoted_text s
  value_text (FloatTree s) = s
  value_text (IntTree s) = s
  value_text (BooleanTree b) = boolean_text b
  value_text (value.ListTree ts) = list_text (item_texts ts)
  value_text (ObjectTree ts) = object_text (entry_texts ts)

  pub item_texts : {P : Type 0} → ItemTrees P → List (List ℕ)
  item_texts no_items = []
  item_texts (item_then p t ts) = value_text t ∷ item_texts ts

  pub entry_texts : {P : Type 0} → EntryTrees P → List (List ℕ)
  entry_texts no_entries = []
  entry_texts (entry_then n p t ts) = named_value_text n.it (value_text t) ∷ entry_texts ts

-- a default value: = value
abbrev pub default_text : {P : Type 0} → Option (Placed P (ValueTree P)) → List ℕ
default_text None = joined []
default_text (Some v) = joined (codes " = " ∷ value_text v.it ∷ [])
