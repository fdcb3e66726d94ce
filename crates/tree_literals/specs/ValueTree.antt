-- Literal values and variables (GraphQL, October 2021, section 2.9).
use Rattle.std.specs.Prelude.{ℕ, Bool, List, [], ◌∷◌}
use Rattle.std.specs.String.{string_bytes}
use Rattle.graphql_names.specs.Node.{content, place}
use Rattle.graphql_names.specs.declared.name.Name.{Name}
use Rattle.graphql_names.specs.declared.node.Node.{Node}
use Rattle.graphql_names.specs.Placed.{Place, Text, name_tree, unplaced_text}
use Rattle.tree_literals.specs.declared.value.Value.{Value}
use Rattle.tree_literals.specs.declared.value.Value.TheOpen.{Value-F, Null, Enum, Variable, String, Float, Int, Boolean, List as ListOf, Object}
use Rattle.tree_literals.specs.declared.value.Value.TheFolds.{fold-Value}

-- a value; a string is the text that it stands for, a number is the text as it is written
mutual
  pub data ValueTree (P : Type 0) : Type 0 where
    NullTree : ValueTree P
    EnumTree : Text P → ValueTree P
    VariableTree : Text P → ValueTree P
    StringTree : List ℕ → ValueTree P
    FloatTree : List ℕ → ValueTree P
    IntTree : List ℕ → ValueTree P
    BooleanTree : Bool → ValueTree P
    ListTree : ItemTrees P → ValueTree P
    ObjectTree : EntryTrees P → ValueTree P

  -- the items of a list, each with its place
  pub data ItemTrees (P : Type 0) : Type 0 where
    no_items : ItemTrees P
    item_then : P → ValueTree P → ItemTrees P → ItemTrees P

  -- the fields of an object: name, place of the value, value
  pub data EntryTrees (P : Type 0) : Type 0 where
    no_entries : EntryTrees P
    entry_then : Text P → P → ValueTree P → EntryTrees P → EntryTrees P

abbrev pub item_trees : {A : Type 0} → (A → ValueTree Place) → List (Node A) → ItemTrees Place
item_trees f [] = no_items
item_trees f (n ∷ ns) = item_then (place n) (f (content n)) (item_trees f ns)

abbrev pub entry_trees : {A : Type 0} → (A → ValueTree Place) → List (Name × Node A) → EntryTrees Place
entry_trees f [] = no_entries
entry_trees f (e ∷ es) = entry_then (name_tree e.0) (place e.1) (f (content e.1)) (entry_trees f es)

abbrev pub value_tree_step : Value-F (ValueTree Place) → ValueTree Place
value_tree_step Null = NullTree
value_tree_step (Enum n) = EnumTree (name_tree n)
value_tree_step (Variable n) = VariableTree (name_tree n)
value_tree_step (String s) = StringTree (string_bytes s)
value_tree_step (Float n) = FloatTree n.text
value_tree_step (Int n) = IntTree n.text
value_tree_step (Boolean b) = BooleanTree b
value_tree_step (ListOf v) = ListTree (item_trees (λ t. t) v.items)
value_tree_step (Object v) = ObjectTree (entry_trees (λ t. t) v.items)

-- the tree of a value
abbrev pub value_tree : Value → ValueTree Place
value_tree = fold-Value (ValueTree Place) value_tree_step

abbrev mutual
  pub unplaced_value : {P : Type 0} → ValueTree P → ValueTree (Unit {0})
  unplaced_value NullTree = NullTree
  unplaced_value (EnumTree n) = EnumTree (unplaced_text n)
  unplaced_value (VariableTree n) = VariableTree (unplaced_text n)
  unplaced_value (StringTree s) = StringTree s
  unplaced_value (FloatTree s) = FloatTree s
  unplaced_value (IntTree s) = IntTree s
  unplaced_value (BooleanTree b) = BooleanTree b
  unplaced_value (ListTree ts) = ListTree (unplaced_items ts)
  unplaced_value (ObjectTree ts) = ObjectTree (unplaced_entries ts)

  pub unplaced_items : {P : Type 0} → ItemTrees P → ItemTrees (Unit {0})
  unplaced_items no_items = no_items
  unplaced_items (item_then p t ts) = item_then tt (unplaced_value t) (unplaced_items ts)

  pub unplaced_entries : {P : Type 0} → EntryTrees P → EntryTrees (Unit {0})
  unplaced_entries no_entries = no_entries
  unplaced_entries (entry_then n p t ts) = entry_then (unplaced_text n) tt (unplaced_value t) (unplaced_entries ts)
