-- Private: leads to `SameValue` of the definitions of the rules of documents. Boolean tests for whether two values are the same.
use Rattle.std.specs.Prelude.{◌≡◌, ℕ, Bool, true, false, ◌&&◌, ◌||◌, is_none, List, [], map, Option, None, Some, bytes_eq, if◌then◌else◌}
use mathlib.Core.Bool.{beq}
use Rattle.std.specs.List.{list_any}
use Rattle.std.specs.Option.{option_map, option_map_or}
use Rattle.indexmap.specs.IndexMap.{IndexMap, get_by}
use Rattle.indexmap.specs.IndexSet.{IndexSet, insert_key}
use Rattle.graphql_names.specs.NameValue.{NameValue}
use Rattle.graphql_names.specs.Node.{content}
use Rattle.graphql_names.specs.declared.node.Node.{Node}
use Rattle.graphql_names.specs.Placed.{Place, node_tree}
use Rattle.tree_literals.specs.ValueTree.{ValueTree, ItemTrees, EntryTrees, NullTree, EnumTree, VariableTree, StringTree, FloatTree, IntTree, BooleanTree, ListTree, ObjectTree, no_items, item_then, no_entries, entry_then, value_tree, item_trees, entry_trees, unplaced_value, unplaced_items, unplaced_entries}
use Rattle.tree_literals.specs.declared.value.Value.{Value}
use Rattle.tree_directives.specs.DirectiveTree.{Arguments, argument_tree}
use Rattle.tree_directives.specs.declared.directive.Argument.{Argument}

-- values, items and entries without places
abbrev pub Plain : Type 0
Plain = ValueTree (Unit {0})

abbrev pub PlainItems : Type 0
PlainItems = ItemTrees (Unit {0})

abbrev pub PlainEntries : Type 0
PlainEntries = EntryTrees (Unit {0})

abbrev pub plain : Value → Plain
plain v = unplaced_value (value_tree v)

abbrev pub plain_items : List (Node Value) → PlainItems
plain_items vs = unplaced_items (item_trees value_tree vs)

abbrev pub plain_entries : List (NameValue × Node Value) → PlainEntries
plain_entries es = unplaced_entries (entry_trees value_tree es)

-- the texts of the names in a set
abbrev pub noted_names : {S : Type 0} → IndexSet NameValue S → List (List ℕ)
noted_names names = map (λ k. k.text) names.keys

-- the value of the first entry with this key
abbrev pub first_under : List ℕ → PlainEntries → Option Plain
first_under n no_entries = None
first_under n (entry_then m p v es) = if bytes_eq m.it n then Some v else first_under n es

-- the value that a map has under a name, without places
abbrev pub value_under : {S : Type 0} → NameValue → IndexMap NameValue (Node Value) S → Option Plain
value_under n firsts = option_map (λ v. plain (content v)) (get_by (λ k. bytes_eq n.text k.text) firsts)

-- for each name, the map has the value of the first entry with that key, or nothing if no entry has it
abbrev pub AreFirsts : {S : Type 0} → IndexMap NameValue (Node Value) S → PlainEntries → Type 0
AreFirsts firsts es = (n : NameValue) → value_under n firsts ≡ first_under n.text es

-- the first key that is not among the names
abbrev pub unseen_key : List (List ℕ) → PlainEntries → Option (List ℕ)
unseen_key seen no_entries = None
unseen_key seen (entry_then n p v es) = if list_any (bytes_eq n.it) seen then unseen_key seen es else Some n.it

-- whether two values that contain no other values are the same; false for lists and objects
abbrev pub same_leaf : Plain → Plain → Bool
same_leaf NullTree NullTree = true
same_leaf (EnumTree n) (EnumTree m) = bytes_eq n.it m.it
same_leaf (VariableTree n) (VariableTree m) = bytes_eq n.it m.it
same_leaf (StringTree s) (StringTree t) = bytes_eq s t
same_leaf (FloatTree s) (FloatTree t) = bytes_eq s t
same_leaf (IntTree s) (IntTree t) = bytes_eq s t
same_leaf (BooleanTree b) (BooleanTree c) = beq b c
same_leaf _ _ = false

abbrev mutual
  pub same : Plain → Plain → Bool
  same (ListTree ts) (ListTree us) = same_items ts us
  same (ObjectTree es) (ObjectTree fs) = is_none (differing_key [] es fs)
  same v w = same_leaf v w

  -- whether two lists have the same length and the same values, item by item
  pub same_items : PlainItems → PlainItems → Bool
  same_items no_items no_items = true
  same_items (item_then p v ts) (item_then q w us) = same v w && same_items ts us
  same_items _ _ = false

  -- the first key, ignoring those already seen, whose first value is missing in one object or differs between the two
  pub differing_key : List (List ℕ) → PlainEntries → PlainEntries → Option (List ℕ)
  differing_key seen no_entries fs = unseen_key seen fs
  differing_key seen (entry_then n p v es) fs =
      if list_any (bytes_eq n.it) seen || option_map_or (same v) (first_under n.it fs) false
      then differing_key (insert_key bytes_eq seen n.it) es fs
      else Some n.it

-- ---- arguments, as entries

-- the text of a key, and the value without places
abbrev pub entry_pair : NameValue × Node Value → List ℕ × Plain
entry_pair e = (e.0.text, plain (content e.1))

-- the text of an argument's name, and the value without places
abbrev pub argument_pair : Node Argument → List ℕ × Plain
argument_pair a = ((content a).name.text, plain (content (content a).value))

abbrev pub arguments_of : List (Node Argument) → Arguments Place
arguments_of given = map (node_tree argument_tree) given
