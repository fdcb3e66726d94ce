-- Questions about values (GraphQL, October 2021, section 2.9).
use Rattle.std.specs.Prelude.{ℕ, Bool, true, false, List, Option, None, Some, codes}
use Rattle.graphql_names.specs.Placed.{Text}
use Rattle.tree_literals.specs.ValueTree.{ValueTree, NullTree, EnumTree, VariableTree, StringTree, FloatTree, IntTree, BooleanTree, ListTree, ObjectTree, ItemTrees, EntryTrees}

module _ {P : Type 0} where
  -- whether the value is the literal null
  abbrev pub is_null_value : ValueTree P → Bool
  is_null_value NullTree = true
  is_null_value _ = false

  -- the name of an enum value
  abbrev pub enum_name : ValueTree P → Option (Text P)
  enum_name (EnumTree n) = Some n
  enum_name _ = None

  -- the name of a variable
  abbrev pub variable_name : ValueTree P → Option (Text P)
  variable_name (VariableTree n) = Some n
  variable_name _ = None

  -- the text that a string stands for
  abbrev pub string_text : ValueTree P → Option (List ℕ)
  string_text (StringTree s) = Some s
  string_text _ = None

  -- the digits of an integer, as they are written
  abbrev pub integer_text : ValueTree P → Option (List ℕ)
  integer_text (IntTree s) = Some s
  integer_text _ = None

  -- the truth value of a boolean
  abbrev pub boolean_value : ValueTree P → Option Bool
  boolean_value (BooleanTree b) = Some b
  boolean_value _ = None

  -- the items of a list
  abbrev pub list_items : ValueTree P → Option (ItemTrees P)
  list_items (ListTree ts) = Some ts
  list_items _ = None

  -- the fields of an input object
  abbrev pub object_entries : ValueTree P → Option (EntryTrees P)
  object_entries (ObjectTree ts) = Some ts
  object_entries _ = None

  -- the kind of a value in words
  abbrev pub value_description : ValueTree P → List ℕ
  value_description NullTree = codes "null"
  value_description (EnumTree n) = codes "an enum"
  value_description (VariableTree n) = codes "a variable"
  value_description (StringTree s) = codes "a string"
  value_description (FloatTree s) = codes "a float"
  value_description (IntTree s) = codes "an integer"
  value_description (BooleanTree b) = codes "a boolean"
  value_description (ListTree ts) = codes "a list"
  value_description (ObjectTree ts) = codes "an input object"
