-- When two values are the same in merging, wherever they are written (GraphQL, October 2021, section 5.3.2).
use Rattle.std.specs.Prelude.{ℕ, List, Option, None, Some, option_map}
use Rattle.tree_literals.specs.ValueTree.{ValueTree, ItemTrees, EntryTrees, NullTree, EnumTree, VariableTree, StringTree, FloatTree, IntTree, BooleanTree, ListTree, ObjectTree, no_items, item_then, unplaced_value}
use Rattle.tree_directives.specs.DirectiveTree.{Arguments}
use Rattle.tree_directives.specs.DirectiveQueries.{given_value}
use Rattle.rule_definitions.specs.GivenValues.{entry_named}

-- values without places
abbrev pub Plain : Type 0
Plain = ValueTree (Unit {0})

-- the value of the first entry of an object with the key
abbrev pub under_key : List ℕ → EntryTrees (Unit {0}) → Option Plain
under_key key es = option_map (λ v. v.it) (entry_named key es)

-- the value that is given for an argument, the first if there are several
abbrev pub plain_given : {P : Type 0} → List ℕ → Arguments P → Option Plain
plain_given n given = option_map (λ v. unplaced_value v.it) (given_value n given)

mutual
  -- numbers by their digits, strings by their value, objects by the first entry of each key
  pub data SameValue : Plain → Plain → Type 0 where
    same_null : SameValue NullTree NullTree
    same_enum : (a : _) → SameValue (EnumTree a) (EnumTree a)
    same_variable : (a : _) → SameValue (VariableTree a) (VariableTree a)
    same_string : (a : _) → SameValue (StringTree a) (StringTree a)
    same_float : (a : _) → SameValue (FloatTree a) (FloatTree a)
    same_int : (a : _) → SameValue (IntTree a) (IntTree a)
    same_boolean : (a : _) → SameValue (BooleanTree a) (BooleanTree a)
    same_list : (a b : ItemTrees (Unit {0})) → SameItems a b → SameValue (ListTree a) (ListTree b)
    same_object : (a b : EntryTrees (Unit {0})) → ((key : List ℕ) → SameGiven (under_key key a) (under_key key b)) → SameValue (ObjectTree a) (ObjectTree b)

  -- item by item, in lists of equal lengths
  pub data SameItems : ItemTrees (Unit {0}) → ItemTrees (Unit {0}) → Type 0 where
    no_more : SameItems no_items no_items
    both_then : (v w : Plain) (vs ws : ItemTrees (Unit {0})) → SameValue v w → SameItems vs ws → SameItems (item_then tt v vs) (item_then tt w ws)

  -- given with the same value on both sides, or on neither
  pub data SameGiven : Option Plain → Option Plain → Type 0 where
    neither : SameGiven None None
    both : (v w : Plain) → SameValue v w → SameGiven (Some v) (Some w)

-- for every name, the first arguments of that name have the same value, or neither list has one
abbrev pub SameArguments : {P : Type 0} → Arguments P → Arguments P → Type 0
SameArguments a b = (n : List ℕ) → SameGiven (plain_given n a) (plain_given n b)
