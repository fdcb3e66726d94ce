-- The sameness of values, of what is given, and of arguments is an equivalence.
use Rattle.std.proofs.Common.{ℕ, Bool, true, false, List, find, bytes_eq, Option, None, Some, if◌then◌else◌}
use Rattle.std.specs.Option.{option_map}
use Rattle.graphql_names.specs.Placed.{Placed, Text}
use Rattle.tree_literals.specs.ValueTree.{NullTree, EnumTree, VariableTree, StringTree, FloatTree, IntTree, BooleanTree, ListTree, ObjectTree, ItemTrees, no_items, item_then, EntryTrees, no_entries, entry_then}
use Rattle.tree_directives.specs.DirectiveTree.{Arguments}
use Rattle.rule_definitions.specs.GivenValues.{entry_list}
use Rattle.rule_document_definitions.specs.SameValues.{Plain, SameValue, same_null, same_enum, same_variable, same_string, same_float, same_int, same_boolean, same_list, same_object, SameItems, no_more, both_then, SameGiven, neither, both, SameArguments, under_key, plain_given}

-- ---- values

mutual
  pub value_sym : {a b : Plain} → SameValue a b → SameValue b a
  value_sym same_null = same_null
  value_sym (same_enum a) = same_enum a
  value_sym (same_variable a) = same_variable a
  value_sym (same_string a) = same_string a
  value_sym (same_float a) = same_float a
  value_sym (same_int a) = same_int a
  value_sym (same_boolean a) = same_boolean a
  value_sym (same_list a b h) = same_list b a (items_sym h)
  value_sym (same_object a b h) = same_object b a (λ key. given_sym (h key))

  pub items_sym : {a b : ItemTrees (Unit {0})} → SameItems a b → SameItems b a
  items_sym no_more = no_more
  items_sym (both_then v w vs ws h i) = both_then w v ws vs (value_sym h) (items_sym i)

  pub given_sym : {a b : Option Plain} → SameGiven a b → SameGiven b a
  given_sym neither = neither
  given_sym (both v w h) = both w v (value_sym h)

mutual
  pub value_trans : {a b c : Plain} → SameValue a b → SameValue b c → SameValue a c
  value_trans same_null same_null = same_null
  value_trans (same_enum a) (same_enum a') = same_enum a
  value_trans (same_variable a) (same_variable a') = same_variable a
  value_trans (same_string a) (same_string a') = same_string a
  value_trans (same_float a) (same_float a') = same_float a
  value_trans (same_int a) (same_int a') = same_int a
  value_trans (same_boolean a) (same_boolean a') = same_boolean a
  value_trans (same_list a b h) (same_list b' c i) = same_list a c (items_trans h i)
  value_trans (same_object a b h) (same_object b' c i) = same_object a c (λ key. given_trans (h key) (i key))

  pub items_trans : {a b c : ItemTrees (Unit {0})} → SameItems a b → SameItems b c → SameItems a c
  items_trans no_more no_more = no_more
  items_trans (both_then v w vs ws h i) (both_then w' x ws' xs k l) = both_then v x vs xs (value_trans h k) (items_trans i l)

  pub given_trans : {a b c : Option Plain} → SameGiven a b → SameGiven b c → SameGiven a c
  given_trans neither neither = neither
  given_trans (both v w h) (both w' x i) = both v x (value_trans h i)

abbrev Entry : Type 0
Entry = Text (Unit {0}) × Placed (Unit {0}) Plain

abbrev value_of : Option Entry → Option Plain
value_of o = option_map (λ (v : Placed (Unit {0}) Plain). v.it) (option_map (λ (e : Entry). e.1) o)

abbrev entry_of : List ℕ → EntryTrees (Unit {0}) → Option Entry
entry_of k es = find (λ (e : Entry). bytes_eq e.0.it k) (entry_list es)

-- what stands first under a key is the same as itself, where its value is
under_refl : (b : Bool) (k : List ℕ) (e : Entry) (es : EntryTrees (Unit {0})) → SameValue e.1.it e.1.it → SameGiven (value_of (entry_of k es)) (value_of (entry_of k es))
    → SameGiven (value_of (if b then Some e else entry_of k es)) (value_of (if b then Some e else entry_of k es))
under_refl true k e es h rest = both e.1.it e.1.it h
under_refl false k e es h rest = rest

mutual
  pub value_refl : (v : Plain) → SameValue v v
  value_refl NullTree = same_null
  value_refl (EnumTree n) = same_enum n
  value_refl (VariableTree n) = same_variable n
  value_refl (StringTree s) = same_string s
  value_refl (FloatTree s) = same_float s
  value_refl (IntTree s) = same_int s
  value_refl (BooleanTree b) = same_boolean b
  value_refl (ListTree ts) = same_list ts ts (items_refl ts)
  value_refl (ObjectTree es) = same_object es es (entries_refl es)

  pub items_refl : (ts : ItemTrees (Unit {0})) → SameItems ts ts
  items_refl no_items = no_more
  items_refl (item_then p v ts) = both_then v v ts ts (value_refl v) (items_refl ts)

  entries_refl : (es : EntryTrees (Unit {0})) → (k : List ℕ) → SameGiven (under_key k es) (under_key k es)
  entries_refl no_entries k = neither
  entries_refl (entry_then n p v es) k = under_refl (bytes_eq n.it k) k (n, record { it = v; place = p }) es (value_refl v) (entries_refl es k)

pub given_refl : (o : Option Plain) → SameGiven o o
given_refl None = neither
given_refl (Some v) = both v v (value_refl v)

-- ---- arguments

module _ {P : Type 0} where
  pub arguments_refl : (a : Arguments P) → SameArguments a a
  arguments_refl a n = given_refl (plain_given n a)

  pub arguments_sym : (a b : Arguments P) → SameArguments a b → SameArguments b a
  arguments_sym a b h n = given_sym (h n)

  pub arguments_trans : (a b c : Arguments P) → SameArguments a b → SameArguments b c → SameArguments a c
  arguments_trans a b c h i n = given_trans (h n) (i n)
