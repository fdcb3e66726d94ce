-- Each field agrees with itself.
use Rattle.std.proofs.Common.{ℕ, Bool, true, false, List, find, bytes_eq, if◌then◌else◌, Option, None, Some, refl, inl}
use Rattle.std.specs.Option.{option_map}
use Rattle.graphql_names.specs.Placed.{Placed, Text}
use Rattle.tree_literals.specs.ValueTree.{ItemTrees, EntryTrees, NullTree, EnumTree, VariableTree, StringTree, FloatTree, IntTree, BooleanTree, ListTree, ObjectTree, no_items, item_then, no_entries, entry_then}
use Rattle.rule_definitions.specs.GivenValues.{entry_list}
use Rattle.rule_definitions.specs.Judged.{Judged}
use Rattle.rule_document_definitions.specs.Selected.{StandingField}
use Rattle.rule_document_definitions.specs.SameValues.{Plain, under_key, plain_given, SameValue, same_null, same_enum, same_variable, same_string, same_float, same_int, same_boolean, same_list, same_object, SameItems, no_more, both_then, SameGiven, neither, both}
use Rattle.rule_document_definitions.specs.Merging.{SameShape, SameNameAndArguments}

-- a key and its value
abbrev Entry : Type 0
Entry = Text (Unit {0}) × Placed (Unit {0}) Plain

mutual
  -- a value is the same as itself
  value_refl : (v : Plain) → SameValue v v
  value_refl NullTree = same_null
  value_refl (EnumTree n) = same_enum n
  value_refl (VariableTree n) = same_variable n
  value_refl (StringTree s) = same_string s
  value_refl (FloatTree s) = same_float s
  value_refl (IntTree s) = same_int s
  value_refl (BooleanTree b) = same_boolean b
  value_refl (ListTree ts) = same_list ts ts (items_refl ts)
  value_refl (ObjectTree es) = same_object es es (entries_refl es)

  -- so are items
  items_refl : (ts : ItemTrees (Unit {0})) → SameItems ts ts
  items_refl no_items = no_more
  items_refl (item_then p t ts) = both_then t t ts ts (value_refl t) (items_refl ts)

  -- so is what stands under a key
  entries_refl : (es : EntryTrees (Unit {0})) (key : List ℕ) → SameGiven (under_key key es) (under_key key es)
  entries_refl no_entries key = neither
  entries_refl (entry_then n p t ts) key = by (bytes_eq n.it key) (value_refl t) (entries_refl ts key)
    where
      by : (b : Bool) → SameValue t t → SameGiven (under_key key ts) (under_key key ts)
          → SameGiven (option_map (λ v. v.it) (option_map (λ (e : Entry). e.1) (if b then Some (n, record { it = t; place = p }) else find (λ (e : Entry). bytes_eq e.0.it key) (entry_list ts))))
          (option_map (λ v. v.it) (option_map (λ (e : Entry). e.1) (if b then Some (n, record { it = t; place = p }) else find (λ (e : Entry). bytes_eq e.0.it key) (entry_list ts))))
      by true here rest = both t t here
      by false here rest = rest

-- what is given is the same as itself
given_refl : (o : Option Plain) → SameGiven o o
given_refl None = neither
given_refl (Some v) = both v v (value_refl v)

module _ {P : Type 0} where
  -- in shape
  pub shape_refl : (s : Judged) (f : StandingField P) → SameShape s f f
  shape_refl s f = (refl, inl refl)

  -- in name and arguments
  pub selection_refl : (f : StandingField P) → SameNameAndArguments f f
  selection_refl f = (refl, λ n. given_refl (plain_given n f.head.arguments))
