-- Private: leads to `UniqueInputValueIn`. The faults of the keys in a value as a list, in the order in which they are told.
use Rattle.std.specs.Prelude.{List, [], ◌∷◌, ◌++◌, Option, find, bytes_eq}
use Rattle.std.specs.Option.{option_map_or}
use Rattle.graphql_names.specs.Placed.{Place, Text}
use Rattle.tree_literals.specs.ValueTree.{ValueTree, ItemTrees, EntryTrees, ListTree, ObjectTree, no_items, item_then, no_entries, entry_then}
use Rattle.fault_data.specs.in_rule_definitions.Diagnostics.{UniqueInputValue}
use Rattle.fault_data.specs.in_rule_definitions.Faults.{wrong}
use Rattle.fault_data.specs.in_rule_definitions.PlacedFaults.{PlacedFault}

-- the first key that has the text of this one
abbrev pub first_key : List (Text Place) → Text Place → Option (Text Place)
first_key before n = find (λ k. bytes_eq k.it n.it) before

-- the fault of a key, given the keys before it
abbrev pub repeated_key : List (Text Place) → Text Place → List PlacedFault
repeated_key before n = option_map_or (λ k. wrong n.place (UniqueInputValue n.it k.place n.place) ∷ []) (first_key before n) []

-- the fault of a key, given the place of the first key of its name before it, if there is one
abbrev pub key_again : Option Place → Text Place → List PlacedFault
key_again first n = option_map_or (λ p. wrong n.place (UniqueInputValue n.it p n.place) ∷ []) first []

abbrev pub repeated_keys : List (Text Place) → EntryTrees Place → List PlacedFault
repeated_keys before no_entries = []
repeated_keys before (entry_then n p v es) = repeated_key before n ++ repeated_keys (before ++ n ∷ []) es

abbrev mutual
  pub key_faults : ValueTree Place → List PlacedFault
  key_faults (ListTree ts) = key_faults_items ts
  key_faults (ObjectTree es) = repeated_keys [] es ++ key_faults_entries es
  key_faults v = []

  pub key_faults_items : ItemTrees Place → List PlacedFault
  key_faults_items no_items = []
  key_faults_items (item_then p v ts) = key_faults v ++ key_faults_items ts

  pub key_faults_entries : EntryTrees Place → List PlacedFault
  key_faults_entries no_entries = []
  key_faults_entries (entry_then n p v es) = key_faults v ++ key_faults_entries es

-- the faults of an object: those of its own keys, and those of its values
abbrev pub key_faults_object : EntryTrees Place → List PlacedFault
key_faults_object es = repeated_keys [] es ++ key_faults_entries es
