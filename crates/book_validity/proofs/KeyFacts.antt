-- The keys of the objects in a value differ exactly when that rule is not broken.
use Rattle.std.proofs.Common.{ℕ, List, refl, inl, inr}
use Rattle.graphql_names.specs.Placed.{Placed, Text}
use Rattle.tree_literals.specs.ValueTree.{ValueTree, ItemTrees, EntryTrees, NullTree, EnumTree, VariableTree, StringTree, FloatTree, IntTree, BooleanTree, ListTree, ObjectTree, no_items, item_then, no_entries, entry_then}
use Rattle.rule_definitions.specs.GivenValues.{entry_list}
use Rattle.rule_definitions.specs.Values.{UniqueInputValueIn, UniqueInputValueInItems, UniqueInputValueInEntries}
use Rattle.book_validity.specs.Values.{HasUniqueKeys, HaveItemsUniqueKeys, HaveEntriesUniqueKeys}
use Rattle.book_validity.proofs.Naming.{Quiet, unique_from, unique_never}

abbrev U : Type 0
U = Unit {0}

abbrev key : Text U × Placed U (ValueTree U) → List ℕ
key e = e.0.it

mutual
  pub keys_quiet : (v : ValueTree U) → HasUniqueKeys v → Quiet (UniqueInputValueIn v)
  keys_quiet (ListTree ts) h fault b = items_quiet ts h fault b
  keys_quiet (ObjectTree es) h fault (inl r) = unique_never key (entry_list es) h.0 r
  keys_quiet (ObjectTree es) h fault (inr b) = entries_quiet es h.1 fault b
  keys_quiet NullTree h fault b = b
  keys_quiet (EnumTree n) h fault b = b
  keys_quiet (VariableTree n) h fault b = b
  keys_quiet (StringTree n) h fault b = b
  keys_quiet (FloatTree n) h fault b = b
  keys_quiet (IntTree n) h fault b = b
  keys_quiet (BooleanTree n) h fault b = b

  items_quiet : (ts : ItemTrees U) → HaveItemsUniqueKeys ts → Quiet (UniqueInputValueInItems ts)
  items_quiet no_items h fault b = b
  items_quiet (item_then p v ts) h fault (inl b) = keys_quiet v h.0 fault b
  items_quiet (item_then p v ts) h fault (inr b) = items_quiet ts h.1 fault b

  entries_quiet : (es : EntryTrees U) → HaveEntriesUniqueKeys es → Quiet (UniqueInputValueInEntries es)
  entries_quiet no_entries h fault b = b
  entries_quiet (entry_then k p v es) h fault (inl b) = keys_quiet v h.0 fault b
  entries_quiet (entry_then k p v es) h fault (inr b) = entries_quiet es h.1 fault b

mutual
  pub quiet_keys : (v : ValueTree U) → Quiet (UniqueInputValueIn v) → HasUniqueKeys v
  quiet_keys (ListTree ts) q = quiet_items ts q
  quiet_keys (ObjectTree es) q = (
    unique_from key (entry_list es) (λ r. q _ (inl (r.0, (r.1.0, (r.1.1.0, (r.1.1.1.0, (r.1.1.1.1.0, (r.1.1.1.1.1.0, (r.1.1.1.1.1.1.0, (r.1.1.1.1.1.1.1.0, (r.1.1.1.1.1.1.1.1.0, refl))))))))))),
    quiet_entries es (λ fault b. q fault (inr b)),
  )
  quiet_keys NullTree q = tt
  quiet_keys (EnumTree n) q = tt
  quiet_keys (VariableTree n) q = tt
  quiet_keys (StringTree n) q = tt
  quiet_keys (FloatTree n) q = tt
  quiet_keys (IntTree n) q = tt
  quiet_keys (BooleanTree n) q = tt

  quiet_items : (ts : ItemTrees U) → Quiet (UniqueInputValueInItems ts) → HaveItemsUniqueKeys ts
  quiet_items no_items q = tt
  quiet_items (item_then p v ts) q = (quiet_keys v (λ fault b. q fault (inl b)), quiet_items ts (λ fault b. q fault (inr b)))

  quiet_entries : (es : EntryTrees U) → Quiet (UniqueInputValueInEntries es) → HaveEntriesUniqueKeys es
  quiet_entries no_entries q = tt
  quiet_entries (entry_then k p v es) q = (quiet_keys v (λ fault b. q fault (inl b)), quiet_entries es (λ fault b. q fault (inr b)))
