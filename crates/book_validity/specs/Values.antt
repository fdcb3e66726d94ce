-- Values (section 5.6). `Coercion` says which are of correct type (5.6.1, 5.6.2, 5.6.4 and 5.8.3).
use Rattle.tree_literals.specs.ValueTree.{ValueTree, ItemTrees, EntryTrees, ListTree, ObjectTree, no_items, item_then, no_entries, entry_then}
use Rattle.rule_definitions.specs.GivenValues.{entry_list}
use Rattle.book_validity.specs.Words.{AreUnique}

-- 5.6.3 Input Object Field Uniqueness: no two entries of an object have one key, at any depth of a value
abbrev mutual
  pub HasUniqueKeys : ValueTree (Unit {0}) → Type 0
  HasUniqueKeys (ListTree ts) = HaveItemsUniqueKeys ts
  HasUniqueKeys (ObjectTree es) = AreUnique (λ e. e.0.it) (entry_list es) × HaveEntriesUniqueKeys es
  HasUniqueKeys v = Unit {0}

  pub HaveItemsUniqueKeys : ItemTrees (Unit {0}) → Type 0
  HaveItemsUniqueKeys no_items = Unit {0}
  HaveItemsUniqueKeys (item_then p v ts) = HasUniqueKeys v × HaveItemsUniqueKeys ts

  pub HaveEntriesUniqueKeys : EntryTrees (Unit {0}) → Type 0
  HaveEntriesUniqueKeys no_entries = Unit {0}
  HaveEntriesUniqueKeys (entry_then k p v es) = HasUniqueKeys v × HaveEntriesUniqueKeys es
