-- Keys that differ, by a test on the value: without places it answers the same, and where it passes no two keys are equal.
use Rattle.std.proofs.Common.{◌≡◌, ℕ, ◌<◌, zero, suc, arith, Bool, true, false, not, ◌&&◌, ◌||◌, List, [], ◌∷◌, bytes_eq, slice_get, refl, sym, ap, ◌∙◌, inl, inr, Some, true≢false}
use Rattle.std.proofs.lemmas.Bool.{and_parts}
use Rattle.std.proofs.lemmas.Option.{same_Some}
use Rattle.graphql_names.specs.Placed.{Placed, Text}
use Rattle.tree_literals.specs.ValueTree.{ValueTree, ItemTrees, EntryTrees, NullTree, EnumTree, VariableTree, StringTree, FloatTree, IntTree, BooleanTree, ListTree, ObjectTree, no_items, item_then, no_entries, entry_then, unplaced_value, unplaced_items, unplaced_entries}
use Rattle.rule_definitions.specs.in_components.Lists.{is_among}
use Rattle.rule_definitions.specs.GivenValues.{entry_list}
use Rattle.rule_definitions.specs.Faults.{FaultAt}
use Rattle.rule_definitions.specs.Values.{UniqueInputValueIn, UniqueInputValueInItems, UniqueInputValueInEntries}
use Rattle.rule_definitions.proofs.Lookups.{itself}

module _ {P : Type 0} where
  abbrev pub keys_of : EntryTrees P → List (List ℕ)
  keys_of no_entries = []
  keys_of (entry_then k p v es) = k.it ∷ keys_of es

  abbrev mutual
    pub keys_differ : ValueTree P → Bool
    keys_differ (ListTree ts) = items_differ ts
    keys_differ (ObjectTree es) = entries_differ es
    keys_differ _ = true

    pub items_differ : ItemTrees P → Bool
    items_differ no_items = true
    items_differ (item_then p v ts) = keys_differ v && items_differ ts

    pub entries_differ : EntryTrees P → Bool
    entries_differ no_entries = true
    entries_differ (entry_then k p v es) = not (is_among k.it (keys_of es)) && (keys_differ v && entries_differ es)

not_so : (b : Bool) → not b ≡ true → b ≡ true → ⊥
not_so true h e = true≢false (sym h)
not_so false h e = true≢false (sym e)

or_true : (b : Bool) → (b || true) ≡ true
or_true true = refl
or_true false = refl

module _ {P : Type 0} where
  keys_same : (es : EntryTrees P) → keys_of (unplaced_entries es) ≡ keys_of es
  keys_same no_entries = refl
  keys_same (entry_then k p v es) = ap (λ l. k.it ∷ l) (keys_same es)

  mutual
    pub differ_same : (v : ValueTree P) → keys_differ (unplaced_value v) ≡ keys_differ v
    differ_same NullTree = refl
    differ_same (EnumTree n) = refl
    differ_same (VariableTree n) = refl
    differ_same (StringTree t) = refl
    differ_same (FloatTree t) = refl
    differ_same (IntTree t) = refl
    differ_same (BooleanTree b) = refl
    differ_same (ListTree ts) = items_same ts
    differ_same (ObjectTree es) = entries_same es

    items_same : (ts : ItemTrees P) → items_differ (unplaced_items ts) ≡ items_differ ts
    items_same no_items = refl
    items_same (item_then p v ts) = λ i. differ_same v i && items_same ts i

    entries_same : (es : EntryTrees P) → entries_differ (unplaced_entries es) ≡ entries_differ es
    entries_same no_entries = refl
    entries_same (entry_then k p v es) = λ i. not (is_among k.it (keys_same es i)) && (differ_same v i && entries_same es i)

  -- a key stands among the keys
  is_key : (es : EntryTrees P) (j : ℕ) (e : Text P × Placed P (ValueTree P)) → slice_get (entry_list es) j ≡ Some e → is_among e.0.it (keys_of es) ≡ true
  is_key no_entries j e at = cc
  is_key (entry_then k p v es) zero e at =
      ap (λ (x : Text P × Placed P (ValueTree P)). is_among x.0.it (k.it ∷ keys_of es)) (sym (same_Some _ _ at)) ∙ ap (λ b. b || is_among k.it (keys_of es)) (itself k.it)
  is_key (entry_then k p v es) (suc j) e at = ap (λ b. bytes_eq e.0.it k.it || b) (is_key es j e at) ∙ or_true (bytes_eq e.0.it k.it)

  apart : (es : EntryTrees P) → entries_differ es ≡ true → (i j : ℕ) (a b : Text P × Placed P (ValueTree P)) → i < j → slice_get (entry_list es) i ≡ Some a → slice_get (entry_list es) j ≡ Some b → a.0.it ≡ b.0.it → ⊥
  apart no_entries d i j a b less first later same = cc
  apart (entry_then k p v es) d i zero a b less first later same = absurd (omega (arith, less))
  apart (entry_then k p v es) d zero (suc j) a b less first later same =
      not_so (is_among k.it (keys_of es)) (and_parts (not (is_among k.it (keys_of es))) (keys_differ v && entries_differ es) d).0
      (ap (λ n. is_among n (keys_of es)) (ap (λ (x : Text P × Placed P (ValueTree P)). x.0.it) (same_Some _ _ first) ∙ same) ∙ is_key es j b later)
  apart (entry_then k p v es) d (suc i) (suc j) a b less first later same =
      apart es (and_parts (keys_differ v) (entries_differ es) (and_parts (not (is_among k.it (keys_of es))) (keys_differ v && entries_differ es) d).1).1 i j a b (omega (arith, less)) first later same

  module _ {E : Type 0} (fault : FaultAt P E) where
    mutual
      pub no_equal : (v : ValueTree P) → keys_differ v ≡ true → UniqueInputValueIn v fault → ⊥
      no_equal NullTree d h = h
      no_equal (EnumTree n) d h = h
      no_equal (VariableTree n) d h = h
      no_equal (StringTree t) d h = h
      no_equal (FloatTree t) d h = h
      no_equal (IntTree t) d h = h
      no_equal (BooleanTree b) d h = h
      no_equal (ListTree ts) d h = none_equal ts d h
      no_equal (ObjectTree es) d (inl (j, (later, (at_j, (i, (first, (at_i, (same, (is_first, (less, told)))))))))) = apart es d i j first later less at_i at_j same
      no_equal (ObjectTree es) d (inr inside) = none_inside es d inside

      none_equal : (ts : ItemTrees P) → items_differ ts ≡ true → UniqueInputValueInItems ts fault → ⊥
      none_equal no_items d h = h
      none_equal (item_then p v ts) d (inl h) = no_equal v (and_parts (keys_differ v) (items_differ ts) d).0 h
      none_equal (item_then p v ts) d (inr h) = none_equal ts (and_parts (keys_differ v) (items_differ ts) d).1 h

      none_inside : (es : EntryTrees P) → entries_differ es ≡ true → UniqueInputValueInEntries es fault → ⊥
      none_inside no_entries d h = h
      none_inside (entry_then k p v es) d (inl h) = no_equal v (and_parts (keys_differ v) (entries_differ es) (and_parts (not (is_among k.it (keys_of es))) (keys_differ v && entries_differ es) d).1).0 h
      none_inside (entry_then k p v es) d (inr h) = none_inside es (and_parts (keys_differ v) (entries_differ es) (and_parts (not (is_among k.it (keys_of es))) (keys_differ v && entries_differ es) d).1).1 h
