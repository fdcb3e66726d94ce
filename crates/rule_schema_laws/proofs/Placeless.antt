-- What stands for places says nothing of a value: it is taken where the value without places is.
use Rattle.std.proofs.Common.{◌≡◌, ℕ, Bool, true, false, List, [], ◌∷◌, find, bytes_eq, refl, sym, ap, ◌∙◌, inl, inr, Some, option_map, true≢false, if◌then◌else◌}
use Rattle.std.proofs.lemmas.Bool.{and_parts}
use Rattle.graphql_names.specs.Placed.{Placed, Text}
use Rattle.tree_literals.specs.TypeTree.{TypeTree}
use Rattle.tree_literals.specs.TypeQueries.{item_type_of}
use Rattle.tree_literals.specs.ValueTree.{ValueTree, ItemTrees, EntryTrees, NullTree, EnumTree, VariableTree, StringTree, FloatTree, IntTree, BooleanTree, ListTree, ObjectTree, no_items, item_then, no_entries, entry_then, unplaced_value, unplaced_items, unplaced_entries}
use Rattle.tree_literals.specs.ValueQueries.{is_null_value}
use Rattle.tree_literals.specs.ValueWritable.{value_writable, items_writable, entries_writable}
use Rattle.rule_definitions.specs.in_schema_types.Looks.{TypeLooks}
use Rattle.rule_definitions.specs.GivenValues.{entry_list, Variables, entry_named, is_absent_or_null}
use Rattle.rule_definitions.specs.Judged.{Judged}
use Rattle.rule_definitions.specs.Accepts.{IsDefined, AreItemsDefined, AreEntriesDefined, Takes, TakesItems, TakesEntries}

-- no variables
abbrev pub none : Variables (Unit {0})
none = []

-- a value without places is itself without places
mutual
  pub value_itself : (v : ValueTree (Unit {0})) → unplaced_value v ≡ v
  value_itself NullTree = refl
  value_itself (EnumTree n) = refl
  value_itself (VariableTree n) = refl
  value_itself (StringTree t) = refl
  value_itself (FloatTree t) = refl
  value_itself (IntTree t) = refl
  value_itself (BooleanTree b) = refl
  value_itself (ListTree ts) = ap ListTree (items_itself ts)
  value_itself (ObjectTree es) = ap ObjectTree (entries_itself es)

  items_itself : (ts : ItemTrees (Unit {0})) → unplaced_items ts ≡ ts
  items_itself no_items = refl
  items_itself (item_then p v ts) = λ i. item_then p (value_itself v i) (items_itself ts i)

  entries_itself : (es : EntryTrees (Unit {0})) → unplaced_entries es ≡ es
  entries_itself no_entries = refl
  entries_itself (entry_then n p v es) = λ i. entry_then n p (value_itself v i) (entries_itself es i)

module _ {P : Type 0} where
  pub null_same : (v : ValueTree P) → is_null_value (unplaced_value v) ≡ is_null_value v
  null_same NullTree = refl
  null_same (EnumTree n) = refl
  null_same (VariableTree n) = refl
  null_same (StringTree t) = refl
  null_same (FloatTree t) = refl
  null_same (IntTree t) = refl
  null_same (BooleanTree b) = refl
  null_same (ListTree ts) = refl
  null_same (ObjectTree es) = refl

  -- what an object has under a key
  absent_same : (m : List ℕ) (es : EntryTrees P) → is_absent_or_null (entry_named m (unplaced_entries es)) ≡ is_absent_or_null (entry_named m es)
  absent_same m no_entries = refl
  absent_same m (entry_then n p v es) = by (bytes_eq n.it m) (null_same v) (absent_same m es)
    where
      by : (b : Bool) → is_null_value (unplaced_value v) ≡ is_null_value v → is_absent_or_null (entry_named m (unplaced_entries es)) ≡ is_absent_or_null (entry_named m es)
          → is_absent_or_null (option_map (λ (e : Text (Unit {0}) × Placed (Unit {0}) (ValueTree (Unit {0}))). e.1) (if b then Some (record { it = n.it; place = tt }, record { it = unplaced_value v; place = tt }) else find (λ (e : Text (Unit {0}) × Placed (Unit {0}) (ValueTree (Unit {0}))). bytes_eq e.0.it m) (entry_list (unplaced_entries es))))
          ≡ is_absent_or_null (option_map (λ (e : Text P × Placed P (ValueTree P)). e.1) (if b then Some (n, record { it = v; place = p }) else find (λ (e : Text P × Placed P (ValueTree P)). bytes_eq e.0.it m) (entry_list es)))
      by true h rest = h
      by false h rest = rest

  module _ (variables : Variables P) where
    mutual
      -- where no variable is in a value, all that are in it are defined
      pub is_defined : (v : ValueTree P) → value_writable true (unplaced_value v) ≡ true → IsDefined variables v
      is_defined NullTree w = tt
      is_defined (EnumTree n) w = tt
      is_defined (VariableTree n) w = absurd (true≢false (sym w))
      is_defined (StringTree t) w = tt
      is_defined (FloatTree t) w = tt
      is_defined (IntTree t) w = tt
      is_defined (BooleanTree b) w = tt
      is_defined (ListTree ts) w = are_items_defined ts w
      is_defined (ObjectTree es) w = are_entries_defined es w

      are_items_defined : (ts : ItemTrees P) → items_writable true (unplaced_items ts) ≡ true → AreItemsDefined variables ts
      are_items_defined no_items w = tt
      are_items_defined (item_then p v ts) w = let (a, b) = and_parts (value_writable true (unplaced_value v)) (items_writable true (unplaced_items ts)) w in (is_defined v a, are_items_defined ts b)

      are_entries_defined : (es : EntryTrees P) → entries_writable true (unplaced_entries es) ≡ true → AreEntriesDefined variables es
      are_entries_defined no_entries w = tt
      are_entries_defined (entry_then n p v es) w = let (a, b) = and_parts (value_writable true (unplaced_value v)) (entries_writable true (unplaced_entries es)) w in (is_defined v a, are_entries_defined es b)

    module _ (s : Judged) where
      mutual
        -- what is taken without places and without variables is taken
        pub is_taken : (ty : TypeTree (Unit {0})) (t : TypeLooks) (v : ValueTree P) → value_writable true (unplaced_value v) ≡ true → Takes s none ty t (unplaced_value v) → Takes s variables ty t v
        is_taken ty t NullTree w h = h
        is_taken ty t (EnumTree n) w h = h
        is_taken ty t (VariableTree n) w h = absurd (true≢false (sym w))
        is_taken ty t (StringTree x) w h = h
        is_taken ty t (FloatTree x) w h = h
        is_taken ty t (IntTree x) w h = h
        is_taken ty t (BooleanTree b) w h = h
        is_taken ty t (ListTree ts) w h = (h.0, are_items_taken (item_type_of ty) t ts w h.1)
        is_taken ty t (ObjectTree es) w (inl (is, (taken, required))) = inl (is, (are_entries_taken t [] es w taken, λ m f has needed. sym (absent_same m es) ∙ required m f has needed))
        is_taken ty t (ObjectTree es) w (inr custom) = inr custom

        are_items_taken : (ty : TypeTree (Unit {0})) (t : TypeLooks) (ts : ItemTrees P) → items_writable true (unplaced_items ts) ≡ true → TakesItems s none ty t (unplaced_items ts) → TakesItems s variables ty t ts
        are_items_taken ty t no_items w h = tt
        are_items_taken ty t (item_then p v ts) w h =
            let (a, b) = and_parts (value_writable true (unplaced_value v)) (items_writable true (unplaced_items ts)) w in
            (is_taken ty t v a h.0, are_items_taken ty t ts b h.1)

        are_entries_taken : (t : TypeLooks) (before : List (List ℕ)) (es : EntryTrees P) → entries_writable true (unplaced_entries es) ≡ true → TakesEntries s none t before (unplaced_entries es) → TakesEntries s variables t before es
        are_entries_taken t before no_entries w h = tt
        are_entries_taken t before (entry_then n p v es) w ((f, (has, taken)), rest) =
            let (a, b) = and_parts (value_writable true (unplaced_value v)) (entries_writable true (unplaced_entries es)) w in
            ((f, (has, λ new u is. is_taken f.ty.it u v a (taken new u is))), are_entries_taken t (n.it ∷ before) es b rest)
