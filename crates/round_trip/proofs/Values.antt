-- Values are read as they are printed.
use Rattle.std.proofs.Common.{◌≡◌, ◌≤◌, ℕ, zero, suc, true, false, ◌&&◌, List, [], ◌∷◌, ◌++◌, codes, refl, sym, ap, true≢false, arith}
use Rattle.std.proofs.lemmas.Bool.{and_parts}
use Rattle.graphql_names.specs.NameSyntax as names
use Rattle.round_trip.specs.in_literals.Joined.{joined, further_text, separated}
use Rattle.read_operations.specs.in_literals.ValueLayout.{value_text, item_texts, entry_texts, named_value_text}
use Rattle.graphql_names.specs.Placed.{Placed, Text}
use Rattle.read_operations.specs.in_values.Writable.{value_writable, items_writable, entries_writable}
use Rattle.read_operations.specs.in_literals.ValueTree.{ValueTree, NullTree, EnumTree, VariableTree, StringTree, FloatTree, IntTree, BooleanTree, ListTree, ObjectTree, ItemTrees, no_items, item_then, EntryTrees, no_entries, entry_then, unplaced_value, unplaced_items, unplaced_entries}
use Rattle.read_operations.specs.in_grammar.Meaning.{Meaning}
use Rattle.read_operations.specs.in_grammar.Rules as rule
use Rattle.read_operations.specs.in_grammar.Rules.{Rule, mark, ◌·◌, ◌<$>◌, ◌∣◌, nothing, many, between}
use Rattle.read_operations.specs.in_grammar.ValueGrammar.{Const, with_variables, items_of, entries_of, list_value, object_field, object_value, any_value, value}
use Rattle.round_trip.specs.Printed.{any, ends_word, Printed}
use Rattle.round_trip.specs.Literals.{LiteralsRead}
use Rattle.round_trip.specs.WellFormed.{value_well_formed, items_well_formed, entries_well_formed, value_depth, items_depth, entries_depth}
use Rattle.round_trip.proofs.Sequences.{seq, mapped, placed, ignored, more, no_more, as_text, nothing_more, saying, before_any}
use Rattle.round_trip.proofs.Tokens.{any_name}
use Rattle.round_trip.proofs.Punctuators.{colon, open_bracket, close_bracket, open_brace, close_brace}
use Rattle.round_trip.proofs.Lists.{further_is, separated_is, further_ends}
use Rattle.round_trip.proofs.Literals.{IsValue, null_read, boolean_read, enum_read, int_read, float_read, string_read, variable_read, as_list, as_object}

-- the items, and the fields, ignoring places
abbrev pub AreItems : {P : Type 0} → ItemTrees (Unit {0}) → List (Placed P (ValueTree P)) → Type 0
AreItems ts xs = unplaced_items (items_of xs) ≡ ts

abbrev pub AreEntries : {P : Type 0} → EntryTrees (Unit {0}) → List (Text P × (Unit {0} × Placed P (ValueTree P))) → Type 0
AreEntries ts xs = unplaced_entries (entries_of xs) ≡ ts

one_item : (x y : ValueTree (Unit {0})) (xs ys : ItemTrees (Unit {0})) → x ≡ y → xs ≡ ys → item_then tt x xs ≡ item_then tt y ys
one_item x y xs ys e f = rw e (rw f refl)

abbrev entry_named : List ℕ → ValueTree (Unit {0}) → EntryTrees (Unit {0}) → EntryTrees (Unit {0})
entry_named n x xs = entry_then (record { it = n; place = tt }) tt x xs

one_entry : (m n : List ℕ) (x y : ValueTree (Unit {0})) (xs ys : EntryTrees (Unit {0})) → m ≡ n → x ≡ y → xs ≡ ys → entry_named m x xs ≡ entry_named n y ys
one_entry m n x y xs ys d e f = rw d (rw e (rw f refl))

module _ {P : Type 0} (m : Meaning P) (lits : LiteralsRead m.string) where
  -- a value without brackets, however deep brackets may nest
  leaf : (const : Const) (n : ℕ) (t : ValueTree (Unit {0})) (text : List ℕ) → ((list object : Rule (ValueTree P)) → Printed (any_value m const list object) (IsValue t) ends_word text) → Printed (value m const n) (IsValue t) ends_word text
  unfolding value
  leaf const zero t text p = p nothing nothing
  leaf const (suc n) t text p = p (list_value m (value m const n)) (object_value m (value m const n))

  -- [items], and {fields}
  listed : (const : Const) (n : ℕ) (ts : ItemTrees (Unit {0})) (text : List ℕ) → Printed (many (rule.placed m (value m const n))) (AreItems ts) ends_word text → Printed (value m const (suc n)) (IsValue (ListTree ts)) any (91 ∷ (text ++ 93 ∷ []))
  unfolding value
  listed const n ts text p =
      as_list m const (list_value m (value m const n)) (object_value m (value m const n))
      (mapped (λ xs. ListTree (items_of xs)) (IsValue (ListTree ts)) (λ xs said. ap ListTree said)
      (mapped (λ x. x.1.0) (AreItems ts) (λ x said. said.1.0)
      (seq {f = any} (λ following fine. refl) open_bracket (seq {f = ends_word} (λ following fine. refl) p close_bracket))))

  braced : (const : Const) (n : ℕ) (ts : EntryTrees (Unit {0})) (text : List ℕ) → Printed (many (object_field m (value m const n))) (AreEntries ts) ends_word text → Printed (value m const (suc n)) (IsValue (ObjectTree ts)) any (123 ∷ (text ++ 125 ∷ []))
  unfolding value
  braced const n ts text p =
      as_object m const (list_value m (value m const n)) (object_value m (value m const n))
      (mapped (λ xs. ObjectTree (entries_of xs)) (IsValue (ObjectTree ts)) (λ xs said. ap ObjectTree said)
      (mapped (λ x. x.1.0) (AreEntries ts) (λ x said. said.1.0)
      (seq {f = any} (λ following fine. refl) open_brace (seq {f = ends_word} (λ following fine. refl) p close_brace))))

  -- one more, and what follows it
  item_more : (r : Rule (ValueTree P)) (t : ValueTree (Unit {0})) (ts : ItemTrees (Unit {0})) (text : List ℕ) (texts : List (List ℕ)) → Printed r (IsValue t) ends_word text
      → Printed (many (rule.placed m r)) (AreItems ts) ends_word (further_text (codes ", ") texts) → Printed (many (rule.placed m r)) (AreItems (item_then tt t ts)) ends_word (text ++ further_text (codes ", ") texts)
  item_more r t ts text texts p q =
      more {f = ends_word} (AreItems (item_then tt t ts)) (λ x xs this others. one_item (unplaced_value x.it) t (unplaced_items (items_of xs)) ts this others)
      (λ following fine. further_ends 44 (32 ∷ []) texts following refl fine) (placed m p) q

  -- name: value
  pub field_read : (r : Rule (ValueTree P)) (n : List ℕ) (t : ValueTree (Unit {0})) (text : List ℕ) → names.is_name n ≡ true → Printed r (IsValue t) ends_word text
      → Printed (object_field m r) (λ x. (x.0.it ≡ n) × ((x.1.0 ≡ tt) × IsValue t x.1.1.it)) ends_word (named_value_text n text)
  unfolding joined
  field_read r n t text h p =
      seq {f = ends_word} (λ following fine. refl) (any_name m n h) (seq {f = any} (λ following fine. refl) colon (ignored (32 ∷ []) refl (nothing_more (placed m p))))

  entry_more : (r : Rule (ValueTree P)) (n : List ℕ) (t : ValueTree (Unit {0})) (ts : EntryTrees (Unit {0})) (text : List ℕ) (texts : List (List ℕ)) → names.is_name n ≡ true → Printed r (IsValue t) ends_word text
      → Printed (many (object_field m r)) (AreEntries ts) ends_word (further_text (codes ", ") texts) → Printed (many (object_field m r)) (AreEntries (entry_named n t ts)) ends_word (named_value_text n text ++ further_text (codes ", ") texts)
  entry_more r n t ts text texts h p q =
      more {f = ends_word} (AreEntries (entry_named n t ts)) (λ x xs this others. one_entry x.0.it n (unplaced_value x.1.1.it) t (unplaced_entries (entries_of xs)) ts this.0 this.1.1 others)
      (λ following fine. further_ends 44 (32 ∷ []) texts following refl fine) (field_read r n t text h p) q

  module _ {Q : Type 0} where
    abbrev AreRead : Const → ℕ → ItemTrees Q → List ℕ → Type 0
    AreRead const n ts text = Printed (many (rule.placed m (value m const n))) (AreItems (unplaced_items ts)) ends_word text

    mutual
      unfolding joined

      pub value_read : (const : Const) (t : ValueTree Q) (n : ℕ) → value_well_formed t ≡ true → value_writable const t ≡ true → value_depth t ≤ n → Printed (value m const n) (IsValue (unplaced_value t)) ends_word (value_text t)
      value_read const NullTree n h w le = leaf const n NullTree (codes "null") (λ list object. null_read m const list object)
      value_read const (EnumTree x) n h w le = leaf const n _ x.it (λ list object. enum_read m const list object x.it h w)
      value_read true (VariableTree x) n h w le = absurd (true≢false (sym w))
      value_read false (VariableTree x) n h w le = leaf with_variables n _ _ (λ list object. variable_read m list object x.it h)
      value_read const (StringTree s) n h w le = leaf const n _ _ (λ list object. string_read m const list object lits.strings s)
      value_read const (FloatTree s) n h w le = leaf const n _ s (λ list object. float_read m const list object lits.numbers s h)
      value_read const (IntTree s) n h w le = leaf const n _ s (λ list object. int_read m const list object lits.numbers s h)
      value_read const (BooleanTree b) n h w le = leaf const n _ _ (λ list object. boolean_read m const list object b)
      value_read const (ListTree ts) zero h w le = absurd (omega arith)
      value_read const (ListTree ts) (suc n) h w le = before_any (listed const n (unplaced_items ts) _ (items_read const ts n h w (omega arith)))
      value_read const (ObjectTree ts) zero h w le = absurd (omega arith)
      value_read const (ObjectTree ts) (suc n) h w le = before_any (braced const n (unplaced_entries ts) _ (entries_read const ts n h w (omega arith)))

      -- the items, the first without a separator
      items_read : (const : Const) (ts : ItemTrees Q) (n : ℕ) → items_well_formed ts ≡ true → items_writable const ts ≡ true → items_depth ts ≤ n → AreRead const n ts (separated (codes ", ") (item_texts ts))
      items_read const no_items n h w le = saying (AreItems no_items) (λ xs e. ap (λ l. unplaced_items (items_of l)) e) (no_more (rule.placed m (value m const n)) ends_word)
      items_read const (item_then p t ts) n h w le =
          let (h1, h2) = and_parts (value_well_formed t) (items_well_formed ts) h in
          let (w1, w2) = and_parts (value_writable const t) (items_writable const ts) w in
          as_text _ (separated_is (codes ", ") (value_text t) (item_texts ts))
          (item_more (value m const n) (unplaced_value t) (unplaced_items ts) (value_text t) (item_texts ts) (value_read const t n h1 w1 (omega arith)) (further_items_read const ts n h2 w2 (omega arith)))

      further_items_read : (const : Const) (ts : ItemTrees Q) (n : ℕ) → items_well_formed ts ≡ true → items_writable const ts ≡ true → items_depth ts ≤ n → AreRead const n ts (further_text (codes ", ") (item_texts ts))
      further_items_read const no_items n h w le = saying (AreItems no_items) (λ xs e. ap (λ l. unplaced_items (items_of l)) e) (no_more (rule.placed m (value m const n)) ends_word)
      further_items_read const (item_then p t ts) n h w le =
          let (h1, h2) = and_parts (value_well_formed t) (items_well_formed ts) h in
          let (w1, w2) = and_parts (value_writable const t) (items_writable const ts) w in
          as_text _ (further_is (codes ", ") (value_text t) (item_texts ts))
          (ignored (codes ", ") refl
          (item_more (value m const n) (unplaced_value t) (unplaced_items ts) (value_text t) (item_texts ts) (value_read const t n h1 w1 (omega arith)) (further_items_read const ts n h2 w2 (omega arith))))

      entries_read : (const : Const) (ts : EntryTrees Q) (n : ℕ) → entries_well_formed ts ≡ true → entries_writable const ts ≡ true → entries_depth ts ≤ n → Printed (many (object_field m (value m const n))) (AreEntries (unplaced_entries ts)) ends_word (separated (codes ", ") (entry_texts ts))
      entries_read const no_entries n h w le = saying (AreEntries no_entries) (λ xs e. ap (λ l. unplaced_entries (entries_of l)) e) (no_more (object_field m (value m const n)) ends_word)
      entries_read const (entry_then x p t ts) n h w le =
          let (h12, h3) = and_parts (names.is_name x.it && value_well_formed t) (entries_well_formed ts) h in
          let (h1, h2) = and_parts (names.is_name x.it) (value_well_formed t) h12 in
          let (w1, w2) = and_parts (value_writable const t) (entries_writable const ts) w in
          as_text _ (separated_is (codes ", ") (named_value_text x.it (value_text t)) (entry_texts ts))
          (entry_more (value m const n) x.it (unplaced_value t) (unplaced_entries ts) (value_text t) (entry_texts ts) h1 (value_read const t n h2 w1 (omega arith)) (further_entries_read const ts n h3 w2 (omega arith)))

      further_entries_read : (const : Const) (ts : EntryTrees Q) (n : ℕ) → entries_well_formed ts ≡ true → entries_writable const ts ≡ true → entries_depth ts ≤ n → Printed (many (object_field m (value m const n))) (AreEntries (unplaced_entries ts)) ends_word (further_text (codes ", ") (entry_texts ts))
      further_entries_read const no_entries n h w le = saying (AreEntries no_entries) (λ xs e. ap (λ l. unplaced_entries (entries_of l)) e) (no_more (object_field m (value m const n)) ends_word)
      further_entries_read const (entry_then x p t ts) n h w le =
          let (h12, h3) = and_parts (names.is_name x.it && value_well_formed t) (entries_well_formed ts) h in
          let (h1, h2) = and_parts (names.is_name x.it) (value_well_formed t) h12 in
          let (w1, w2) = and_parts (value_writable const t) (entries_writable const ts) w in
          as_text _ (further_is (codes ", ") (named_value_text x.it (value_text t)) (entry_texts ts))
          (ignored (codes ", ") refl
          (entry_more (value m const n) x.it (unplaced_value t) (unplaced_entries ts) (value_text t) (entry_texts ts) h1 (value_read const t n h2 w1 (omega arith)) (further_entries_read const ts n h3 w2 (omega arith))))
