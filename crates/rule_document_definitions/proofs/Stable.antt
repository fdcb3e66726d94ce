-- What does not fail holds, of all that merging asks of two fields: so fields merge where no rule on merging fails.
use Rattle.std.proofs.Common.{◌≡◌, ◌⊎◌, ◌↔◌, ℕ, Bool, true, false, List, [], ◌∷◌, find, cond, refl, sym, ap, subst, ◌∙◌, Option, None, Some, bytes_eq, inl, inr, true≢false, is_some}
use Rattle.std.specs.Option.{option_map}
use Rattle.std.proofs.lemmas.Option.{same_Some}
use Rattle.std.proofs.lemmas.Slice.Eq.{bytes_eq-Decides}
use Rattle.graphql_names.specs.Placed.{Text, Placed}
use Rattle.tree_literals.specs.TypeTree.{TypeTree, NamedTree, NonNullNamedTree}
use Rattle.tree_literals.specs.TypeTree as types
use Rattle.tree_literals.specs.ValueTree.{ItemTrees, EntryTrees, NullTree, EnumTree, VariableTree, StringTree, FloatTree, IntTree, BooleanTree, ListTree, ObjectTree, no_items, item_then, no_entries, entry_then}
use Rattle.spec_document.specs.MeantTree.{MeantOperation, MeantDocument}
use Rattle.rule_definitions.specs.Words.{Present}
use Rattle.rule_definitions.specs.Judged.{Judged}
use Rattle.rule_definitions.specs.Names.{named_in}
use Rattle.rule_definitions.specs.GivenValues.{entry_list}
use Rattle.rule_document_definitions.specs.DocumentFaults.{Broken}
use Rattle.rule_document_definitions.specs.Selected.{StandingField}
use Rattle.rule_document_definitions.specs.PossibleTypes.{IsComposite, IsCompositeType}
use Rattle.rule_document_definitions.specs.SameValues.{Plain, under_key, plain_given, SameValue, same_null, same_enum, same_variable, same_string, same_float, same_int, same_boolean, same_list, same_object, SameItems, no_more, both_then, SameGiven, neither, both}
use Rattle.rule_document_definitions.specs.Merging.{lists_and_marks, SameInner, SameShape, FieldsMerge, MergingBreaks}
use Rattle.rule_document_definitions.proofs.MergingFacts.{merging_breaks_nothing}

-- it holds if it does not fail
abbrev pub Stable : Type 0 → Type 0
Stable X = ((X → ⊥) → ⊥) → X

-- what holds or fails is stable
decided : {X : Type 0} → X ⊎ (X → ⊥) → Stable X
decided (inl x) h = x
decided (inr n) h = absurd (h n)

-- where two things imply one another
by_parts : {X Y : Type 0} → (X → Y) → (Y → X) → Stable Y → Stable X
by_parts f g stable h = g (stable (λ n. h (λ x. n (f x))))

stable_both : {X Y : Type 0} → Stable X → Stable Y → Stable (X × Y)
stable_both a b h = (a (λ n. h (λ p. n p.0)), b (λ n. h (λ p. n p.1)))

never : {X : Type 0} → (X → ⊥) → Stable X
never n h = absurd (h n)

-- ---- names and booleans

same_name : (a b : List ℕ) → (a ≡ b) ⊎ (a ≡ b → ⊥)
same_name a b = by (bytes_eq a b) refl
  where
    by : (r : Bool) → bytes_eq a b ≡ r → (a ≡ b) ⊎ (a ≡ b → ⊥)
    by true e = inl ((bytes_eq-Decides a b).0 e)
    by false e = inr (λ s. true≢false (sym ((bytes_eq-Decides a b).1 s) ∙ e))

same_bool : (a b : Bool) → (a ≡ b) ⊎ (a ≡ b → ⊥)
same_bool true true = inl refl
same_bool true false = inr (λ e. true≢false e)
same_bool false true = inr (λ e. true≢false (sym e))
same_bool false false = inl refl

plain_text : (a b : Text (Unit {0})) → a.it ≡ b.it → a ≡ b
plain_text a b e = ap (λ n. record { it = n; place = tt }) e

stable_name : (a b : List ℕ) → Stable (a ≡ b)
stable_name a b = decided (same_name a b)

stable_text : (a b : Text (Unit {0})) → Stable (a ≡ b)
stable_text a b = by_parts (ap (λ (t : Text (Unit {0})). t.it)) (plain_text a b) (stable_name a.it b.it)

-- ---- shapes

-- what kind of reference a type is, and what is in its brackets
abbrev form_of : TypeTree (Unit {0}) → List ℕ
form_of (NamedTree n) = 0 ∷ []
form_of (NonNullNamedTree n) = 1 ∷ []
form_of (types.ListTree t) = 2 ∷ []
form_of (types.NonNullListTree t) = 3 ∷ []

abbrev inside_of : TypeTree (Unit {0}) → TypeTree (Unit {0})
inside_of (NamedTree n) = NamedTree n
inside_of (NonNullNamedTree n) = NonNullNamedTree n
inside_of (types.ListTree t) = t
inside_of (types.NonNullListTree t) = t

forms_apart : {R : Type 0} (a b : TypeTree (Unit {0})) → bytes_eq (form_of a) (form_of b) ≡ false → a ≡ b → R
forms_apart a b apart e = absurd (true≢false (sym ((bytes_eq-Decides (form_of a) (form_of b)).1 (ap form_of e)) ∙ apart))

same_marks : (a b : TypeTree (Unit {0})) → (lists_and_marks a ≡ lists_and_marks b) ⊎ (lists_and_marks a ≡ lists_and_marks b → ⊥)
same_marks (NamedTree n) (NamedTree m) = inl refl
same_marks (NamedTree n) (NonNullNamedTree m) = inr (λ e. forms_apart _ _ refl e)
same_marks (NamedTree n) (types.ListTree u) = inr (λ e. forms_apart _ _ refl e)
same_marks (NamedTree n) (types.NonNullListTree u) = inr (λ e. forms_apart _ _ refl e)
same_marks (NonNullNamedTree n) (NamedTree m) = inr (λ e. forms_apart _ _ refl e)
same_marks (NonNullNamedTree n) (NonNullNamedTree m) = inl refl
same_marks (NonNullNamedTree n) (types.ListTree u) = inr (λ e. forms_apart _ _ refl e)
same_marks (NonNullNamedTree n) (types.NonNullListTree u) = inr (λ e. forms_apart _ _ refl e)
same_marks (types.ListTree t) (NamedTree m) = inr (λ e. forms_apart _ _ refl e)
same_marks (types.ListTree t) (NonNullNamedTree m) = inr (λ e. forms_apart _ _ refl e)
same_marks (types.ListTree t) (types.ListTree u) = elim (same_marks t u) [ inl e ↦ inl (ap types.ListTree e) | inr n ↦ inr (λ e. n (ap inside_of e)) ]
same_marks (types.ListTree t) (types.NonNullListTree u) = inr (λ e. forms_apart _ _ refl e)
same_marks (types.NonNullListTree t) (NamedTree m) = inr (λ e. forms_apart _ _ refl e)
same_marks (types.NonNullListTree t) (NonNullNamedTree m) = inr (λ e. forms_apart _ _ refl e)
same_marks (types.NonNullListTree t) (types.ListTree u) = inr (λ e. forms_apart _ _ refl e)
same_marks (types.NonNullListTree t) (types.NonNullListTree u) = elim (same_marks t u) [ inl e ↦ inl (ap types.NonNullListTree e) | inr n ↦ inr (λ e. n (ap inside_of e)) ]

present_or_not : {X : Type 0} (P : X → Type 0) (o : Option X) → ((x : X) → P x ⊎ (P x → ⊥)) → Present o P ⊎ (Present o P → ⊥)
present_or_not P None each = inr (λ h. true≢false (sym (ap is_some h.1.0)))
present_or_not P (Some x) each = elim (each x) [ inl p ↦ inl (x, (refl, p)) | inr n ↦ inr (λ h. n (subst P (sym (same_Some _ _ h.1.0)) h.1.1)) ]

module _ (s : Judged) where
  composite_or_not : (n : List ℕ) → IsComposite s n ⊎ (IsComposite s n → ⊥)
  composite_or_not n = present_or_not IsCompositeType (s.type_named n) (λ t. same_bool _ _)

  inner_or_not : (a b : List ℕ) → SameInner s a b ⊎ (SameInner s a b → ⊥)
  inner_or_not a b = by (same_name a b) (composite_or_not a) (composite_or_not b)
    where
      by : (a ≡ b) ⊎ (a ≡ b → ⊥) → IsComposite s a ⊎ (IsComposite s a → ⊥) → IsComposite s b ⊎ (IsComposite s b → ⊥) → SameInner s a b ⊎ (SameInner s a b → ⊥)
      by (inl e) p q = inl (inl e)
      by (inr n) (inl p) (inl q) = inl (inr (p, q))
      by (inr n) (inl p) (inr m) = inr (λ h. elim h [ inl e ↦ n e | inr r ↦ m r.1 ])
      by (inr n) (inr m) q = inr (λ h. elim h [ inl e ↦ n e | inr r ↦ m r.0 ])

  pub stable_shape : {P : Type 0} (f g : StandingField P) → Stable (SameShape s f g)
  stable_shape f g = stable_both (decided (same_marks f.definition.ty g.definition.ty)) (decided (inner_or_not (named_in f.definition.ty) (named_in g.definition.ty)))

-- ---- values

-- what is the same is of one kind; that of two lists, of two objects
abbrev kind_of : Plain → List ℕ
kind_of NullTree = 0 ∷ []
kind_of (EnumTree n) = 1 ∷ []
kind_of (VariableTree n) = 2 ∷ []
kind_of (StringTree s) = 3 ∷ []
kind_of (FloatTree s) = 4 ∷ []
kind_of (IntTree s) = 5 ∷ []
kind_of (BooleanTree b) = 6 ∷ []
kind_of (ListTree ts) = 7 ∷ []
kind_of (ObjectTree es) = 8 ∷ []

-- the text that a leaf has
abbrev leaf_of : Plain → List ℕ
leaf_of (EnumTree n) = n.it
leaf_of (VariableTree n) = n.it
leaf_of (StringTree s) = s
leaf_of (FloatTree s) = s
leaf_of (IntTree s) = s
leaf_of (BooleanTree true) = 1 ∷ []
leaf_of (BooleanTree false) = 0 ∷ []
leaf_of _ = []

abbrev items_of : Plain → ItemTrees (Unit {0})
items_of (ListTree ts) = ts
items_of _ = no_items

abbrev entries_of : Plain → EntryTrees (Unit {0})
entries_of (ObjectTree es) = es
entries_of _ = no_entries

same_kind : {a b : Plain} → SameValue a b → kind_of a ≡ kind_of b
same_kind same_null = refl
same_kind (same_enum a) = refl
same_kind (same_variable a) = refl
same_kind (same_string a) = refl
same_kind (same_float a) = refl
same_kind (same_int a) = refl
same_kind (same_boolean a) = refl
same_kind (same_list a b h) = refl
same_kind (same_object a b h) = refl

same_leaf : {a b : Plain} → SameValue a b → leaf_of a ≡ leaf_of b
same_leaf same_null = refl
same_leaf (same_enum a) = refl
same_leaf (same_variable a) = refl
same_leaf (same_string a) = refl
same_leaf (same_float a) = refl
same_leaf (same_int a) = refl
same_leaf (same_boolean a) = refl
same_leaf (same_list a b h) = refl
same_leaf (same_object a b h) = refl

same_items : {a b : Plain} → SameValue a b → SameItems (items_of a) (items_of b)
same_items same_null = no_more
same_items (same_enum a) = no_more
same_items (same_variable a) = no_more
same_items (same_string a) = no_more
same_items (same_float a) = no_more
same_items (same_int a) = no_more
same_items (same_boolean a) = no_more
same_items (same_list a b h) = h
same_items (same_object a b h) = no_more

same_keys : {a b : Plain} → SameValue a b → (key : List ℕ) → SameGiven (under_key key (entries_of a)) (under_key key (entries_of b))
same_keys same_null key = neither
same_keys (same_enum a) key = neither
same_keys (same_variable a) key = neither
same_keys (same_string a) key = neither
same_keys (same_float a) key = neither
same_keys (same_int a) key = neither
same_keys (same_boolean a) key = neither
same_keys (same_list a b h) key = neither
same_keys (same_object a b h) key = h key

kinds_apart : (a b : Plain) → bytes_eq (kind_of a) (kind_of b) ≡ false → Stable (SameValue a b)
kinds_apart a b apart = never (λ h. true≢false (sym ((bytes_eq-Decides (kind_of a) (kind_of b)).1 (same_kind h)) ∙ apart))

-- what two lists of items are made of
abbrev has_items : ItemTrees (Unit {0}) → Bool
has_items no_items = false
has_items (item_then p v ts) = true

abbrev first_item : ItemTrees (Unit {0}) → Plain
first_item no_items = NullTree
first_item (item_then p v ts) = v

abbrev further_items : ItemTrees (Unit {0}) → ItemTrees (Unit {0})
further_items no_items = no_items
further_items (item_then p v ts) = ts

as_long : {a b : ItemTrees (Unit {0})} → SameItems a b → has_items a ≡ has_items b
as_long no_more = refl
as_long (both_then v w vs ws h i) = refl

first_same : {a b : ItemTrees (Unit {0})} → SameItems a b → SameValue (first_item a) (first_item b)
first_same no_more = same_null
first_same (both_then v w vs ws h i) = h

further_same : {a b : ItemTrees (Unit {0})} → SameItems a b → SameItems (further_items a) (further_items b)
further_same no_more = no_more
further_same (both_then v w vs ws h i) = i

abbrev value_or_null : Option Plain → Plain
value_or_null None = NullTree
value_or_null (Some v) = v

both_given : {a b : Option Plain} → SameGiven a b → is_some a ≡ is_some b
both_given neither = refl
both_given (both v w h) = refl

given_same : {a b : Option Plain} → SameGiven a b → SameValue (value_or_null a) (value_or_null b)
given_same neither = same_null
given_same (both v w h) = h

-- of all values that stand beside this one
abbrev StableWith : Plain → Type 0
StableWith v = (w : Plain) → Stable (SameValue v w)

given_if_value : (a : Option Plain) → StableWith (value_or_null a) → (b : Option Plain) → Stable (SameGiven a b)
given_if_value None each None = λ h. neither
given_if_value None each (Some w) = never (λ h. true≢false (sym (both_given h)))
given_if_value (Some v) each None = never (λ h. true≢false (both_given h))
given_if_value (Some v) each (Some w) = by_parts given_same (both v w) (each w)

null_with : StableWith NullTree
null_with NullTree = λ h. same_null
null_with w = kinds_apart NullTree w refl

mutual
  stable_value : (a b : Plain) → Stable (SameValue a b)
  stable_value NullTree b = null_with b
  stable_value (EnumTree n) (EnumTree m) = by_parts same_leaf (λ e. subst (λ t. SameValue (EnumTree n) (EnumTree t)) (plain_text n m e) (same_enum n)) (stable_name n.it m.it)
  stable_value (EnumTree n) w = kinds_apart (EnumTree n) w refl
  stable_value (VariableTree n) (VariableTree m) = by_parts same_leaf (λ e. subst (λ t. SameValue (VariableTree n) (VariableTree t)) (plain_text n m e) (same_variable n)) (stable_name n.it m.it)
  stable_value (VariableTree n) w = kinds_apart (VariableTree n) w refl
  stable_value (StringTree n) (StringTree m) = by_parts same_leaf (λ e. subst (λ t. SameValue (StringTree n) (StringTree t)) e (same_string n)) (stable_name n m)
  stable_value (StringTree n) w = kinds_apart (StringTree n) w refl
  stable_value (FloatTree n) (FloatTree m) = by_parts same_leaf (λ e. subst (λ t. SameValue (FloatTree n) (FloatTree t)) e (same_float n)) (stable_name n m)
  stable_value (FloatTree n) w = kinds_apart (FloatTree n) w refl
  stable_value (IntTree n) (IntTree m) = by_parts same_leaf (λ e. subst (λ t. SameValue (IntTree n) (IntTree t)) e (same_int n)) (stable_name n m)
  stable_value (IntTree n) w = kinds_apart (IntTree n) w refl
  stable_value (BooleanTree true) (BooleanTree true) = λ h. same_boolean true
  stable_value (BooleanTree true) (BooleanTree false) = never (λ h. true≢false (sym ((bytes_eq-Decides (1 ∷ []) (0 ∷ [])).1 (same_leaf h))))
  stable_value (BooleanTree false) (BooleanTree true) = never (λ h. true≢false (sym ((bytes_eq-Decides (0 ∷ []) (1 ∷ [])).1 (same_leaf h))))
  stable_value (BooleanTree false) (BooleanTree false) = λ h. same_boolean false
  stable_value (BooleanTree n) w = kinds_apart (BooleanTree n) w refl
  stable_value (ListTree ts) (ListTree us) = by_parts same_items (same_list ts us) (stable_items ts us)
  stable_value (ListTree ts) w = kinds_apart (ListTree ts) w refl
  stable_value (ObjectTree es) (ObjectTree fs) = λ h. same_object es fs (λ key. given_if_value (under_key key es) (stable_under es key) (under_key key fs) (λ n. h (λ same. n (same_keys same key))))
  stable_value (ObjectTree es) w = kinds_apart (ObjectTree es) w refl

  stable_items : (ts us : ItemTrees (Unit {0})) → Stable (SameItems ts us)
  stable_items no_items no_items = λ h. no_more
  stable_items no_items (item_then p v us) = never (λ h. true≢false (sym (as_long h)))
  stable_items (item_then p v ts) no_items = never (λ h. true≢false (as_long h))
  stable_items (item_then p v ts) (item_then q w us) =
      by_parts (λ h. (first_same h, further_same h)) (λ h. both_then v w ts us h.0 h.1) (stable_both (stable_value v w) (stable_items ts us))

  -- what an object has under a key
  stable_under : (es : EntryTrees (Unit {0})) (key : List ℕ) → StableWith (value_or_null (under_key key es))
  stable_under no_entries key = null_with
  stable_under (entry_then n p v es) key = by (bytes_eq n.it key) (λ w. stable_value v w) (stable_under es key)
    where
      by : (b : Bool) → StableWith v → StableWith (value_or_null (under_key key es))
          → StableWith (value_or_null (option_map (λ (x : Placed (Unit {0}) Plain). x.it) (option_map (λ (e : Text (Unit {0}) × Placed (Unit {0}) Plain). e.1) (cond b (Some (n, record { it = v; place = p })) (find (λ (e : Text (Unit {0}) × Placed (Unit {0}) Plain). bytes_eq e.0.it key) (entry_list es))))))
      by true here later = here
      by false here later = later

pub stable_given : (a b : Option Plain) → Stable (SameGiven a b)
stable_given a b = given_if_value a (stable_value (value_or_null a)) b

-- ---- fields

module _ {P : Type 0} (s : Judged) (d : MeantDocument P) (o : MeantOperation P) where
  -- fields merge exactly when no rule on merging fails
  pub merge_if_nothing_breaks : ((fault : Broken P) → MergingBreaks s d o fault → ⊥) → FieldsMerge s d o
  merge_if_nothing_breaks none = record {
    shapes = λ f g meet. stable_shape s f g (λ n. none _ (inl (f, (g, (meet, (n, refl))))));
    selections = λ f g meet. (
      stable_name _ _ (λ n. none _ (inr (inl (f, (g, (meet, (n, refl))))))),
      λ name. stable_given (plain_given name f.head.arguments) (plain_given name g.head.arguments) (λ n. none _ (inr (inr (name, (f, (g, (meet, (n, refl)))))))),
    );
  }

  pub merge_exactly : FieldsMerge s d o ↔ ((fault : Broken P) → MergingBreaks s d o fault → ⊥)
  merge_exactly = (merging_breaks_nothing s d o, merge_if_nothing_breaks)
