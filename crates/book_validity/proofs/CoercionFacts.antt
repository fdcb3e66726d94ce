-- A value is of correct type exactly when the type accepts it, as `Accepts` says by cases on the value.
use Rattle.std.proofs.Common.{◌≡◌, ◌↔◌, ℕ, List, [], ◌∷◌, codes, Contains, refl, sym, subst, inl, inr}
use Rattle.std.proofs.lemmas.List.Elements.{Contains-append_right}
use Rattle.tree_literals.specs.TypeTree.{TypeTree}
use Rattle.tree_literals.specs.TypeQueries.{item_type_of}
use Rattle.tree_literals.specs.ValueTree.{ValueTree, ItemTrees, EntryTrees, NullTree, EnumTree, VariableTree, StringTree, FloatTree, IntTree, BooleanTree, ListTree, ObjectTree, no_items, item_then, no_entries, entry_then}
use Rattle.schema_types.specs.Looks.{TypeLooks}
use Rattle.rule_cycle_search.proofs.Lists.{Contains-cons, Contains-first, only, is_only}
use Rattle.rule_definitions.specs.Judged.{Judged}
use Rattle.rule_definitions.specs.Names.{named_in, defined_name}
use Rattle.rule_definitions.specs.Accepts.{IsDefined, AreItemsDefined, AreEntriesDefined, Takes, TakesItems, TakesEntries, Accepts}
use Rattle.rule_document_definitions.specs.UsedVariables.{IsInValue, IsInItems, IsInEntries}
use Rattle.book_validity.specs.Words.{OperationVariables, IsThere, named}
use Rattle.book_validity.specs.Coercion.{IsCoercible, custom_scalar, list_of_custom_scalar, int, float, integer_as_float, string, boolean, string_as_id, integer_as_id, enum_value, input_object, list, null, variable, AreCoercible, no_more_items, and_item, AreEntriesCoercible, no_more_entries, and_entry, IsOfCorrectType}

abbrev U : Type 0
U = Unit {0}

-- a name among two of which it is not the first
second : (a b n : List ℕ) → n ≡ b → Contains (a ∷ b ∷ []) n
second a b n e = Contains-append_right (a ∷ []) (b ∷ []) n (is_only b n e)

first_of_two : (a b n : List ℕ) → n ≡ a → Contains (a ∷ b ∷ []) n
first_of_two a b n e = Contains-first a (b ∷ []) n (sym e)

module _ (s : Judged) (variables : OperationVariables) where
  -- ---- what the type takes is coercible

  mutual
    coerced : (ty : TypeTree U) (t : TypeLooks) (v : ValueTree U) → Takes s variables ty t v → IsCoercible s variables ty t v
    coerced ty t NullTree h = null h
    coerced ty t (VariableTree n) h = variable h
    coerced ty t (IntTree digits) (inl (inl c)) = custom_scalar c tt
    coerced ty t (IntTree digits) (inl (inr (b, m))) = elim (Contains-cons (codes "Float") (codes "ID" ∷ []) (named_in ty) m) [
      | inl e ↦ integer_as_float (b, sym e)
      | inr r ↦ integer_as_id (b, only (codes "ID") (named_in ty) r)
    ]
    coerced ty t (IntTree digits) (inr (b, (is, fits))) = int (b, is) fits
    coerced ty t (FloatTree digits) (inl c) = custom_scalar c tt
    coerced ty t (FloatTree digits) (inr (b, m)) = float (b, only (codes "Float") (named_in ty) m)
    coerced ty t (StringTree text) (inl c) = custom_scalar c tt
    coerced ty t (StringTree text) (inr (b, m)) = elim (Contains-cons (codes "String") (codes "ID" ∷ []) (named_in ty) m) [
      | inl e ↦ string (b, sym e)
      | inr r ↦ string_as_id (b, only (codes "ID") (named_in ty) r)
    ]
    coerced ty t (BooleanTree b) (inl c) = custom_scalar c tt
    coerced ty t (BooleanTree b) (inr (i, m)) = boolean (i, only (codes "Boolean") (named_in ty) m)
    coerced ty t (EnumTree n) (inl (k, there)) = enum_value k there
    coerced ty t (EnumTree n) (inr c) = custom_scalar c tt
    coerced ty t (ListTree items) (inl l, h) = list l (items_coerced (item_type_of ty) t items h)
    coerced ty t (ListTree items) (inr c, h) = list_of_custom_scalar c (items_coerced (item_type_of ty) t items h)
    coerced ty t (ObjectTree es) (inl (k, (h, required))) = input_object k (entries_coerced t [] es h) required
    coerced ty t (ObjectTree es) (inr c) = custom_scalar c tt

    items_coerced : (ty : TypeTree U) (t : TypeLooks) (items : ItemTrees U) → TakesItems s variables ty t items → AreCoercible s variables ty t items
    items_coerced ty t no_items h = no_more_items
    items_coerced ty t (item_then p v items) h = and_item (coerced ty t v h.0) (items_coerced ty t items h.1)

    entries_coerced : (t : TypeLooks) (before : List (List ℕ)) (es : EntryTrees U) → TakesEntries s variables t before es → AreEntriesCoercible s variables t before es
    entries_coerced t before no_entries h = no_more_entries
    entries_coerced t before (entry_then k p v es) ((f, (is, taken)), rest) = and_entry f is (λ new u at. coerced f.ty.it u v (taken new u at)) (entries_coerced t (k.it ∷ before) es rest)

  -- ---- and what is coercible it takes

  mutual
    taken : (ty : TypeTree U) (t : TypeLooks) (v : ValueTree U) → IsCoercible s variables ty t v → Takes s variables ty t v
    taken ty t NullTree (null h) = h
    taken ty t NullTree (custom_scalar c other) = absurd other
    taken ty t (VariableTree n) (variable h) = h
    taken ty t (VariableTree n) (custom_scalar c other) = absurd other
    taken ty t (IntTree digits) (custom_scalar c other) = inl (inl c)
    taken ty t (IntTree digits) (int b fits) = inr (b.0, (b.1, fits))
    taken ty t (IntTree digits) (integer_as_float b) = inl (inr (b.0, first_of_two (codes "Float") (codes "ID") (named_in ty) b.1))
    taken ty t (IntTree digits) (integer_as_id b) = inl (inr (b.0, second (codes "Float") (codes "ID") (named_in ty) b.1))
    taken ty t (FloatTree digits) (custom_scalar c other) = inl c
    taken ty t (FloatTree digits) (float b) = inr (b.0, is_only (codes "Float") (named_in ty) b.1)
    taken ty t (StringTree text) (custom_scalar c other) = inl c
    taken ty t (StringTree text) (string b) = inr (b.0, first_of_two (codes "String") (codes "ID") (named_in ty) b.1)
    taken ty t (StringTree text) (string_as_id b) = inr (b.0, second (codes "String") (codes "ID") (named_in ty) b.1)
    taken ty t (BooleanTree b) (custom_scalar c other) = inl c
    taken ty t (BooleanTree b) (boolean i) = inr (i.0, is_only (codes "Boolean") (named_in ty) i.1)
    taken ty t (EnumTree n) (custom_scalar c other) = inr c
    taken ty t (EnumTree n) (enum_value k there) = inl (k, there)
    taken ty t (ListTree items) (custom_scalar c other) = absurd other
    taken ty t (ListTree items) (list_of_custom_scalar c h) = (inr c, items_taken (item_type_of ty) t items h)
    taken ty t (ListTree items) (list l h) = (inl l, items_taken (item_type_of ty) t items h)
    taken ty t (ObjectTree es) (custom_scalar c other) = inr c
    taken ty t (ObjectTree es) (input_object k h required) = inl (k, (entries_taken t [] es h, required))

    items_taken : (ty : TypeTree U) (t : TypeLooks) (items : ItemTrees U) → AreCoercible s variables ty t items → TakesItems s variables ty t items
    items_taken ty t no_items h = tt
    items_taken ty t (item_then p v items) (and_item h rest) = (taken ty t v h, items_taken ty t items rest)

    entries_taken : (t : TypeLooks) (before : List (List ℕ)) (es : EntryTrees U) → AreEntriesCoercible s variables t before es → TakesEntries s variables t before es
    entries_taken t before no_entries h = tt
    entries_taken t before (entry_then k p v es) (and_entry f is h rest) = ((f, (is, λ new u at. taken f.ty.it u v (h new u at))), entries_taken t (k.it ∷ before) es rest)

-- ---- variables

module _ (variables : OperationVariables) (n : List ℕ) where
  mutual
    defined_there : (v : ValueTree U) → IsDefined variables v → IsInValue n v → IsThere (named defined_name variables n)
    defined_there (VariableTree x) h e = subst (λ m. IsThere (named defined_name variables m)) e h
    defined_there (ListTree items) h e = defined_in_items items h e
    defined_there (ObjectTree es) h e = defined_in_entries es h e
    defined_there v h e = absurd e

    defined_in_items : (items : ItemTrees U) → AreItemsDefined variables items → IsInItems n items → IsThere (named defined_name variables n)
    defined_in_items no_items h e = absurd e
    defined_in_items (item_then p v items) h (inl e) = defined_there v h.0 e
    defined_in_items (item_then p v items) h (inr e) = defined_in_items items h.1 e

    defined_in_entries : (es : EntryTrees U) → AreEntriesDefined variables es → IsInEntries n es → IsThere (named defined_name variables n)
    defined_in_entries no_entries h e = absurd e
    defined_in_entries (entry_then k p v es) h (inl e) = defined_there v h.0 e
    defined_in_entries (entry_then k p v es) h (inr e) = defined_in_entries es h.1 e

module _ (variables : OperationVariables) where
  mutual
    all_defined : (v : ValueTree U) → ((n : List ℕ) → IsInValue n v → IsThere (named defined_name variables n)) → IsDefined variables v
    all_defined (VariableTree x) h = h x.it refl
    all_defined (ListTree items) h = all_items_defined items h
    all_defined (ObjectTree es) h = all_entries_defined es h
    all_defined NullTree h = tt
    all_defined (EnumTree x) h = tt
    all_defined (StringTree x) h = tt
    all_defined (FloatTree x) h = tt
    all_defined (IntTree x) h = tt
    all_defined (BooleanTree x) h = tt

    all_items_defined : (items : ItemTrees U) → ((n : List ℕ) → IsInItems n items → IsThere (named defined_name variables n)) → AreItemsDefined variables items
    all_items_defined no_items h = tt
    all_items_defined (item_then p v items) h = (all_defined v (λ n e. h n (inl e)), all_items_defined items (λ n e. h n (inr e)))

    all_entries_defined : (es : EntryTrees U) → ((n : List ℕ) → IsInEntries n es → IsThere (named defined_name variables n)) → AreEntriesDefined variables es
    all_entries_defined no_entries h = tt
    all_entries_defined (entry_then k p v es) h = (all_defined v (λ n e. h n (inl e)), all_entries_defined es (λ n e. h n (inr e)))

-- ---- both

pub of_correct_type : (s : Judged) (variables : OperationVariables) (ty : TypeTree U) (v : ValueTree U) → Accepts s variables ty v ↔ IsOfCorrectType s variables ty v
of_correct_type s variables ty v = (
  λ h. record { coercible = λ t is. coerced s variables ty t v (h.0 t is); defined = λ n e. defined_there variables n v h.1 e },
  λ h. ((λ t is. taken s variables ty t v (h.coercible t is)), all_defined variables v h.defined),
)
