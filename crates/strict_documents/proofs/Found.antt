-- What is told of what a lookup finds, of two one after the other, in loops, and inside lists and objects.
use Rattle.std.proofs.Common.{◌≡◌, ℕ, ◌+◌, ◌<◌, ◌≤◌, Bool, true, false, List, [], ◌∷◌, ◌++◌, length, get_or, map, find, take, drop, refl, sym, ap, ◌∙◌, Option, None, Some, if◌then◌else◌}
use Rattle.std.specs.List.{flat_map}
use Rattle.std.specs.Option.{option_map, option_map_or, option_and_then}
use Rattle.std.proofs.lemmas.List.{take_all, drop_more}
use Rattle.std.proofs.lemmas.Grind.{flat_map-append}
use Rattle.graphql_names.specs.Node.{content, place}
use Rattle.graphql_names.specs.Placed.{Placed, Place, unplaced_node}
use Rattle.graphql_names.specs.declared.name.Name.{Name}
use Rattle.graphql_names.specs.declared.node.Node.{Node}
use Rattle.tree_literals.specs.ValueTree.{ValueTree, NullTree, EnumTree, VariableTree, StringTree, FloatTree, IntTree, BooleanTree, ListTree, ObjectTree, value_tree, item_trees, entry_trees}
use Rattle.tree_literals.specs.declared.value.Value.{Value}
use Rattle.tree_directives.specs.DirectiveTree.{InputValueTree, unplaced_input_value}
use Rattle.tree_directives.specs.DirectiveQueries.{input_value_has_name}
use Rattle.schema_components.specs.Given.{plain_given}
use Rattle.schema_types.specs.SchemaTree.{SchemaType, SchemaTree}
use Rattle.schema_types.specs.Plain.{plain_type}
use Rattle.schema_types.specs.Looks.{TypeLooks, type_looks}
use Rattle.schema_types.specs.Addresses.{under, type_at}
use Rattle.schema_types.proofs.UnderNames.{get_under}
use Rattle.rule_definitions.specs.Judged.{judged}
use Rattle.rule_definitions.specs.GivenValues.{Variables}
use Rattle.rule_definitions.specs.Room.{◌⊕◌}
use Rattle.rule_definitions.proofs.Room.{room_both, room_flat_map}
use Rattle.rule_definitions.proofs.Listing.{mapped_more}
use Rattle.strict_documents.specs.Departure.{Departure}
use Rattle.strict_documents.specs.Locations.{Location, Part, parts, item_parts, entry_parts, field_location, input_field}
use Rattle.strict_documents.specs.Departing.{part_departures, value_departures, plain_inputs}
use Rattle.strict_documents.specs.Given.{inside_departures, item_departures, entries_departures, entry_departures}

-- ---- what a lookup finds

module _ {A X : Type 0} (f : X → List A) (old : List A) where
  pub nothing_told : (o : Option X) → o ≡ None → old ≡ old ⊕ option_map_or f o []
  nothing_told o is = ap (λ p. old ⊕ option_map_or f p []) (sym is)

  pub found_told : (o : Option X) (x : X) (new : List A) → o ≡ Some x → new ≡ old ⊕ f x → new ≡ old ⊕ option_map_or f o []
  found_told o x new is told = told ∙ ap (λ p. old ⊕ option_map_or f p []) (sym is)

-- two one after the other
pub both_told : {A : Type 0} (old mid new l m k n : List A) → mid ≡ old ⊕ l → new ≡ mid ⊕ m → l ≡ k → m ≡ n → new ≡ old ⊕ (k ++ n)
both_told old mid new l m k n one two same same' = two ∙ (λ i. (one ∙ ap (λ x. old ⊕ x) same) i ⊕ same' i) ∙ room_both old k n

-- what is found among what is made of a list
find_mapped : {X Y : Type 0} (f : X → Y) (p : X → Bool) (q : Y → Bool) (xs : List X) → ((x : X) → q (f x) ≡ p x) → find q (map f xs) ≡ option_map f (find p xs)
find_mapped f p q [] same = refl
find_mapped {X} {Y} f p q (x ∷ xs) same = (λ i. if same x i then Some (f x) else find_mapped f p q xs same i) ∙ pushed (p x) (find p xs)
  where
    pushed : (b : Bool) (r : Option X) → (if b then Some (f x) else option_map f r) ≡ option_map f (if b then Some x else r)
    pushed true r = refl
    pushed false r = refl

pub mapped_again : {X Y Z : Type 0} (u : X → Y) (g : Y → Z) (h : X → Z) (o : Option X) → ((x : X) → g (u x) ≡ h x) → option_map g (option_map u o) ≡ option_map h o
mapped_again u g h None same = refl
mapped_again u g h (Some x) same = ap Some (same x)

-- a definition without its place, by name
pub plain_found : (n : List ℕ) (vs : List (Placed Place (InputValueTree Place))) → find (input_value_has_name n) (plain_inputs vs) ≡ option_map (unplaced_node unplaced_input_value) (find (input_value_has_name n) vs)
plain_found n vs = find_mapped (unplaced_node unplaced_input_value) (input_value_has_name n) (input_value_has_name n) vs (λ v. refl)

-- ---- loops

module _ {A X Y : Type 0} (tree : X → Y) (f : Y → List A) (old : List A) (xs : List X) (i : ℕ) where
  pub told_more : (now new : List A) (x : X) → i < length xs → x ≡ get_or xs i x → now ≡ old ⊕ flat_map f (map tree (take i xs)) → new ≡ now ⊕ f (tree x)
      → new ≡ old ⊕ flat_map f (map tree (take (i + 1) xs))
  told_more now new x h at so_far told =
      told ∙ ap (λ l. l ⊕ f (tree x)) so_far ∙ room_flat_map f old (map tree (take i xs)) (tree x) ∙ ap (λ l. old ⊕ flat_map f l) (sym (mapped_more tree xs i x h at))

  pub told_all : (now : List A) → length xs ≤ i → now ≡ old ⊕ flat_map f (map tree (take i xs)) → now ≡ old ⊕ flat_map f (map tree xs)
  told_all now h is = is ∙ ap (λ l. old ⊕ flat_map f (map tree l)) (take_all i xs h)

-- ---- inside lists and objects

module _ (t : SchemaTree Place) (variables : Variables Place) where
  -- a value, and what is inside it
  pub value_is : (l : Location) (p : Place) (v : ValueTree Place) → value_departures t variables l p v ≡ part_departures variables (record { location = l; place = p; value = v }) ++ inside_departures t variables l v
  value_is l p NullTree = refl
  value_is l p (EnumTree n) = refl
  value_is l p (VariableTree n) = refl
  value_is l p (StringTree s) = refl
  value_is l p (FloatTree s) = refl
  value_is l p (IntTree s) = refl
  value_is l p (BooleanTree b) = refl
  value_is l p (ListTree ts) = refl
  value_is l p (ObjectTree es) = refl

  module _ (l : Location) (xs : List (Node Value)) (i : ℕ) (x : Node Value) (inside : i < length xs) (is : x ≡ get_or xs i x) where
    abbrev of_item : Node Value → List (Departure Place)
    of_item y = value_departures t variables l (place y) (value_tree (content y))

    abbrev of_items : List (Node Value) → List (Departure Place)
    of_items ys = item_departures t variables l (item_trees value_tree ys)

    items_on : of_items (drop i xs) ≡ of_item x ++ of_items (drop (i + 1) xs)
    items_on =
        ap of_items (drop_more xs i x inside)
        ∙ flat_map-append (part_departures variables) (parts (judged t) l (place (get_or xs i x)) (value_tree (content (get_or xs i x)))) (item_parts (judged t) l (item_trees value_tree (drop (i + 1) xs)))
        ∙ ap (λ y. of_item y ++ of_items (drop (i + 1) xs)) (sym is)

    pub items_more : (all before after : List (Departure Place)) → after ≡ before ⊕ of_item x → all ≡ before ⊕ of_items (drop i xs) → all ≡ after ⊕ of_items (drop (i + 1) xs)
    items_more all before after told so_far =
        let rest = of_items (drop (i + 1) xs) in
        so_far ∙ ap (λ k. before ⊕ k) items_on ∙ sym (room_both before (of_item x) rest) ∙ ap (λ k. k ⊕ rest) (sym told)

  module _ (ty : List ℕ) where
    abbrev of_entry : Name × Node Value → List (Departure Place)
    of_entry e = entry_departures t variables ty e

    abbrev of_entries : List (Name × Node Value) → List (Departure Place)
    of_entries es = entries_departures t variables ty (entry_trees value_tree es)

    of_field : {X : Type 0} (f : X → List (Part Place)) (o : Option X) → flat_map (part_departures variables) (option_map_or f o []) ≡ option_map_or (λ x. flat_map (part_departures variables) (f x)) o []
    of_field f None = refl
    of_field f (Some x) = refl

    entry_first : (e : Name × Node Value) (es : List (Name × Node Value)) → of_entries (e ∷ es) ≡ of_entry e ++ of_entries es
    entry_first e es =
        let own = λ (f : InputValueTree (Unit {0})). parts (judged t) (field_location f) (place e.1) (value_tree (content e.1)) in
        flat_map-append (part_departures variables) (option_map_or own (input_field (judged t) ty e.0.text) []) (entry_parts (judged t) ty (entry_trees value_tree es))
        ∙ ap (λ k. k ++ of_entries es) (of_field own (input_field (judged t) ty e.0.text))

    module _ (xs : List (Name × Node Value)) (i : ℕ) (x : Name × Node Value) (inside : i < length xs) (is : x ≡ get_or xs i x) where
      entries_on : of_entries (drop i xs) ≡ of_entry x ++ of_entries (drop (i + 1) xs)
      entries_on = ap of_entries (drop_more xs i x inside) ∙ entry_first (get_or xs i x) (drop (i + 1) xs) ∙ ap (λ y. of_entry y ++ of_entries (drop (i + 1) xs)) (sym is)

      pub entries_more : (all before after : List (Departure Place)) → after ≡ before ⊕ of_entry x → all ≡ before ⊕ of_entries (drop i xs) → all ≡ after ⊕ of_entries (drop (i + 1) xs)
      entries_more all before after told so_far =
          let rest = of_entries (drop (i + 1) xs) in
          so_far ∙ ap (λ k. before ⊕ k) entries_on ∙ sym (room_both before (of_entry x) rest) ∙ ap (λ k. k ⊕ rest) (sym told)

-- ---- fields of input objects

module _ (s : SchemaTree Place) (n m : List ℕ) where
  type_under : (judged s).type_named n ≡ option_map type_looks (option_map plain_type (type_at s n))
  type_under = ap (option_map type_looks) (get_under plain_type n s.types)

  pub no_input : type_at s n ≡ None → input_field (judged s) n m ≡ None
  no_input none = ap (option_and_then (λ (t : TypeLooks). t.input m)) (type_under ∙ ap (λ o. option_map type_looks (option_map plain_type o)) none)

  pub input_there : (t : SchemaType Place) → type_at s n ≡ Some t → input_field (judged s) n m ≡ option_map (plain_given unplaced_input_value) (under m t.inputs)
  input_there t there =
      ap (option_and_then (λ (t : TypeLooks). t.input m)) (type_under ∙ ap (λ o. option_map type_looks (option_map plain_type o)) there)
      ∙ get_under (plain_given unplaced_input_value) m t.inputs
