-- What is told of the entries of an object where their keys are noted.
use Rattle.std.proofs.Common.{◌≡◌, ℕ, ◌+◌, ◌<◌, Bool, true, false, ◌||◌, List, [], ◌∷◌, ◌++◌, take, drop, length, get_or, map, find, bytes_eq, Option, None, Some, is_some, refl, sym, ap, ◌∙◌, if◌then◌else◌}
use Rattle.std.specs.Option.{option_map, option_map_or}
use Rattle.std.proofs.lemmas.List.{drop_more, take_more, map-append}
use Rattle.graphql_names.specs.Node.{content, place}
use Rattle.graphql_names.specs.NameValue.{NameValue}
use Rattle.graphql_names.specs.Placed.{Place, Text, name_tree}
use Rattle.graphql_names.specs.declared.node.Node.{Node}
use Rattle.tree_literals.specs.ValueTree.{value_tree, entry_trees}
use Rattle.tree_literals.specs.ValueQueries.{is_null_value}
use Rattle.tree_literals.specs.declared.value.Value.{Value}
use Rattle.graphql_schema.specs.in_schema_types.SchemaTree.{SchemaType, SchemaTree}
use Rattle.fault_data.specs.Room.{◌⊕◌}
use Rattle.fault_data.specs.in_rule_definitions.Diagnostics.{UniqueInputValue}
use Rattle.fault_data.specs.in_rule_definitions.Faults.{wrong}
use Rattle.fault_data.specs.in_rule_definitions.GivenValues.{Variables}
use Rattle.fault_data.specs.in_rule_definitions.PlacedFaults.{PlacedFault}
use Rattle.fault_data.proofs.Room.{room_both}
use Rattle.schema_inputs.specs.Firsts.{first_told}
use Rattle.rule_values.specs.KeyFaults.{key_again, repeated_key, repeated_keys}
use Rattle.rule_values.specs.ValueFaults.{is_key, given_entry, is_missing_entry, field_faults, entry_faults}
use Rattle.rule_values.specs.Wanting.{nulls_of}
use Rattle.rule_values.proofs.EntryKeys.{keys_of_entries}
use Rattle.schema_inputs.proofs.Noted.{told_found}

abbrev Entry : Type 0
Entry = NameValue × Node Value

-- the place of the first key of a name
abbrev first_place : List (Text Place) → List ℕ → Option Place
first_place keys n = first_told (λ k. k.it) (λ j k. k.place) keys n

again_is : (keys : List (Text Place)) (k : Text Place) (first : Option Place) → first ≡ first_place keys k.it → key_again first k ≡ repeated_key keys k
again_is keys k first e = ap (λ o. key_again o k) (e ∙ told_found (λ j. j.it) (λ j. j.place) keys k.it) ∙ by (find (λ j. bytes_eq j.it k.it) keys)
  where
    by : (o : Option (Text Place)) → key_again (option_map (λ j. j.place) o) k ≡ option_map_or (λ (j : Text Place). wrong k.place (UniqueInputValue k.it j.place k.place) ∷ []) o []
    by None = refl
    by (Some j) = refl

module _ (xs : List Entry) (i : ℕ) (x : Entry) (inside : i < length xs) (is : x ≡ get_or xs i x) where
  -- what is left begins with the entry
  left : entry_trees value_tree (drop i xs) ≡ entry_trees value_tree (x ∷ drop (i + 1) xs)
  left = ap (entry_trees value_tree) (drop_more xs i x inside) ∙ ap (λ (y : Entry). entry_trees value_tree (y ∷ drop (i + 1) xs)) (sym is)

  keys_next : {Y : Type 0} (f : Entry → Y) → map f (take i xs) ++ f x ∷ [] ≡ map f (take (i + 1) xs)
  keys_next f = sym (ap (map f) (take_more xs i x inside) ∙ map-append f (take i xs) (get_or xs i x ∷ []) ∙ ap (λ y. map f (take i xs) ++ f y ∷ []) (sym is))

  pub keys_more : (all before after : List PlacedFault) (first : Option Place) → first ≡ first_place (keys_of_entries (take i xs)) x.0.text → after ≡ before ⊕ key_again first (name_tree x.0)
      → all ≡ before ⊕ repeated_keys (keys_of_entries (take i xs)) (entry_trees value_tree (drop i xs)) → all ≡ after ⊕ repeated_keys (keys_of_entries (take (i + 1) xs)) (entry_trees value_tree (drop (i + 1) xs))
  keys_more all before after first found told so_far =
      let keys = keys_of_entries (take i xs) in
      let rest = repeated_keys (keys_of_entries (take (i + 1) xs)) (entry_trees value_tree (drop (i + 1) xs)) in
      so_far
      ∙ ap (λ es. before ⊕ repeated_keys keys es) left
      ∙ (λ k. before ⊕ (sym (again_is keys (name_tree x.0) first found) k ++ repeated_keys (keys_next (λ e. name_tree e.0) k) (entry_trees value_tree (drop (i + 1) xs))))
      ∙ sym (room_both before (key_again first (name_tree x.0)) rest)
      ∙ ap (λ l. l ⊕ rest) (sym told)

-- ---- the first entry of each key

key_there : (es : List Entry) (n : List ℕ) → is_key n (map (λ (e : Entry). e.0.text) es) ≡ is_some (first_place (keys_of_entries es) n)
key_there es n = by es ∙ ap is_some (sym (told_found (λ k. k.it) (λ k. k.place) (keys_of_entries es) n))
  where
    by : (es : List Entry) → is_key n (map (λ (e : Entry). e.0.text) es) ≡ is_some (option_map (λ (k : Text Place). k.place) (find (λ k. bytes_eq k.it n) (keys_of_entries es)))
    by [] = refl
    by (e ∷ es) = one (bytes_eq e.0.text n) (by es)
      where
        one : (b : Bool) → is_key n (map (λ (e : Entry). e.0.text) es) ≡ is_some (option_map (λ (k : Text Place). k.place) (find (λ k. bytes_eq k.it n) (keys_of_entries es)))
            → (b || is_key n (map (λ (e : Entry). e.0.text) es)) ≡ is_some (option_map (λ (k : Text Place). k.place) (if b then Some (name_tree e.0) else find (λ k. bytes_eq k.it n) (keys_of_entries es)))
        one true rest = refl
        one false rest = rest

module _ (s : SchemaTree Place) (variables : Variables Place) (t : SchemaType Place) (xs : List Entry) (i : ℕ) (x : Entry) (inside : i < length xs) (is : x ≡ get_or xs i x) where
  abbrev texts : ℕ → List (List ℕ)
  texts j = map (λ (e : Entry). e.0.text) (take j xs)

  abbrev own : List PlacedFault
  own = field_faults s variables t x.0.text (place x.1) (value_tree (content x.1))

  abbrev left_over : ℕ → List PlacedFault
  left_over j = entry_faults s variables t (texts j) (entry_trees value_tree (drop j xs))

  entries_on : left_over i ≡ (if is_key x.0.text (texts i) then [] else own) ++ left_over (i + 1)
  entries_on =
      ap (entry_faults s variables t (texts i)) (left xs i x inside is)
      ∙ ap (λ ns. (if is_key x.0.text (texts i) then [] else own) ++ entry_faults s variables t ns (entry_trees value_tree (drop (i + 1) xs))) (keys_next xs i x inside is (λ e. e.0.text))

  module _ (all before after : List PlacedFault) (so_far : all ≡ before ⊕ left_over i) (first : Option Place) (found : first ≡ first_place (keys_of_entries (take i xs)) x.0.text) where
    -- an entry of which the key is there before
    pub entry_again : is_some first ≡ true → all ≡ before ⊕ left_over (i + 1)
    entry_again there = so_far ∙ ap (λ l. before ⊕ l) (entries_on ∙ ap (λ b. (if b then [] else own) ++ left_over (i + 1)) (key_there (take i xs) x.0.text ∙ ap is_some (sym found) ∙ there))

    -- the first of its key
    pub entry_first : is_some first ≡ false → after ≡ before ⊕ own → all ≡ after ⊕ left_over (i + 1)
    entry_first new told =
        so_far ∙ ap (λ l. before ⊕ l) (entries_on ∙ ap (λ b. (if b then [] else own) ++ left_over (i + 1)) (key_there (take i xs) x.0.text ∙ ap is_some (sym found) ∙ new))
        ∙ sym (room_both before own (left_over (i + 1))) ∙ ap (λ l. l ⊕ left_over (i + 1)) (sym told)

-- ---- whether what is given is null

pub nulls_are : (es : List Entry) (n : List ℕ) → option_map_or (λ is_null. is_null) (first_told (λ e. e.0) (λ j e. e.1) (nulls_of es) n) true ≡ is_missing_entry n (entry_trees value_tree es)
nulls_are [] n = refl
nulls_are (e ∷ es) n = by (bytes_eq e.0.text n) (nulls_are es n)
  where
    by : (b : Bool) → option_map_or (λ is_null. is_null) (first_told (λ e. e.0) (λ j e. e.1) (nulls_of es) n) true ≡ is_missing_entry n (entry_trees value_tree es)
        → option_map_or (λ is_null. is_null) (if b then Some (is_null_value (value_tree (content e.1))) else first_told (λ e. e.0) (λ j e. e.1) (nulls_of es) n) true
        ≡ option_map_or (λ v. is_null_value v.it) (if b then Some (record { it = value_tree (content e.1); place = place e.1 }) else given_entry n (entry_trees value_tree es)) true
    by true rest = refl
    by false rest = rest
