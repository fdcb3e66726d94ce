-- What loops over entries give in all.
use Rattle.std.proofs.Common.{◌≡◌, ℕ, ◌+◌, ◌<◌, false, ◌||◌, List, [], ◌∷◌, ◌++◌, length, get_or, drop, map, flat_map, refl, sym, ap, ◌∙◌, if◌then◌else◌}
use Rattle.std.specs.List.{IsDistinct, AllByRecursion}
use Rattle.std.specs.Map.{keys_of}
use Rattle.std.proofs.lemmas.List.{drop_more}
use Rattle.graphql_names.specs.Node.{content, place}
use Rattle.graphql_names.specs.NameValue.{NameValue}
use Rattle.graphql_names.specs.Placed.{Place}
use Rattle.graphql_names.specs.declared.node.Node.{Node}
use Rattle.tree_literals.specs.ValueTree.{value_tree, item_trees}
use Rattle.tree_literals.specs.TypeTree.{TypeTree}
use Rattle.tree_literals.specs.declared.value.Value.{Value}
use Rattle.schema_components.specs.Names.{same_text}
use Rattle.graphql_schema.specs.in_schema_types.SchemaTree.{SchemaTree}
use Rattle.graphql_schema.specs.in_schema_types.TypeView.{name_text}
use Rattle.fault_data.specs.Room.{◌⊕◌}
use Rattle.fault_data.specs.in_rule_definitions.GivenValues.{Variables}
use Rattle.fault_data.specs.in_rule_definitions.PlacedFaults.{PlacedFault}
use Rattle.fault_data.proofs.Room.{room_both}
use Rattle.rule_values.specs.ValueFaults.{is_key, each_first, item_faults, type_faults}

-- ---- entries of a map: where names differ each is the first of its name

module _ {X V Y : Type 0} (f : List ℕ → V → List Y) (g : X → V) where
  abbrev each : List (NameValue × X) → List Y
  each es = flat_map (λ (e : NameValue × X). f e.0.text (g e.1)) es

  each_after : (before : List (List ℕ)) (es : List (NameValue × X)) → IsDistinct (same_text name_text) (keys_of es) → AllByRecursion (λ k. is_key k.text before ≡ false) (keys_of es)
      → each_first f before (map (λ e. (name_text e.0, g e.1)) es) ≡ each es
  unfolding IsDistinct
  each_after before [] unique new = refl
  each_after before (e ∷ es) unique new =
      (λ i. (if new.0 i then [] else f e.0.text (g e.1)) ++ each_first f (e.0.text ∷ before) (map (λ e. (name_text e.0, g e.1)) es))
      ∙ ap (λ l. f e.0.text (g e.1) ++ l) (each_after (e.0.text ∷ before) es unique.1 (further (keys_of es) unique.0 new.1))
    where
      further : (ks : List NameValue) → AllByRecursion (λ k. same_text name_text e.0 k ≡ false) ks → AllByRecursion (λ k. is_key k.text before ≡ false) ks → AllByRecursion (λ k. is_key k.text (e.0.text ∷ before) ≡ false) ks
      further [] other new = tt
      further (k ∷ ks) other new = (ap (λ b. b || is_key k.text before) other.0 ∙ new.0, further ks other.1 new.1)

  pub each_first_all : (es : List (NameValue × X)) → IsDistinct (same_text name_text) (keys_of es) → each_first f [] (map (λ e. (name_text e.0, g e.1)) es) ≡ each es
  each_first_all es unique = each_after [] es unique (all_new (keys_of es))
    where
      all_new : (ks : List NameValue) → AllByRecursion (λ k. is_key k.text [] ≡ false) ks
      all_new [] = tt
      all_new (k ∷ ks) = (refl, all_new ks)

-- ---- items of a list by index

module _ (s : SchemaTree Place) (variables : Variables Place) (ty : TypeTree Place) (q : Place) (xs : List (Node Value)) (i : ℕ) (x : Node Value) (inside : i < length xs) (is : x ≡ get_or xs i x) where
  -- the faults of what is left, one step on
  items_on : item_faults s variables ty q (item_trees value_tree (drop i xs))
      ≡ type_faults s variables ty q (place x) (value_tree (content x)) ++ item_faults s variables ty q (item_trees value_tree (drop (i + 1) xs))
  items_on =
      ap (λ l. item_faults s variables ty q (item_trees value_tree l)) (drop_more xs i x inside)
      ∙ ap (λ (y : Node Value). type_faults s variables ty q (place y) (value_tree (content y)) ++ item_faults s variables ty q (item_trees value_tree (drop (i + 1) xs))) (sym is)

  pub items_more : (all before after : List PlacedFault) → after ≡ before ⊕ type_faults s variables ty q (place x) (value_tree (content x))
      → all ≡ before ⊕ item_faults s variables ty q (item_trees value_tree (drop i xs)) → all ≡ after ⊕ item_faults s variables ty q (item_trees value_tree (drop (i + 1) xs))
  items_more all before after told so_far =
      let rest = item_faults s variables ty q (item_trees value_tree (drop (i + 1) xs)) in
      so_far ∙ ap (λ l. before ⊕ l) items_on ∙ sym (room_both before (type_faults s variables ty q (place x) (value_tree (content x))) rest)
      ∙ ap (λ l. l ⊕ rest) (sym told)
