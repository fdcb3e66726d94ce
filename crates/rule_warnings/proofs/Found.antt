-- What is told of what a lookup finds, of two one after the other, and in loops.
use Rattle.std.proofs.Common.{◌≡◌, ℕ, ◌+◌, ◌<◌, ◌≤◌, List, [], ◌∷◌, ◌++◌, length, get_or, map, take, drop, refl, sym, ap, ◌∙◌, Option, None, Some}
use Rattle.std.specs.List.{flat_map}
use Rattle.std.specs.Option.{option_map, option_map_or, option_and_then}
use Rattle.std.proofs.lemmas.List.{take_all, drop_more}
use Rattle.graphql_names.specs.Placed.{Place}
use Rattle.graphql_names.specs.Node.{content}
use Rattle.graphql_names.specs.declared.name.Name.{Name}
use Rattle.graphql_names.specs.declared.node.Node.{Node}
use Rattle.tree_literals.specs.TypeTree.{TypeTree, NamedTree, NonNullNamedTree, ListTree, NonNullListTree, unplaced_type}
use Rattle.tree_literals.specs.TypeQueries.{inner_name}
use Rattle.tree_literals.specs.ValueTree.{value_tree, item_trees, entry_trees}
use Rattle.tree_literals.specs.declared.value.Value.{Value}
use Rattle.tree_directives.specs.DirectiveTree.{unplaced_input_value}
use Rattle.tree_type_members.specs.TypeSystemTree.{unplaced_enum_value}
use Rattle.schema_components.specs.Given.{plain_given}
use Rattle.schema_types.specs.SchemaTree.{SchemaType, SchemaTree}
use Rattle.schema_types.specs.Plain.{plain_type, plain_directive_definition}
use Rattle.schema_types.specs.Looks.{TypeLooks, type_looks}
use Rattle.schema_types.specs.Addresses.{under, type_at, directive_definition_at}
use Rattle.schema_types.proofs.UnderNames.{get_under}
use Rattle.rule_definitions.specs.Judged.{Judged, judged}
use Rattle.rule_definitions.specs.Room.{◌⊕◌}
use Rattle.rule_definitions.proofs.Room.{room_both, room_flat_map}
use Rattle.rule_definitions.proofs.Listing.{mapped_more}
use Rattle.rule_warnings.specs.Deprecated.{DeprecatedUse, enum_value, input_field}
use Rattle.rule_warnings.specs.Told.{value_uses, item_uses, entry_uses}
use Rattle.rule_warnings.specs.Telling.{entry_uses_of}

-- ---- what a lookup finds

module _ {A X : Type 0} (f : X → List A) (old : List A) where
  pub nothing_told : (o : Option X) → o ≡ None → old ≡ old ⊕ option_map_or f o []
  nothing_told o is = ap (λ p. old ⊕ option_map_or f p []) (sym is)

  pub found_told : (o : Option X) (x : X) (new : List A) → o ≡ Some x → new ≡ old ⊕ f x → new ≡ old ⊕ option_map_or f o []
  found_told o x new is told = told ∙ ap (λ p. old ⊕ option_map_or f p []) (sym is)

-- two one after the other
pub both_told : {A : Type 0} (old mid new l m k n : List A) → mid ≡ old ⊕ l → new ≡ mid ⊕ m → l ≡ k → m ≡ n → new ≡ old ⊕ (k ++ n)
both_told old mid new l m k n one two same same' = two ∙ (λ i. (one ∙ ap (λ x. old ⊕ x) same) i ⊕ same' i) ∙ room_both old k n

-- ---- loops

module _ {A X Y : Type 0} (tree : X → Y) (f : Y → List A) (old : List A) (xs : List X) (i : ℕ) where
  pub told_more : (now new : List A) (x : X) → i < length xs → x ≡ get_or xs i x → now ≡ old ⊕ flat_map f (map tree (take i xs)) → new ≡ now ⊕ f (tree x)
      → new ≡ old ⊕ flat_map f (map tree (take (i + 1) xs))
  told_more now new x h at so_far told =
      told ∙ ap (λ l. l ⊕ f (tree x)) so_far ∙ room_flat_map f old (map tree (take i xs)) (tree x) ∙ ap (λ l. old ⊕ flat_map f l) (sym (mapped_more tree xs i x h at))

  pub told_all : (now : List A) → length xs ≤ i → now ≡ old ⊕ flat_map f (map tree (take i xs)) → now ≡ old ⊕ flat_map f (map tree xs)
  told_all now h is = is ∙ ap (λ l. old ⊕ flat_map f (map tree l)) (take_all i xs h)

-- those that are left of a list
pub left_told : {A X : Type 0} (f : X → List A) (before after : List A) (x : X) (left rest : List X) (all : List A) → left ≡ x ∷ rest → after ≡ before ⊕ f x → all ≡ before ⊕ flat_map f left → all ≡ after ⊕ flat_map f rest
left_told f before after x left rest all is told so_far = so_far ∙ ap (λ l. before ⊕ flat_map f l) is ∙ sym (room_both before (f x) (flat_map f rest)) ∙ ap (λ l. l ⊕ flat_map f rest) (sym told)

module _ (s : Judged) (ty : List ℕ) where
  module _ (xs : List (Node Value)) (i : ℕ) (x : Node Value) (inside : i < length xs) (is : x ≡ get_or xs i x) where
    items_on : item_uses s ty (item_trees value_tree (drop i xs)) ≡ value_uses s ty (value_tree (content x)) ++ item_uses s ty (item_trees value_tree (drop (i + 1) xs))
    items_on =
        ap (λ l. item_uses s ty (item_trees value_tree l)) (drop_more xs i x inside)
        ∙ ap (λ (y : Node Value). value_uses s ty (value_tree (content y)) ++ item_uses s ty (item_trees value_tree (drop (i + 1) xs))) (sym is)

    pub items_more : (all before after : List (DeprecatedUse Place)) → after ≡ before ⊕ value_uses s ty (value_tree (content x))
        → all ≡ before ⊕ item_uses s ty (item_trees value_tree (drop i xs)) → all ≡ after ⊕ item_uses s ty (item_trees value_tree (drop (i + 1) xs))
    items_more all before after told so_far =
        let rest = item_uses s ty (item_trees value_tree (drop (i + 1) xs)) in
        so_far ∙ ap (λ l. before ⊕ l) items_on ∙ sym (room_both before (value_uses s ty (value_tree (content x))) rest) ∙ ap (λ l. l ⊕ rest) (sym told)

  module _ (xs : List (Name × Node Value)) (i : ℕ) (x : Name × Node Value) (inside : i < length xs) (is : x ≡ get_or xs i x) where
    entries_on : entry_uses s ty (entry_trees value_tree (drop i xs)) ≡ entry_uses_of s ty x ++ entry_uses s ty (entry_trees value_tree (drop (i + 1) xs))
    entries_on =
        ap (λ l. entry_uses s ty (entry_trees value_tree l)) (drop_more xs i x inside)
        ∙ ap (λ (y : Name × Node Value). entry_uses_of s ty y ++ entry_uses s ty (entry_trees value_tree (drop (i + 1) xs))) (sym is)

    pub entries_more : (all before after : List (DeprecatedUse Place)) → after ≡ before ⊕ entry_uses_of s ty x
        → all ≡ before ⊕ entry_uses s ty (entry_trees value_tree (drop i xs)) → all ≡ after ⊕ entry_uses s ty (entry_trees value_tree (drop (i + 1) xs))
    entries_more all before after told so_far =
        let rest = entry_uses s ty (entry_trees value_tree (drop (i + 1) xs)) in
        so_far ∙ ap (λ l. before ⊕ l) entries_on ∙ sym (room_both before (entry_uses_of s ty x) rest) ∙ ap (λ l. l ⊕ rest) (sym told)

-- ---- definitions in a schema

pub inner_unplaced : (ty : TypeTree Place) → (inner_name (unplaced_type ty)).it ≡ (inner_name ty).it
inner_unplaced (NamedTree n) = refl
inner_unplaced (NonNullNamedTree n) = refl
inner_unplaced (ListTree t) = inner_unplaced t
inner_unplaced (NonNullListTree t) = inner_unplaced t

pub directive_there : (s : SchemaTree Place) (n : List ℕ) → (judged s).directive n ≡ option_map plain_directive_definition (directive_definition_at s n)
directive_there s n = get_under plain_directive_definition n s.directives

module _ (s : SchemaTree Place) (n m : List ℕ) where
  type_under : (judged s).type_named n ≡ option_map type_looks (option_map plain_type (type_at s n))
  type_under = ap (option_map type_looks) (get_under plain_type n s.types)

  pub no_value : type_at s n ≡ None → enum_value (judged s) n m ≡ None
  no_value none = ap (option_and_then (λ (t : TypeLooks). t.value m)) (type_under ∙ ap (λ o. option_map type_looks (option_map plain_type o)) none)

  pub no_input : type_at s n ≡ None → input_field (judged s) n m ≡ None
  no_input none = ap (option_and_then (λ (t : TypeLooks). t.input m)) (type_under ∙ ap (λ o. option_map type_looks (option_map plain_type o)) none)

  module _ (t : SchemaType Place) (there : type_at s n ≡ Some t) where
    pub value_there : enum_value (judged s) n m ≡ option_map (plain_given unplaced_enum_value) (under m t.values)
    value_there =
        ap (option_and_then (λ (t : TypeLooks). t.value m)) (type_under ∙ ap (λ o. option_map type_looks (option_map plain_type o)) there)
        ∙ get_under (plain_given unplaced_enum_value) m t.values

    pub input_there : input_field (judged s) n m ≡ option_map (plain_given unplaced_input_value) (under m t.inputs)
    input_there =
        ap (option_and_then (λ (t : TypeLooks). t.input m)) (type_under ∙ ap (λ o. option_map type_looks (option_map plain_type o)) there)
        ∙ get_under (plain_given unplaced_input_value) m t.inputs
