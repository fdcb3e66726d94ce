-- Trees instead of contents do not change which components come first.
use Rattle.std.proofs.Common.{◌≡◌, ℕ, Bool, true, false, List, [], ◌∷◌, ◌++◌, map, refl, sym, ap, ◌∙◌, if◌then◌else◌}
use Rattle.std.proofs.lemmas.List.{map-append}
use Rattle.indexmap.specs.IndexMap.{IndexMap}
use Rattle.graphql_names.specs.NameValue.{NameValue}
use Rattle.graphql_names.specs.Placed.{Placed, Place}
use Rattle.schema_types.specs.in_components.Lists.{each_place_after, firsts, repeats, has_name, is_among}
use Rattle.schema_types.specs.in_components.Names.{entries_of}
use Rattle.schema_types.specs.in_components.Given.{Given, component_tree}
use Rattle.schema_types.specs.in_components.declared.component.Component.{Component}
use Rattle.schema_types.specs.TypeView.{name_text}
use Rattle.schema_fold.specs.Components.{keyed_firsts}
use Rattle.schema_fold.specs.BuildErrors.{BuildFault}
use Rattle.schema_fold.specs.FaultView.{repeat_breach}
use Rattle.schema_fold.specs.Keeping.{content_key, component_fault}
use Rattle.schema_fold.specs.PartsView.{itself, given_contents}
use Rattle.schema_fold.specs.declared.build_error.Repeat.{Repeat}
use Rattle.schema_fold.proofs.Collecting.{grown, trees_grown}

module _ {X Y : Type 0} (h : X → Y) (key : Y → List ℕ) where
  abbrev inner : X → List ℕ
  inner x = key (h x)

  names_grown : (xs : List X) → map key (map h xs) ≡ map inner xs
  names_grown [] = refl
  names_grown (x ∷ xs) = ap (λ l. key (h x) ∷ l) (names_grown xs)

  has_grown : (n : List ℕ) (xs : List X) → has_name key n (map h xs) ≡ has_name inner n xs
  has_grown n xs = ap (is_among n) (names_grown xs)

  abbrev seen_first : (before : List Y) (y : Y) → List Y
  seen_first before y = if has_name key (key y) before then [] else y ∷ []

  abbrev seen_first_inner : (before : List X) (x : X) → List X
  seen_first_inner before x = if has_name inner (inner x) before then [] else x ∷ []

  map_if : (b : Bool) (xs ys : List X) → map h (if b then xs else ys) ≡ (if b then map h xs else map h ys)
  map_if true xs ys = refl
  map_if false xs ys = refl

  firsts_after : (before xs : List X) → each_place_after seen_first (map h before) (map h xs) ≡ map h (each_place_after seen_first_inner before xs)
  firsts_after before [] = refl
  firsts_after before (x ∷ xs) =
      (λ i. (if has_grown (key (h x)) before i then [] else h x ∷ []) ++ each_place_after seen_first (sym (map-append h before (x ∷ [])) i) (map h xs))
      ∙ (λ i. sym (map_if (has_name inner (inner x) before) [] (x ∷ [])) i ++ firsts_after (before ++ x ∷ []) xs i)
      ∙ sym (map-append h (seen_first_inner before x) (each_place_after seen_first_inner (before ++ x ∷ []) xs))

  pub firsts_grown : (xs : List X) → firsts key (map h xs) ≡ map h (firsts inner xs)
  firsts_grown xs = firsts_after [] xs

  abbrev seen_again : (before : List Y) (y : Y) → List Y
  seen_again before y = if has_name key (key y) before then y ∷ [] else []

  abbrev seen_again_inner : (before : List X) (x : X) → List X
  seen_again_inner before x = if has_name inner (inner x) before then x ∷ [] else []

  repeats_after : (before xs : List X) → each_place_after seen_again (map h before) (map h xs) ≡ map h (each_place_after seen_again_inner before xs)
  repeats_after before [] = refl
  repeats_after before (x ∷ xs) =
      (λ i. (if has_grown (key (h x)) before i then h x ∷ [] else []) ++ each_place_after seen_again (sym (map-append h before (x ∷ [])) i) (map h xs))
      ∙ (λ i. sym (map_if (has_name inner (inner x) before) (x ∷ []) []) i ++ repeats_after (before ++ x ∷ []) xs i)
      ∙ sym (map-append h (seen_again_inner before x) (each_place_after seen_again_inner (before ++ x ∷ []) xs))

  pub repeats_grown : (xs : List X) → repeats key (map h xs) ≡ map h (repeats inner xs)
  repeats_grown xs = repeats_after [] xs

  abbrev pub under_key : Y → List ℕ × Y
  under_key y = (key y, y)

  abbrev pub under_inner : X → List ℕ × X
  under_inner x = (inner x, x)

  abbrev pub entry_grown : List ℕ × X → List ℕ × Y
  entry_grown w = (w.0, h w.1)

  keyed_map : (ys : List X) → map under_key (map h ys) ≡ map entry_grown (map under_inner ys)
  keyed_map [] = refl
  keyed_map (y ∷ ys) = ap (λ l. (key (h y), h y) ∷ l) (keyed_map ys)

  pub keyed_grown : (xs : List X) → keyed_firsts key (map h xs) ≡ map entry_grown (keyed_firsts inner xs)
  keyed_grown xs = ap (map under_key) (firsts_grown xs) ∙ keyed_map (firsts inner xs)

  pub told_grown : (note : Y → BuildFault) (xs : List X) → map note (repeats key (map h xs)) ≡ map (λ x. note (h x)) (repeats inner xs)
  told_grown note xs = ap (map note) (repeats_grown xs) ∙ map_map note (repeats inner xs)
    where
      map_map : (note : Y → BuildFault) (ys : List X) → map note (map h ys) ≡ map (λ x. note (h x)) ys
      map_map note [] = refl
      map_map note (y ∷ ys) = ap (λ l. note (h y) ∷ l) (map_map note ys)

module _ {A B : Type 0} (f : A → B) where
  abbrev tree_entry : NameValue × Component A → List ℕ × Given Place (Placed Place B)
  tree_entry e = (name_text e.0, component_tree f e.1)

  abbrev content_entry : NameValue × Component A → List ℕ × Given Place (Placed Place A)
  content_entry e = (name_text e.0, component_tree itself e.1)

  abbrev grown_entry : List ℕ × Given Place (Placed Place A) → List ℕ × Given Place (Placed Place B)
  grown_entry w = (w.0, grown f w.1)

  entries_map : (es : List (NameValue × Component A)) → map tree_entry es ≡ map grown_entry (map content_entry es)
  entries_map [] = refl
  entries_map (e ∷ es) = ap (λ l. (name_text e.0, component_tree f e.1) ∷ l) (entries_map es)

  -- what is kept, as trees
  pub kept_trees : {S : Type 0} (name : A → NameValue) (key : Given Place (Placed Place B) → List ℕ) (same : content_key name ≡ (λ g. key (grown f g))) (m : IndexMap NameValue (Component A) S) (items : List (Component A))
      → entries_of name_text (component_tree itself) m ≡ keyed_firsts (content_key name) (given_contents items) → entries_of name_text (component_tree f) m ≡ keyed_firsts key (map (component_tree f) items)
  kept_trees name key same m items is =
      entries_map m.entries ∙ ap (map grown_entry) (is ∙ ap (λ k. keyed_firsts k (given_contents items)) same)
      ∙ sym (keyed_grown (grown f) key (given_contents items)) ∙ ap (keyed_firsts key) (sym (trees_grown f items))

  -- what is told, as trees
  pub told_trees : (name : A → NameValue) (key : Given Place (Placed Place B) → List ℕ) (same : content_key name ≡ (λ g. key (grown f g))) (repeat : Repeat) (type_name : List ℕ) (items : List (Component A))
      → map (component_fault name repeat type_name) (repeats (content_key name) (given_contents items)) ≡ map (λ g. record { place = g.it.place; breach = repeat_breach repeat type_name (key g) }) (repeats key (map (component_tree f) items))
  told_trees name key same repeat type_name items =
      (λ i. map (λ g. record { place = g.it.place; breach = repeat_breach repeat type_name (same i g) }) (repeats (same i) (given_contents items)))
      ∙ sym (told_grown (grown f) key (λ g. record { place = g.it.place; breach = repeat_breach repeat type_name (key g) }) (given_contents items))
      ∙ ap (λ l. map (λ g. record { place = g.it.place; breach = repeat_breach repeat type_name (key g) }) (repeats key l)) (sym (trees_grown f items))
