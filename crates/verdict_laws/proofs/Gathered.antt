-- What is gathered of each sort is the same of lists that are rearranged.
use Rattle.std.proofs.Common.{◌≡◌, ℕ, Bool, true, false, ◌||◌, cond, List, [], ◌∷◌, ◌++◌, map, filter, find, slice_get, bytes_eq, refl, sym, ap, ◌∙◌, Option, None, Some, option_map, option_to_list, true≢false, if◌then◌else◌}
use Rattle.std.specs.List.{flat_map, list_any}
use Rattle.std.specs.Option.{option_map_or}
use Rattle.std.specs.FinMap as fin
use Rattle.std.specs.FinSet as set
use Rattle.std.specs.Ordering.{eq_by_cmp}
use Rattle.std.specs.Cmp.Lexicographic.{nat_list_cmp_total, texts_ties}
use Rattle.std.proofs.lemmas.List.{map-append}
use Rattle.std.proofs.lemmas.Slice.Eq.{bytes_eq-Decides}
use Rattle.graphql_names.specs.Placed.{Place}
use Rattle.schema_fold.specs.in_components.Lists.{each_place_after, firsts, has_name, is_among}
use Rattle.schema_fold.specs.in_components.Names.{by_bytes}
use Rattle.schema_fold.proofs.in_components.Firsts.{has_name-push, has_name-firsts}
use Rattle.schema_fold.proofs.in_components.NamedEquality.{by_bytes-IsAntisymmetric}
use Rattle.schema_fold.specs.in_definitions.DefinitionTree.{DefinitionTree, unplaced_definition, unplaced_document}
use Rattle.schema_fold.specs.NumberedDefinition.{Definitions}

-- ---- lists

pub every : {X : Type 0} (xs : List X) → filter (λ x. true) xs ≡ xs
every [] = refl
every (x ∷ xs) = ap (λ l. x ∷ l) (every xs)

module _ {X Y : Type 0} (f : X → Y) where
  pub map-filter : (p : X → Bool) (q : Y → Bool) → ((x : X) → q (f x) ≡ p x) → (xs : List X) → filter q (map f xs) ≡ map f (filter p xs)
  map-filter p q same [] = refl
  map-filter p q same (x ∷ xs) = (λ i. cond (same x i) (f x ∷ map-filter p q same xs i) (map-filter p q same xs i)) ∙ by (p x)
    where
      by : (b : Bool) → cond b (f x ∷ map f (filter p xs)) (map f (filter p xs)) ≡ map f (cond b (x ∷ filter p xs) (filter p xs))
      by true = refl
      by false = refl

  -- what passes first is the first of those that pass
  pub find-filter : (test : X → Bool) (xs : List X) → option_map f (find test xs) ≡ slice_get (map f (filter test xs)) 0
  find-filter test [] = refl
  find-filter test (x ∷ xs) = by (test x) (find-filter test xs)
    where
      by : (b : Bool) → option_map f (find test xs) ≡ slice_get (map f (filter test xs)) 0 → option_map f (if b then Some x else find test xs) ≡ slice_get (map f (cond b (x ∷ filter test xs) (filter test xs))) 0
      by true h = refl
      by false h = h

-- ---- the definitions of one sort

module _ {A B : Type 0} (here : DefinitionTree Place → Option A) (here' : DefinitionTree (Unit {0}) → Option B) (blind : A → B)
    (same : (d : DefinitionTree Place) → here' (unplaced_definition d) ≡ option_map blind (here d))
    (test : A → Bool) (sort : DefinitionTree Place → Bool) (sorts : (d : DefinitionTree Place) → sort d ≡ option_map_or test (here d) false) where
  abbrev all_here : Definitions → List A
  all_here ds = flat_map (λ e. option_to_list (here e)) ds

  abbrev of_unplaced : List (DefinitionTree (Unit {0})) → List B
  of_unplaced us = flat_map (λ d. option_to_list (here' d)) us

  pub gathered : (ds : Definitions) → map blind (filter test (all_here ds)) ≡ of_unplaced (unplaced_document (filter sort ds))
  gathered [] = refl
  gathered (d ∷ ds) = by (here d) (same d) (gathered ds) ∙ ap (λ b. of_unplaced (unplaced_document (cond b (d ∷ filter sort ds) (filter sort ds)))) (sym (sorts d))
    where
      by_test : (a : A) (b : Bool) → here' (unplaced_definition d) ≡ Some (blind a) → map blind (filter test (all_here ds)) ≡ of_unplaced (unplaced_document (filter sort ds))
          → map blind (cond b (a ∷ filter test (all_here ds)) (filter test (all_here ds))) ≡ of_unplaced (unplaced_document (cond b (d ∷ filter sort ds) (filter sort ds)))
      by_test a true is h = (λ i. blind a ∷ h i) ∙ ap (λ o. option_to_list o ++ of_unplaced (unplaced_document (filter sort ds))) (sym is)
      by_test a false is h = h

      by : (o : Option A) → here' (unplaced_definition d) ≡ option_map blind o → map blind (filter test (all_here ds)) ≡ of_unplaced (unplaced_document (filter sort ds))
          → map blind (filter test (option_to_list o ++ all_here ds)) ≡ of_unplaced (unplaced_document (cond (option_map_or test o false) (d ∷ filter sort ds) (filter sort ds)))
      by None is h = h
      by (Some a) is h = by_test a (test a) is h

-- all of one sort
module _ {A B : Type 0} (here : DefinitionTree Place → Option A) (here' : DefinitionTree (Unit {0}) → Option B) (blind : A → B)
    (same : (d : DefinitionTree Place) → here' (unplaced_definition d) ≡ option_map blind (here d)) where
  pub all_gathered : (ds : Definitions) → map blind (flat_map (λ d. option_to_list (here d)) ds) ≡ flat_map (λ d. option_to_list (here' d)) (unplaced_document ds)
  all_gathered [] = refl
  all_gathered (d ∷ ds) = map-append blind (option_to_list (here d)) (flat_map (λ d. option_to_list (here d)) ds) ∙ (λ i. (by (here d) ∙ ap option_to_list (sym (same d))) i ++ all_gathered ds i)
    where
      by : (o : Option A) → map blind (option_to_list o) ≡ option_to_list (option_map blind o)
      by None = refl
      by (Some a) = refl

-- ---- the first of each name, as a finite map and as a set

module _ {X : Type 0} (key : X → List ℕ) where
  abbrev called : List ℕ → X → Bool
  called n x = bytes_eq n (key x)

  abbrev kept_from : List X → List X → List X
  kept_from = each_place_after (λ before x. if has_name key (key x) before then [] else x ∷ [])

  find_after : (n : List ℕ) (before xs : List X) → has_name key n before ≡ false → find (called n) (kept_from before xs) ≡ find (called n) xs
  find_after n before [] h = refl
  find_after n before (x ∷ xs) h = by (has_name key (key x) before) refl (bytes_eq n (key x)) refl (λ e. find_after n (before ++ x ∷ []) xs e)
    where
      still : bytes_eq n (key x) ≡ false → has_name key n (before ++ x ∷ []) ≡ false
      still e = has_name-push key n before x ∙ (λ i. h i || e i)

      by : (b : Bool) → has_name key (key x) before ≡ b → (c : Bool) → bytes_eq n (key x) ≡ c
          → (has_name key n (before ++ x ∷ []) ≡ false → find (called n) (kept_from (before ++ x ∷ []) xs) ≡ find (called n) xs)
          → find (called n) ((if b then [] else x ∷ []) ++ kept_from (before ++ x ∷ []) xs) ≡ (if c then Some x else find (called n) xs)
      by true seen true is rest = absurd (true≢false (sym (ap (λ m. has_name key m before) ((bytes_eq-Decides n (key x)).0 is) ∙ seen) ∙ h))
      by true seen false is rest = rest (still is)
      by false new true is rest = ap (λ c. if c then Some x else find (called n) (kept_from (before ++ x ∷ []) xs)) is
      by false new false is rest = ap (λ c. if c then Some x else find (called n) (kept_from (before ++ x ∷ []) xs)) is ∙ rest (still is)

  pub find-firsts : (n : List ℕ) (xs : List X) → find (called n) (firsts key xs) ≡ find (called n) xs
  find-firsts n xs = find_after n [] xs refl

  module _ {V : Type 0} (f : X → V) where
    abbrev entry : X → List ℕ × V
    entry x = (key x, f x)

    pub find-entries : (n : List ℕ) (xs : List X) → fin.find by_bytes n (map entry xs) ≡ option_map f (find (called n) xs)
    find-entries n [] = refl
    find-entries n (x ∷ xs) = (λ i. cond (sym (texts_ties n (key x)) i) (Some (f x)) (find-entries n xs i)) ∙ by (bytes_eq n (key x))
      where
        by : (b : Bool) → cond b (Some (f x)) (option_map f (find (called n) xs)) ≡ option_map f (if b then Some x else find (called n) xs)
        by true = refl
        by false = refl

    pub get-of_firsts : (n : List ℕ) (xs : List X) → fin.get (fin.from_entries {R = by_bytes} (map entry (firsts key xs))) n ≡ option_map f (find (called n) xs)
    get-of_firsts n xs = fin.get-from_entries nat_list_cmp_total (map entry (firsts key xs)) n ∙ find-entries n (firsts key xs) ∙ ap (option_map f) (find-firsts n xs)

    -- in a finite map the later ones of a name count for nothing
    pub map_of_firsts : (xs : List X) → fin.from_entries {R = by_bytes} (map entry (firsts key xs)) ≡ fin.from_entries (map entry xs)
    map_of_firsts xs = fin.same_map nat_list_cmp_total by_bytes-IsAntisymmetric _ _ (λ n.
        get-of_firsts n xs ∙ sym (fin.get-from_entries nat_list_cmp_total (map entry xs) n ∙ find-entries n xs))

  any_ties : (n : List ℕ) (ns : List (List ℕ)) → list_any (eq_by_cmp by_bytes n) ns ≡ is_among n ns
  any_ties n [] = refl
  any_ties n (m ∷ ns) = λ i. sym (texts_ties n m) i || any_ties n ns i

  pub set_of_firsts : (xs : List X) → set.from_list {R = by_bytes} (map key (firsts key xs)) ≡ set.from_list (map key xs)
  set_of_firsts xs = set.same_set nat_list_cmp_total by_bytes-IsAntisymmetric _ _ (λ n.
      set.contains-from_list nat_list_cmp_total (map key (firsts key xs)) n ∙ any_ties n (map key (firsts key xs)) ∙ has_name-firsts key n xs
      ∙ sym (set.contains-from_list nat_list_cmp_total (map key xs) n ∙ any_ties n (map key xs)))
