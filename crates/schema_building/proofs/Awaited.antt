-- Lemmas on the types that are extended and not defined.
use Rattle.std.proofs.Common.{◌≡◌, ℕ, Bool, true, false, not, ◌&&◌, ◌||◌, List, [], ◌∷◌, ◌++◌, map, Some, refl, sym, ap, ◌∙◌, cond, if◌then◌else◌, is_none, is_some, option_to_list}
use Rattle.std.specs.List.{filter, find}
use Rattle.std.specs.Str.{bytes_eq}
use Rattle.std.proofs.lemmas.List.{map-append, append-nil}
use Rattle.std.proofs.lemmas.List.Folds.{list_any-append}
use Rattle.std.proofs.lemmas.Grind.{flat_map-append}
use Rattle.std.proofs.lemmas.Slice.Eq.{bytes_eq-Decides}
use Rattle.graphql_names.specs.Placed.{Place}
use Rattle.schema_components.specs.Lists.{each_place_after, firsts, has_name, is_among}
use Rattle.schema_components.proofs.Firsts.{is_some-firsts}
use Rattle.schema_built_in.specs.in_schema_types.TypeParts.{TypeDefinition, type_here, type_extension_here}
use Rattle.schema_built_in.specs.in_fold.NumberedDefinition.{Definitions, type_name, types_in, type_named}
use Rattle.schema_built_in.specs.in_fold.Adoption.{orphans}
use Rattle.schema_built_in.specs.Table.{built_in_definitions}
use Rattle.schema_fold_index.specs.Index.{IsIndexOf, parts_here, filed_kind}
use Rattle.schema_fold_index.specs.declared.index.Index.{Index}
use Rattle.schema_fold_index.proofs.FiledKinds.{kinds_are, defined_parts}
use Rattle.schema_building.specs.Noted.{named_kind, parts_key, first_kinds, extended_in, defined_in}
use Rattle.schema_building.specs.Waiting.{is_orphan_in, orphan_kinds}

-- ---- the firsts of those whose names pass a test

module _ {X : Type 0} (key : X → List ℕ) (passes : List ℕ → Bool) where
  abbrev kept : List X → List X
  kept xs = filter (λ x. passes (key x)) xs

  abbrev kept_from : List X → List X → List X
  kept_from = each_place_after (λ before x. if has_name key (key x) before then [] else x ∷ [])

  filter_more : (xs : List X) (x : X) (ys : List X) → kept (xs ++ x ∷ ys) ≡ kept xs ++ (if passes (key x) then x ∷ kept ys else kept ys)
  filter_more [] x ys = refl
  filter_more (z ∷ xs) x ys = by (passes (key z)) (filter_more xs x ys)
    where
      by : (b : Bool) → kept (xs ++ x ∷ ys) ≡ kept xs ++ (if passes (key x) then x ∷ kept ys else kept ys)
          → cond b (z ∷ kept (xs ++ x ∷ ys)) (kept (xs ++ x ∷ ys)) ≡ cond b (z ∷ kept xs) (kept xs) ++ (if passes (key x) then x ∷ kept ys else kept ys)
      by true h = ap (λ l. z ∷ l) h
      by false h = h

  -- a name that passes is had by those that pass
  has_name_kept : (n : List ℕ) → passes n ≡ true → (xs : List X) → has_name key n (kept xs) ≡ has_name key n xs
  has_name_kept n pass [] = refl
  has_name_kept n pass (x ∷ xs) = by (passes (key x)) (bytes_eq n (key x)) refl refl (has_name_kept n pass xs)
    where
      by : (p e : Bool) → passes (key x) ≡ p → bytes_eq n (key x) ≡ e → has_name key n (kept xs) ≡ has_name key n xs
          → has_name key n (cond p (x ∷ kept xs) (kept xs)) ≡ (e || has_name key n xs)
      by true e hp he h = ap (λ b. b || has_name key n (kept xs)) he ∙ ap (λ b. e || b) h
      by false true hp he h = let w : true ≡ false = sym pass ∙ ap passes ((bytes_eq-Decides n (key x)).0 he) ∙ hp in absurd cc
      by false false hp he h = h

  seen_kept : (x : X) (rest : List X) (b : Bool) → passes (key x) ≡ true → (if b then [] else x ∷ []) ++ kept rest ≡ kept ((if b then [] else x ∷ []) ++ rest)
  seen_kept x rest true e = refl
  seen_kept x rest false e = ap (λ b. cond b (x ∷ kept rest) (kept rest)) (sym e)

  seen_lost : (x : X) (rest : List X) (b : Bool) → passes (key x) ≡ false → kept rest ≡ kept ((if b then [] else x ∷ []) ++ rest)
  seen_lost x rest true e = refl
  seen_lost x rest false e = ap (λ b. cond b (x ∷ kept rest) (kept rest)) (sym e)

  firsts_after : (before xs : List X) → kept_from (kept before) (kept xs) ≡ kept (kept_from before xs)
  firsts_after before [] = refl
  firsts_after before (x ∷ xs) = by (passes (key x)) refl (firsts_after (before ++ x ∷ []) xs)
    where
      by : (p : Bool) → passes (key x) ≡ p → kept_from (kept (before ++ x ∷ [])) (kept xs) ≡ kept (kept_from (before ++ x ∷ []) xs)
          → kept_from (kept before) (cond p (x ∷ kept xs) (kept xs)) ≡ kept ((if has_name key (key x) before then [] else x ∷ []) ++ kept_from (before ++ x ∷ []) xs)
      by true e h =
          let front : kept (before ++ x ∷ []) ≡ kept before ++ x ∷ [] = filter_more before x [] ∙ ap (λ b. kept before ++ cond b (x ∷ []) []) e in
          ap (λ b. (if b then [] else x ∷ []) ++ kept_from (kept before ++ x ∷ []) (kept xs)) (has_name_kept (key x) e before)
          ∙ ap (λ l. (if has_name key (key x) before then [] else x ∷ []) ++ l) (ap (λ l. kept_from l (kept xs)) (sym front) ∙ h)
          ∙ seen_kept x (kept_from (before ++ x ∷ []) xs) (has_name key (key x) before) e
      by false e h =
          let front : kept (before ++ x ∷ []) ≡ kept before = filter_more before x [] ∙ ap (λ b. kept before ++ cond b (x ∷ []) []) e ∙ append-nil (kept before) in
          ap (λ l. kept_from l (kept xs)) (sym front) ∙ h ∙ seen_lost x (kept_from (before ++ x ∷ []) xs) (has_name key (key x) before) e

  pub firsts-filter : (xs : List X) → firsts key (kept xs) ≡ kept (firsts key xs)
  firsts-filter xs = firsts_after [] xs

filter_map : {X Y : Type 0} (f : X → Y) (p : Y → Bool) (xs : List X) → filter p (map f xs) ≡ map f (filter (λ x. p (f x)) xs)
filter_map f p [] = refl
filter_map f p (x ∷ xs) = by (p (f x)) (filter_map f p xs)
  where
    by : (b : Bool) → filter p (map f xs) ≡ map f (filter (λ y. p (f y)) xs) → cond b (f x ∷ filter p (map f xs)) (filter p (map f xs)) ≡ map f (cond b (x ∷ filter (λ y. p (f y)) xs) (filter (λ y. p (f y)) xs))
    by true h = ap (λ l. f x ∷ l) h
    by false h = h

-- ---- names that are defined

none_found : (n : List ℕ) (ts : List (TypeDefinition Place)) → is_none (find (λ t. bytes_eq n (type_name t)) ts) ≡ not (has_name type_name n ts)
none_found n [] = refl
none_found n (t ∷ ts) = by (bytes_eq n (type_name t)) (none_found n ts)
  where
    by : (b : Bool) → is_none (find (λ x. bytes_eq n (type_name x)) ts) ≡ not (has_name type_name n ts) → is_none (cond b (Some t) (find (λ x. bytes_eq n (type_name x)) ts)) ≡ not (b || has_name type_name n ts)
    by true h = refl
    by false h = h

some_found : (n : List ℕ) (ts : List (TypeDefinition Place)) → is_some (find (λ t. bytes_eq n (type_name t)) ts) ≡ has_name type_name n ts
some_found n [] = refl
some_found n (t ∷ ts) = by (bytes_eq n (type_name t)) (some_found n ts)
  where
    by : (b : Bool) → is_some (find (λ x. bytes_eq n (type_name x)) ts) ≡ has_name type_name n ts → is_some (cond b (Some t) (find (λ x. bytes_eq n (type_name x)) ts)) ≡ (b || has_name type_name n ts)
    by true h = refl
    by false h = h

abbrev pub defines : Definitions → List ℕ → Bool
defines ds n = has_name type_name n (types_in ds)

pub some_named : (n : List ℕ) (ds : Definitions) → is_some (type_named n ds) ≡ defines ds n
some_named n ds = some_found n (types_in ds)

pub none_named : (n : List ℕ) (xs ys : Definitions) → is_none (type_named n (xs ++ ys)) ≡ not (defines xs n || defines ys n)
none_named n xs ys =
    none_found n (types_in (xs ++ ys))
    ∙ ap not (ap (has_name type_name n) (flat_map-append (λ d. option_to_list (type_here d)) xs ys) ∙ ap (is_among n) (map-append type_name (types_in xs) (types_in ys)) ∙ list_any-append (bytes_eq n) (map type_name (types_in xs)) (map type_name (types_in ys)))

keys_defined : (n : List ℕ) (ts : List (TypeDefinition Place)) → has_name parts_key n (map (λ t. t.parts) ts) ≡ has_name type_name n ts
keys_defined n [] = refl
keys_defined n (t ∷ ts) = ap (λ b. bytes_eq n (type_name t) || b) (keys_defined n ts)

neither : (a b : Bool) → (not a && not b) ≡ not (b || a)
neither true true = refl
neither true false = refl
neither false true = refl
neither false false = refl

-- ---- those that wait

module _ (ds : Definitions) (index : Index) (is : IsIndexOf ds index) where
  extended_are : map filed_kind index.extended.entries ≡ first_kinds (extended_in ds)
  extended_are = kinds_are type_extension_here ds index.extended.entries is.1

  defined_are : map filed_kind index.defined.entries ≡ first_kinds (defined_in ds)
  defined_are = kinds_are parts_here ds index.defined.entries is.0 ∙ ap first_kinds (defined_parts ds)

  is_orphan : (n : List ℕ) → is_orphan_in index.defined.entries n ≡ is_none (type_named n (built_in_definitions ++ ds))
  is_orphan n =
      let own = is_some-firsts parts_key filed_kind named_kind (λ k. k.0.it) (λ e. refl) (λ x. refl) n index.defined.entries (defined_in ds) defined_are ∙ keys_defined n (types_in ds) in
      (λ i. not (own i) && not (some_named n built_in_definitions i))
      ∙ neither (defines ds n) (defines built_in_definitions n) ∙ sym (none_named n built_in_definitions ds)

  pub waiting_are : orphan_kinds index ≡ first_kinds (orphans built_in_definitions ds)
  waiting_are =
      let passes : List ℕ → Bool = λ n. is_none (type_named n (built_in_definitions ++ ds)) in
      (λ i. filter (λ k. is_orphan k.0.it i) (extended_are i))
      ∙ filter_map named_kind (λ k. passes k.0.it) (firsts parts_key (extended_in ds))
      ∙ ap (map named_kind) (sym (firsts-filter parts_key passes (extended_in ds)))
