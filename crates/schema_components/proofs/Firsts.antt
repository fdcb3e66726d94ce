-- Lemmas on the first of each name.
use Rattle.std.proofs.Common.{◌≡◌, ℕ, Bool, true, false, ◌||◌, List, [], ◌∷◌, ◌++◌, map, refl, sym, ap, ◌∙◌, cond, if◌then◌else◌, is_some}
use Rattle.std.specs.List.{list_any}
use Rattle.std.specs.Str.{bytes_eq}
use Rattle.std.specs.Map.{keys_of, lookup}
use Rattle.std.proofs.lemmas.Map.Made.{is_some-lookup}
use Rattle.std.proofs.lemmas.List.{append_assoc, append-nil, map-append}
use Rattle.std.proofs.lemmas.List.Folds.{list_any-append}
use Rattle.std.proofs.lemmas.Slice.Eq.{bytes_eq-Decides}
use Rattle.tree_literals.specs.in_names.NameValue.{NameValue}
use Rattle.schema_components.specs.Lists.{each_place_after, firsts, has_name, is_among}
use Rattle.schema_components.proofs.Places.{each_place-push}

or_assoc : (a b c : Bool) → ((a || b) || c) ≡ (a || (b || c))
or_assoc true b c = refl
or_assoc false b c = refl

or-false : (b : Bool) → (b || false) ≡ b
or-false true = refl
or-false false = refl

-- a name that is that of an element is found where the element's name is
found_too : (n m : List ℕ) (ns : List (List ℕ)) → is_among m ns ≡ true → (is_among n ns || bytes_eq n m) ≡ is_among n ns
found_too n m ns h = by (bytes_eq n m) refl
  where
    by : (b : Bool) → bytes_eq n m ≡ b → (is_among n ns || b) ≡ is_among n ns
    by true e = let same : is_among n ns ≡ true = ap (λ t. is_among t ns) ((bytes_eq-Decides n m).0 e) ∙ h in ap (λ c. c || true) same ∙ sym same
    by false e = or-false (is_among n ns)

module _ {X : Type 0} (name : X → List ℕ) where
  pub has_name-push : (n : List ℕ) (before : List X) (x : X) → has_name name n (before ++ x ∷ []) ≡ (has_name name n before || bytes_eq n (name x))
  has_name-push n before x =
      ap (is_among n) (map-append name before (x ∷ [])) ∙ list_any-append (bytes_eq n) (map name before) (name x ∷ [])
      ∙ ap (λ b. has_name name n before || b) (or-false (bytes_eq n (name x)))

  abbrev first_here : List X → X → List X
  first_here before x = if has_name name (name x) before then [] else x ∷ []

  abbrev kept_from : List X → List X → List X
  kept_from = each_place_after first_here

  kept_after : (n : List ℕ) (before xs : List X) → (has_name name n before || has_name name n (kept_from before xs)) ≡ has_name name n (before ++ xs)
  kept_after n before [] = or-false (has_name name n before) ∙ ap (λ l. has_name name n l) (sym (append-nil before))
  kept_after n before (x ∷ xs) = by (has_name name (name x) before) refl ∙ kept_after n (before ++ x ∷ []) xs ∙ ap (λ l. has_name name n l) (append_assoc before (x ∷ []) xs)
    where
      by : (b : Bool) → has_name name (name x) before ≡ b
          → (has_name name n before || has_name name n ((if b then [] else x ∷ []) ++ kept_from (before ++ x ∷ []) xs)) ≡ (has_name name n (before ++ x ∷ []) || has_name name n (kept_from (before ++ x ∷ []) xs))
      by true e = ap (λ b. b || has_name name n (kept_from (before ++ x ∷ []) xs)) (sym (has_name-push n before x ∙ found_too n (name x) (map name before) e))
      by false e = sym (or_assoc (has_name name n before) (bytes_eq n (name x)) (has_name name n (kept_from (before ++ x ∷ []) xs))) ∙ ap (λ b. b || has_name name n (kept_from (before ++ x ∷ []) xs)) (sym (has_name-push n before x))

  -- the firsts have the names that all have
  pub has_name-firsts : (n : List ℕ) (xs : List X) → has_name name n (firsts name xs) ≡ has_name name n xs
  has_name-firsts n xs = kept_after n [] xs

  pub firsts-push_new : (xs : List X) (x : X) → has_name name (name x) xs ≡ false → firsts name (xs ++ x ∷ []) ≡ firsts name xs ++ x ∷ []
  firsts-push_new xs x h = each_place-push first_here xs x ∙ ap (λ b. firsts name xs ++ cond b [] (x ∷ [])) h

  pub firsts-push_seen : (xs : List X) (x : X) → has_name name (name x) xs ≡ true → firsts name (xs ++ x ∷ []) ≡ firsts name xs
  firsts-push_seen xs x h = each_place-push first_here xs x ∙ ap (λ b. firsts name xs ++ cond b [] (x ∷ [])) h ∙ append-nil (firsts name xs)

  -- a map that holds the firsts, where an entry is seen as `view` says and an element as `made` says, both under their names
  module _ {V W : Type 0} (view : NameValue × V → W) (made : X → W) (key : W → List ℕ) (key-view : (e : NameValue × V) → key (view e) ≡ e.0.text) (key-made : (x : X) → key (made x) ≡ name x) where
    any_key : (n : List ℕ) (es : List (NameValue × V)) → list_any (λ k. bytes_eq n k.text) (keys_of es) ≡ is_among n (map key (map view es))
    any_key n [] = refl
    any_key n (e ∷ es) = ap (λ m. bytes_eq n m || list_any (λ k. bytes_eq n k.text) (keys_of es)) (sym (key-view e)) ∙ ap (λ b. bytes_eq n (key (view e)) || b) (any_key n es)

    keys_made : (xs : List X) → map key (map made xs) ≡ map name xs
    keys_made [] = refl
    keys_made (x ∷ xs) = ap (λ m. m ∷ map key (map made xs)) (key-made x) ∙ ap (λ l. name x ∷ l) (keys_made xs)

    -- what a lookup in the map answers
    pub is_some-firsts : (n : List ℕ) (es : List (NameValue × V)) (xs : List X) → map view es ≡ map made (firsts name xs) → is_some (lookup (λ k. bytes_eq n k.text) es) ≡ has_name name n xs
    is_some-firsts n es xs is =
        is_some-lookup (λ k. bytes_eq n k.text) es ∙ any_key n es ∙ ap (λ l. is_among n (map key l)) is
        ∙ ap (is_among n) (keys_made (firsts name xs)) ∙ has_name-firsts n xs

    -- a turn that meets a name again
    pub kept_seen : (es : List (NameValue × V)) (xs : List X) (x : X) → map view es ≡ map made (firsts name xs) → is_some (lookup (λ k. bytes_eq (name x) k.text) es) ≡ true
        → map view es ≡ map made (firsts name (xs ++ x ∷ []))
    kept_seen es xs x is there = is ∙ ap (map made) (sym (firsts-push_seen xs x (sym (is_some-firsts (name x) es xs is) ∙ there)))

    -- a turn that meets a new name
    pub kept_new : (es : List (NameValue × V)) (xs : List X) (x : X) (new : List W) → map view es ≡ map made (firsts name xs) → is_some (lookup (λ k. bytes_eq (name x) k.text) es) ≡ false
        → new ≡ map view es ++ made x ∷ [] → new ≡ map made (firsts name (xs ++ x ∷ []))
    kept_new es xs x new is absent added =
        added ∙ ap (λ l. l ++ made x ∷ []) is
        ∙ sym (ap (map made) (firsts-push_new xs x (sym (is_some-firsts (name x) es xs is) ∙ absent)) ∙ map-append made (firsts name xs) (x ∷ []))
