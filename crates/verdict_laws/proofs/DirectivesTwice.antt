-- The definitions of directives of an accepted list, written, folded and written again, are as they were written.
use Rattle.std.proofs.Common.{◌≡◌, ℕ, Bool, true, false, ◌||◌, cond, List, [], ◌∷◌, ◌++◌, map, flat_map, Option, Some, None, refl, sym, ap, subst, ◌∙◌, if◌then◌else◌, append_assoc, option_to_list, true≢false}
use Rattle.std.specs.List.{find}
use Rattle.std.specs.Option.{option_map_or}
use Rattle.std.specs.Str.{bytes_eq}
use Rattle.std.proofs.lemmas.List.{append-nil, map-append}
use Rattle.std.proofs.lemmas.List.Folds.{list_any-append}
use Rattle.std.proofs.lemmas.Grind.{flat_map-append}
use Rattle.std.proofs.lemmas.Slice.Eq.{bytes_eq-Decides}
use Rattle.graphql_names.specs.Places.{is_built_in}
use Rattle.graphql_names.specs.Placed.{Placed, Place}
use Rattle.tree_directives.specs.DirectiveTree.{DirectiveDefinitionTree}
use Rattle.tree_definitions.specs.DefinitionTree.{DirectiveDefinition}
use Rattle.schema_components.specs.Lists.{firsts, has_name, is_among}
use Rattle.schema_components.proofs.Firsts.{has_name-push, has_name-firsts}
use Rattle.schema_types.specs.Out.{written_directive}
use Rattle.schema_fold.specs.NumberedDefinition.{Definitions, directive_here, directive_name, directives_in}
use Rattle.schema_fold.specs.Fold.{chosen_directive, folded_directives}
use Rattle.schema_fold.specs.BuildErrors.{FoldingRules, directive_definition_collision}
use Rattle.verdict_laws.specs.Table.{IsTable, AreOwn}
use Rattle.verdict_laws.proofs.Order.{Each, Each-map, Each-append, AreApart, IsApart, kept, kept-append}
use Rattle.verdict_laws.proofs.Accepted.{Each-firsts}
use Rattle.verdict_laws.proofs.Again.{firsts_after, firsts_apart}
use Rattle.verdict_laws.proofs.TypesTwice.{all_each}

module _ {X : Type 0} (name : X → List ℕ) where
  abbrev this : X → X
  this x = x

  abbrev Unseen : List X → X → Type 0
  Unseen before x = has_name name (name x) before ≡ false

  abbrev following : List X → List X → List X
  following = kept name this

  -- what is apart and unseen is kept
  kept_apart : (before xs : List X) → Each (Unseen before) xs → AreApart name this xs → following before xs ≡ xs
  kept_apart before [] h a = refl
  kept_apart before (x ∷ xs) h a =
      ap (λ b. (if b then [] else x ∷ []) ++ following (before ++ x ∷ []) xs) h.0
      ∙ ap (λ l. x ∷ l) (kept_apart (before ++ x ∷ []) xs (still xs h.1 a.0) a.1)
    where
      still : (ys : List X) → Each (Unseen before) ys → Each (IsApart name this x) ys → Each (Unseen (before ++ x ∷ [])) ys
      still [] u k = tt
      still (y ∷ ys) u k = (has_name-push name (name y) before x ∙ (λ i. u.0 i || k.0.1 i), still ys u.1 k.1)

  pub kept_twice : (before xs : List X) → following before (following before xs) ≡ following before xs
  kept_twice before xs = kept_apart before (following before xs) (firsts_after name before xs).0 (firsts_after name before xs).1

  -- of what stands before the names alone count
  pub kept_same : (before before' xs : List X) → ((n : List ℕ) → has_name name n before ≡ has_name name n before') → following before xs ≡ following before' xs
  kept_same before before' [] h = refl
  kept_same before before' (x ∷ xs) h =
      λ i. (if h (name x) i then [] else x ∷ []) ++ kept_same (before ++ x ∷ []) (before' ++ x ∷ []) xs (λ n. has_name-push name n before x ∙ (λ j. h n j || bytes_eq n (name x)) ∙ sym (has_name-push name n before' x)) i

  -- what has names that stand before is not kept
  pub kept_none : (before xs : List X) → Each (λ x. has_name name (name x) before ≡ true) xs → following before xs ≡ []
  kept_none before [] h = refl
  kept_none before (x ∷ xs) h =
      ap (λ b. (if b then [] else x ∷ []) ++ following (before ++ x ∷ []) xs) h.0
      ∙ kept_none (before ++ x ∷ []) xs (Each-map (λ y k. has_name-push name (name y) before x ∙ ap (λ b. b || bytes_eq (name y) (name x)) k) xs h.1)

  abbrev named : List ℕ → X → Bool
  named n x = bytes_eq n (name x)

  -- each one is the first of its name
  pub finds_itself : (xs : List X) → AreApart name this xs → Each (λ x. find (named (name x)) xs ≡ Some x) xs
  finds_itself [] a = tt
  finds_itself (x ∷ xs) a = (
    ap (λ b. cond b (Some x) (find (named (name x)) xs)) ((bytes_eq-Decides (name x) (name x)).1 refl),
    both xs a.0 (finds_itself xs a.1),
  )
    where
      both : (ys : List X) → Each (IsApart name this x) ys → Each (λ y. find (named (name y)) xs ≡ Some y) ys → Each (λ y. find (named (name y)) (x ∷ xs) ≡ Some y) ys
      both [] k f = tt
      both (y ∷ ys) k f = (ap (λ b. cond b (Some x) (find (named (name y)) xs)) k.0.1 ∙ f.0, both ys k.1 f.1)

abbrev pub Directive : Type 0
Directive = Placed Place (DirectiveDefinitionTree Place)

pub directives_append : (xs ys : Definitions) → directives_in (xs ++ ys) ≡ directives_in xs ++ directives_in ys
directives_append xs ys = flat_map-append (λ d. option_to_list (directive_here d)) xs ys

no_directives_in : (xs : Definitions) → Each (λ d. directive_here d ≡ None) xs → directives_in xs ≡ []
no_directives_in [] h = refl
no_directives_in (d ∷ ds) h = λ i. option_to_list (h.0 i) ++ no_directives_in ds h.1 i

-- what is written of a directive: its definition if it is none of the table's
abbrev own_of : Directive → List Directive
own_of d = if is_built_in d.place then [] else d ∷ []

written_gives : (f : Directive → Directive) (ds : List Directive) → directives_in (flat_map written_directive (map (λ d. (directive_name d, f d)) ds)) ≡ flat_map (λ d. own_of (f d)) ds
written_gives f [] = refl
written_gives f (d ∷ ds) =
    directives_append (written_directive (directive_name d, f d)) (flat_map written_directive (map (λ d. (directive_name d, f d)) ds))
    ∙ (λ i. by (is_built_in (f d).place) i ++ written_gives f ds i)
  where
    by : (b : Bool) → directives_in (if b then [] else DirectiveDefinition (f d).place (f d).it ∷ []) ≡ (if b then [] else f d ∷ [])
    by true = refl
    by false = refl

abbrev pub same : List ℕ → Directive → Bool
same n d = bytes_eq n (directive_name d)

module _ (built_in : Definitions) (first : ℕ) (texts : Definitions) (rules : FoldingRules built_in first texts) where
  abbrev pub table_directives : List Directive
  table_directives = directives_in built_in

  abbrev pub own_directives : List Directive
  own_directives = directives_in texts

  kept_directives : (before rest : Definitions) → texts ≡ before ++ rest → following directive_name (directives_in before) (directives_in rest) ≡ directives_in rest
  kept_directives before [] e = refl
  kept_directives before (d ∷ rest) e = by (directive_here d) refl (kept_directives (before ++ d ∷ []) rest (e ∙ sym (append_assoc before (d ∷ []) rest)))
    where
      more : directives_in (before ++ d ∷ []) ≡ directives_in before ++ (option_to_list (directive_here d) ++ [])
      more = directives_append before (d ∷ [])

      unseen : (x : Directive) → directive_here d ≡ Some x → (b : Bool) → has_name directive_name (directive_name x) (directives_in before) ≡ b → b ≡ false
      unseen x here true h = absurd (rules _ (directive_definition_collision (before, (d, ((rest, e), (x, (here, h, refl)))))))
      unseen x here false h = refl

      by : (o : Option Directive) → directive_here d ≡ o → following directive_name (directives_in (before ++ d ∷ [])) (directives_in rest) ≡ directives_in rest
          → following directive_name (directives_in before) (option_to_list o ++ directives_in rest) ≡ option_to_list o ++ directives_in rest
      by None here h = ap (λ l. following directive_name l (directives_in rest)) (sym (more ∙ ap (λ o. directives_in before ++ (option_to_list o ++ [])) here ∙ append-nil (directives_in before))) ∙ h
      by (Some x) here h =
          ap (λ b. (if b then [] else x ∷ []) ++ following directive_name (directives_in before ++ x ∷ []) (directives_in rest)) (unseen x here (has_name directive_name (directive_name x) (directives_in before)) refl)
          ∙ ap (λ l. x ∷ l) (ap (λ l. following directive_name l (directives_in rest)) (sym (more ∙ ap (λ o. directives_in before ++ (option_to_list o ++ [])) here)) ∙ h)

  own_distinct : firsts directive_name own_directives ≡ own_directives
  own_distinct = kept_directives [] texts refl

  own_apart : AreApart directive_name (λ x. x) own_directives
  own_apart = subst (AreApart directive_name (λ x. x)) own_distinct (firsts_apart directive_name own_directives)

  module _ (table : IsTable built_in) (own : AreOwn texts) where
    abbrev pub all_firsts : List Directive
    all_firsts = firsts directive_name (directives_in (built_in ++ texts))

    abbrev pub chosen : Directive → Directive
    chosen = chosen_directive texts

    -- what is written
    abbrev out_directives : Definitions
    out_directives = flat_map written_directive (folded_directives built_in texts)

    abbrev pub out_own : List Directive
    out_own = flat_map (λ d. own_of (chosen d)) all_firsts

    chosen_name : (d : Directive) → directive_name (chosen d) ≡ directive_name d
    chosen_name d = by own_directives
      where
        by : (xs : List Directive) → directive_name (option_map_or (λ own. own) (find (same (directive_name d)) xs) d) ≡ directive_name d
        by [] = refl
        by (x ∷ xs) = cases (same (directive_name d) x) refl (by xs)
          where
            cases : (b : Bool) → same (directive_name d) x ≡ b → directive_name (option_map_or (λ own. own) (find (same (directive_name d)) xs) d) ≡ directive_name d
                → directive_name (option_map_or (λ own. own) (cond b (Some x) (find (same (directive_name d)) xs)) d) ≡ directive_name d
            cases true e rest = sym ((bytes_eq-Decides (directive_name d) (directive_name x)).0 e)
            cases false e rest = rest

    found_own : (n : List ℕ) (x : Directive) (xs : List Directive) → Each (λ t. is_built_in t.place ≡ false) xs → find (same n) xs ≡ Some x → is_built_in x.place ≡ false
    found_own n x [] h e = absurd cc
    found_own n x (y ∷ ys) h e = by (same n y) refl (found_own n x ys h.1)
      where
        by : (b : Bool) → same n y ≡ b → (find (same n) ys ≡ Some x → is_built_in x.place ≡ false) → is_built_in x.place ≡ false
        by true s rest = let f : Some y ≡ Some x = sym (ap (λ b. cond b (Some y) (find (same n) ys)) s) ∙ e in subst (λ o. option_map_or (λ z. is_built_in z.place) o false ≡ false) f h.0
        by false s rest = rest (sym (ap (λ b. cond b (Some y) (find (same n) ys)) s) ∙ e)

    -- what the texts do not define is the table's
    abbrev pub IsMarkedUnlessOwn : Directive → Type 0
    IsMarkedUnlessOwn d = find (same (directive_name d)) own_directives ≡ None → is_built_in d.place ≡ true

    pub marked_unless_own : Each IsMarkedUnlessOwn all_firsts
    marked_unless_own =
        Each-firsts directive_name IsMarkedUnlessOwn [] (directives_in (built_in ++ texts))
        (subst (Each IsMarkedUnlessOwn) (sym (directives_append built_in texts))
        (Each-append IsMarkedUnlessOwn table_directives own_directives
        (Each-map (λ d m none. m) table_directives (all_each (λ d. is_built_in d.place ≡ true) table_directives table.directives_marked))
        (Each-map (λ d f none. cc) own_directives (finds_itself directive_name own_directives own_apart))))

    -- what is found among what is written
    find_out : (n : List ℕ) (ds : List Directive) → Each IsMarkedUnlessOwn ds → (o : Option Directive) → find (same n) own_directives ≡ o → has_name directive_name n ds ≡ option_map_or (λ x. true) o (has_name directive_name n ds)
        → find (same n) (flat_map (λ d. own_of (chosen d)) ds) ≡ o
    find_out n [] h None e t = refl
    find_out n [] h (Some x) e t = absurd (true≢false (sym t))
    find_out n (d ∷ ds) h o e t = at_name (bytes_eq n (directive_name d)) refl o e t (λ t. find_out n ds h.1 o e t)
      where
        skip : (z : Directive) (rest : List Directive) → bytes_eq n (directive_name z) ≡ false → find (same n) (own_of z ++ rest) ≡ find (same n) rest
        skip z rest s = by (is_built_in z.place)
          where
            by : (b : Bool) → find (same n) ((if b then [] else z ∷ []) ++ rest) ≡ find (same n) rest
            by true = refl
            by false = ap (λ b. cond b (Some z) (find (same n) rest)) s

        at_name : (b : Bool) → bytes_eq n (directive_name d) ≡ b → (o : Option Directive) → find (same n) own_directives ≡ o
            → has_name directive_name n (d ∷ ds) ≡ option_map_or (λ x. true) o (has_name directive_name n (d ∷ ds))
            → (has_name directive_name n ds ≡ option_map_or (λ x. true) o (has_name directive_name n ds) → find (same n) (flat_map (λ d. own_of (chosen d)) ds) ≡ o)
            → find (same n) (own_of (chosen d) ++ flat_map (λ d. own_of (chosen d)) ds) ≡ o
        at_name false s o e t rest =
            skip (chosen d) (flat_map (λ d. own_of (chosen d)) ds) (ap (bytes_eq n) (chosen_name d) ∙ s)
            ∙ rest (sym (ap (λ b. b || has_name directive_name n ds) s) ∙ t ∙ ap (λ (b : Bool). option_map_or (λ x. true) o (b || has_name directive_name n ds)) s)
        at_name true s (Some x) e t rest =
            let here : chosen d ≡ x = ap (λ m. option_map_or (λ own. own) (find (same m) own_directives) d) (sym ((bytes_eq-Decides n (directive_name d)).0 s)) ∙ ap (λ o. option_map_or (λ own. own) o d) e in
            ap (λ z. find (same n) (own_of z ++ flat_map (λ d. own_of (chosen d)) ds)) here
            ∙ ap (λ b. find (same n) ((if b then [] else x ∷ []) ++ flat_map (λ d. own_of (chosen d)) ds)) (found_own n x own_directives (all_each (λ d. is_built_in d.place ≡ false) own_directives own.directives) e)
            ∙ ap (λ b. cond b (Some x) (find (same n) (flat_map (λ d. own_of (chosen d)) ds))) (ap (bytes_eq n) (ap directive_name (sym here) ∙ chosen_name d) ∙ s)
        at_name true s None e t rest =
            let none : find (same (directive_name d)) own_directives ≡ None = ap (λ m. find (same m) own_directives) (sym ((bytes_eq-Decides n (directive_name d)).0 s)) ∙ e in
            ap (λ o. find (same n) (own_of (option_map_or (λ own. own) o d) ++ flat_map (λ d. own_of (chosen d)) ds)) none
            ∙ ap (λ b. find (same n) ((if b then [] else d ∷ []) ++ flat_map (λ d. own_of (chosen d)) ds)) (h.0 none)
            ∙ rest refl

    some_named : (n : List ℕ) (xs : List Directive) (x : Directive) → find (same n) xs ≡ Some x → has_name directive_name n xs ≡ true
    some_named n [] x e = absurd cc
    some_named n (y ∷ ys) x e = by (same n y) refl (some_named n ys x)
      where
        by : (b : Bool) → same n y ≡ b → (find (same n) ys ≡ Some x → has_name directive_name n ys ≡ true) → has_name directive_name n (y ∷ ys) ≡ true
        by true s rest = ap (λ b. b || has_name directive_name n ys) s
        by false s rest = ap (λ b. b || has_name directive_name n ys) s ∙ rest (sym (ap (λ b. cond b (Some y) (find (same n) ys)) s) ∙ e)

    has-append : (n : List ℕ) (xs ys : List Directive) → has_name directive_name n (xs ++ ys) ≡ (has_name directive_name n xs || has_name directive_name n ys)
    has-append n xs ys = ap (is_among n) (map-append directive_name xs ys) ∙ list_any-append (bytes_eq n) (map directive_name xs) (map directive_name ys)

    or_true : (b : Bool) → (b || true) ≡ true
    or_true true = refl
    or_true false = refl

    finds_same : (n : List ℕ) → find (same n) out_own ≡ find (same n) own_directives
    finds_same n = find_out n all_firsts marked_unless_own (find (same n) own_directives) refl (by (find (same n) own_directives) refl)
      where
        by : (o : Option Directive) → find (same n) own_directives ≡ o → has_name directive_name n all_firsts ≡ option_map_or (λ x. true) o (has_name directive_name n all_firsts)
        by None e = refl
        by (Some x) e =
            has_name-firsts directive_name n (directives_in (built_in ++ texts)) ∙ ap (has_name directive_name n) (directives_append built_in texts)
            ∙ has-append n table_directives own_directives ∙ ap (λ b. has_name directive_name n table_directives || b) (some_named n own_directives x e) ∙ or_true (has_name directive_name n table_directives)

    -- the firsts are the table's, and those of the texts that the table has not
    abbrev new_own : List Directive
    new_own = following directive_name table_directives own_directives

    firsts_are : (xs : List Directive) → firsts directive_name (table_directives ++ xs) ≡ table_directives ++ following directive_name table_directives xs
    firsts_are xs = kept-append directive_name (λ x. x) [] table_directives xs ∙ ap (λ l. l ++ following directive_name table_directives xs) table.directives_distinct

    -- a new one is written as it is
    abbrev IsWritten : Directive → Type 0
    IsWritten d = own_of (chosen d) ≡ d ∷ []

    own_written : (xs : List Directive) → Each (λ x. find (same (directive_name x)) own_directives ≡ Some x) xs → Each (λ t. is_built_in t.place ≡ false) xs → Each IsWritten xs
    own_written [] f o = tt
    own_written (x ∷ xs) f o = (ap (λ z. own_of (option_map_or (λ own. own) z x)) f.0 ∙ ap (λ b. if b then [] else x ∷ []) o.0, own_written xs f.1 o.1)

    singles : (xs : List Directive) → Each IsWritten xs → flat_map (λ d. own_of (chosen d)) xs ≡ xs
    singles [] h = refl
    singles (x ∷ xs) h = λ i. h.0 i ++ singles xs h.1 i

    new_written : flat_map (λ d. own_of (chosen d)) new_own ≡ new_own
    new_written =
        singles new_own (Each-firsts directive_name IsWritten table_directives own_directives
        (own_written own_directives (finds_itself directive_name own_directives own_apart) (all_each (λ d. is_built_in d.place ≡ false) own_directives own.directives)))

    -- no two of one name are written
    own_apart_of : (d x : Directive) → IsApart directive_name (λ x. x) d x → IsApart directive_name (λ x. x) (chosen d) (chosen x)
    own_apart_of d x h = ((λ i. bytes_eq (chosen_name d i) (chosen_name x i)) ∙ h.0, (λ i. bytes_eq (chosen_name x i) (chosen_name d i)) ∙ h.1)

    others_apart : (d : Directive) (xs : List Directive) → Each (IsApart directive_name (λ x. x) d) xs → Each (IsApart directive_name (λ x. x) (chosen d)) (flat_map (λ d. own_of (chosen d)) xs)
    others_apart d [] h = tt
    others_apart d (x ∷ xs) h = by (is_built_in (chosen x).place) (others_apart d xs h.1)
      where
        by : (b : Bool) → Each (IsApart directive_name (λ x. x) (chosen d)) (flat_map (λ d. own_of (chosen d)) xs) → Each (IsApart directive_name (λ x. x) (chosen d)) ((if b then [] else chosen x ∷ []) ++ flat_map (λ d. own_of (chosen d)) xs)
        by true rest = rest
        by false rest = (own_apart_of d x h.0, rest)

    all_apart_out : (xs : List Directive) → AreApart directive_name (λ x. x) xs → AreApart directive_name (λ x. x) (flat_map (λ d. own_of (chosen d)) xs)
    all_apart_out [] h = tt
    all_apart_out (x ∷ xs) h = by (is_built_in (chosen x).place) (all_apart_out xs h.1)
      where
        by : (b : Bool) → AreApart directive_name (λ x. x) (flat_map (λ d. own_of (chosen d)) xs) → AreApart directive_name (λ x. x) ((if b then [] else chosen x ∷ []) ++ flat_map (λ d. own_of (chosen d)) xs)
        by true rest = rest
        by false rest = (others_apart x xs h.0, rest)

    all_unseen_of : (xs : List Directive) → Each (Unseen directive_name []) xs
    all_unseen_of [] = tt
    all_unseen_of (x ∷ xs) = (refl, all_unseen_of xs)

    pub out_distinct : firsts directive_name out_own ≡ out_own
    out_distinct = kept_apart directive_name [] out_own (all_unseen_of out_own) (all_apart_out all_firsts (firsts_apart directive_name (directives_in (built_in ++ texts))))

    -- the table's that the texts define have the table's names
    table_names : (xs : List Directive) → Each (λ d. has_name directive_name (directive_name d) table_directives ≡ true) xs → Each (λ d. has_name directive_name (directive_name d) table_directives ≡ true) (flat_map (λ d. own_of (chosen d)) xs)
    table_names [] h = tt
    table_names (x ∷ xs) h = by (is_built_in (chosen x).place) (table_names xs h.1)
      where
        by : (b : Bool) → Each (λ d. has_name directive_name (directive_name d) table_directives ≡ true) (flat_map (λ d. own_of (chosen d)) xs)
            → Each (λ d. has_name directive_name (directive_name d) table_directives ≡ true) ((if b then [] else chosen x ∷ []) ++ flat_map (λ d. own_of (chosen d)) xs)
        by true rest = rest
        by false rest = (ap (λ m. has_name directive_name m table_directives) (chosen_name x) ∙ h.0, rest)

    among_all : (before xs : List Directive) → Each (λ d. has_name directive_name (directive_name d) (before ++ xs) ≡ true) xs
    among_all before [] = tt
    among_all before (x ∷ xs) = (
      has-append (directive_name x) before (x ∷ xs) ∙ ap (λ b. has_name directive_name (directive_name x) before || (b || has_name directive_name (directive_name x) xs)) ((bytes_eq-Decides (directive_name x) (directive_name x)).1 refl)
          ∙ or_true (has_name directive_name (directive_name x) before),
      subst (λ l. Each (λ d. has_name directive_name (directive_name d) l ≡ true) xs) (append_assoc before (x ∷ []) xs) (among_all (before ++ x ∷ []) xs),
    )

    abbrev redefined : List Directive
    redefined = flat_map (λ d. own_of (chosen d)) table_directives

    redefined_named : Each (λ d. has_name directive_name (directive_name d) table_directives ≡ true) redefined
    redefined_named = table_names table_directives (among_all [] table_directives)

    no_new_name : (n : List ℕ) (xs : List Directive) → Each (λ d. has_name directive_name (directive_name d) table_directives ≡ true) xs → (has_name directive_name n table_directives || has_name directive_name n xs) ≡ has_name directive_name n table_directives
    no_new_name n [] h = or_false (has_name directive_name n table_directives)
      where
        or_false : (b : Bool) → (b || false) ≡ b
        or_false true = refl
        or_false false = refl
    no_new_name n (x ∷ xs) h = by (bytes_eq n (directive_name x)) refl (no_new_name n xs h.1)
      where
        by : (b : Bool) → bytes_eq n (directive_name x) ≡ b → (has_name directive_name n table_directives || has_name directive_name n xs) ≡ has_name directive_name n table_directives
            → (has_name directive_name n table_directives || (b || has_name directive_name n xs)) ≡ has_name directive_name n table_directives
        by true e rest = or_true (has_name directive_name n table_directives) ∙ sym (ap (λ m. has_name directive_name m table_directives) ((bytes_eq-Decides n (directive_name x)).0 e) ∙ h.0)
        by false e rest = rest

    kept_same_own : following directive_name table_directives out_own ≡ new_own
    kept_same_own =
        ap (λ l. following directive_name table_directives (flat_map (λ d. own_of (chosen d)) l)) (ap (firsts directive_name) (directives_append built_in texts) ∙ firsts_are own_directives)
        ∙ ap (following directive_name table_directives) (flat_map-append (λ d. own_of (chosen d)) table_directives new_own ∙ ap (λ l. redefined ++ l) new_written)
        ∙ kept-append directive_name (λ x. x) table_directives redefined new_own
        ∙ (λ i. kept_none directive_name table_directives redefined redefined_named i
        ++ (kept_same directive_name (table_directives ++ redefined) table_directives new_own (λ n. has-append n table_directives redefined ∙ no_new_name n redefined redefined_named) ∙ kept_twice directive_name table_directives own_directives) i)

    module _ (before after_it : Definitions) (none_before : Each (λ d. directive_here d ≡ None) before) (none_following : Each (λ d. directive_here d ≡ None) after_it) where
      abbrev again : Definitions
      again = before ++ (out_directives ++ after_it)

      pub again_own : directives_in again ≡ out_own
      again_own =
          directives_append before (out_directives ++ after_it)
          ∙ (λ i. no_directives_in before none_before i ++ (directives_append out_directives after_it ∙ (λ i. written_gives chosen all_firsts i ++ no_directives_in after_it none_following i) ∙ append-nil out_own) i)

      pub directives_twice : folded_directives built_in again ≡ folded_directives built_in texts
      directives_twice =
          ap (λ l. map (λ d. (directive_name d, chosen_directive again d)) (firsts directive_name l)) (directives_append built_in again ∙ ap (λ l. table_directives ++ l) again_own)
          ∙ (λ i. map (λ d. (directive_name d, option_map_or (λ own. own) ((ap (find (same (directive_name d))) again_own ∙ finds_same (directive_name d)) i) d)) ((firsts_are out_own ∙ ap (λ l. table_directives ++ l) kept_same_own ∙ sym (firsts_are own_directives)) i))
          ∙ ap (λ l. map (λ d. (directive_name d, chosen d)) (firsts directive_name l)) (sym (directives_append built_in texts))
