-- Lemmas on the numbers of extensions.
use Rattle.std.proofs.Common.{◌≡◌, ℕ, ◌+◌, Bool, true, false, ◌||◌, List, [], ◌∷◌, ◌++◌, map, length, None, Some, refl, sym, ap, ◌∙◌, cond, if◌then◌else◌, arith}
use Rattle.std.specs.List.{filter, list_any}
use Rattle.std.proofs.lemmas.List.{append_assoc, append-nil}
use Rattle.graphql_names.specs.Placed.{Place}
use Rattle.schema_built_in.specs.in_definitions.DefinitionTree.{DefinitionTree}
use Rattle.schema_built_in.specs.in_definitions.Queries.{is_extension, definition_place}
use Rattle.schema_components.specs.Lists.{each_place_after}
use Rattle.schema_built_in.specs.in_fold.NumberedDefinition.{Definitions, NumberedDefinition, listed_after, numbered, definitions_of}
use Rattle.schema_building.specs.Numbers.{extension_count}
use Rattle.schema_building.specs.Settling.{unnumbered}

-- numbers change no definition
definitions_after : (first : ℕ) (before ds : Definitions) → definitions_of (each_place_after (λ b d. listed_after first b d ∷ []) before ds) ≡ ds
definitions_after first before [] = refl
definitions_after first before (d ∷ ds) = ap (λ l. d ∷ l) (definitions_after first (before ++ d ∷ []) ds)

pub definitions_numbered : (first : ℕ) (ds : Definitions) → definitions_of (numbered first ds) ≡ ds
definitions_numbered first ds = definitions_after first [] ds

pub count_append : (xs ys : Definitions) → extension_count (xs ++ ys) ≡ extension_count xs + extension_count ys
count_append [] ys = omega arith
count_append (x ∷ xs) ys = by (is_extension x) (count_append xs ys)
  where
    by : (b : Bool) → extension_count (xs ++ ys) ≡ extension_count xs + extension_count ys
        → length (cond b (x ∷ filter is_extension (xs ++ ys)) (filter is_extension (xs ++ ys))) ≡ length (cond b (x ∷ filter is_extension xs) (filter is_extension xs)) + extension_count ys
    by true h = omega (arith, h)
    by false h = h

-- of one that is an extension, and of one that is none
pub count_one : (d : DefinitionTree Place) → is_extension d ≡ true → extension_count (d ∷ []) ≡ 1
count_one d h = ap (λ b. length (cond b (d ∷ []) [])) h

pub count_none : (d : DefinitionTree Place) → is_extension d ≡ false → extension_count (d ∷ []) ≡ 0
count_none d h = ap (λ b. length (cond b (d ∷ []) [])) h

-- numbers of definitions after others
abbrev pub numbered_after : ℕ → Definitions → Definitions → List NumberedDefinition
numbered_after first = each_place_after (λ b d. listed_after first b d ∷ [])

pub after_append : (first : ℕ) (before xs ys : Definitions) → numbered_after first before (xs ++ ys) ≡ numbered_after first before xs ++ numbered_after first (before ++ xs) ys
after_append first before [] ys = ap (λ b. numbered_after first b ys) (sym (append-nil before))
after_append first before (x ∷ xs) ys =
    ap (λ l. listed_after first before x ∷ l) (after_append first (before ++ x ∷ []) xs ys
    ∙ ap (λ b. numbered_after first (before ++ x ∷ []) xs ++ numbered_after first b ys) (append_assoc before (x ∷ []) xs))

-- they depend on how many extensions stand before
same_more : (b c : Definitions) (d : DefinitionTree Place) → extension_count b ≡ extension_count c → extension_count (b ++ d ∷ []) ≡ extension_count (c ++ d ∷ [])
same_more b c d h = count_append b (d ∷ []) ∙ ap (λ n. n + extension_count (d ∷ [])) h ∙ sym (count_append c (d ∷ []))

abbrev listed_at : ℕ → DefinitionTree Place → NumberedDefinition
listed_at n d = record { definition = d; extension = if is_extension d then Some (record { number = n; place = definition_place d }) else None }

pub after_same : (first : ℕ) (b c ds : Definitions) → extension_count b ≡ extension_count c → numbered_after first b ds ≡ numbered_after first c ds
after_same first b c [] h = refl
after_same first b c (d ∷ ds) h =
    ap (λ n. listed_at (first + n) d ∷ numbered_after first (b ++ d ∷ []) ds) h
    ∙ ap (λ l. listed_after first c d ∷ l) (after_same first (b ++ d ∷ []) (c ++ d ∷ []) ds (same_more b c d h))

or_left : (a b : Bool) → (a || b) ≡ false → a ≡ false
or_left true b h = h
or_left false b h = refl

or_right : (a b : Bool) → (a || b) ≡ false → b ≡ false
or_right true b h = absurd cc
or_right false b h = h

-- where none is an extension
pub after_none : (first : ℕ) (before ds : Definitions) → list_any is_extension ds ≡ false → numbered_after first before ds ≡ map unnumbered ds
after_none first before [] h = refl
after_none first before (d ∷ ds) h =
    ap (λ b. record { definition = d; extension = cond b (Some (record { number = first + extension_count before; place = definition_place d })) None } ∷ numbered_after first (before ++ d ∷ []) ds) (or_left (is_extension d) (list_any is_extension ds) h)
    ∙ ap (λ l. unnumbered d ∷ l) (after_none first (before ++ d ∷ []) ds (or_right (is_extension d) (list_any is_extension ds) h))

pub count_zero : (ds : Definitions) → list_any is_extension ds ≡ false → extension_count ds ≡ 0
count_zero [] h = refl
count_zero (d ∷ ds) h =
    let a = count_append (d ∷ []) ds in
    let b = count_none d (or_left (is_extension d) (list_any is_extension ds) h) in
    let c = count_zero ds (or_right (is_extension d) (list_any is_extension ds) h) in
    omega (arith, a, b, c)

-- where no extension is left out
module _ (keep : DefinitionTree Place → Bool) (no_extension : (d : DefinitionTree Place) → keep d ≡ false → is_extension d ≡ false) where
  pub after_filter : (first : ℕ) (b c ds : Definitions) → extension_count b ≡ extension_count c → numbered_after first b (filter keep ds) ≡ filter (λ l. keep l.definition) (numbered_after first c ds)
  after_filter first b c [] h = refl
  after_filter first b c (d ∷ ds) h = by (keep d) refl
      (λ b' c' same. after_filter first b' c' ds same)
    where
      by : (k : Bool) → keep d ≡ k
          → ((b' c' : Definitions) → extension_count b' ≡ extension_count c' → numbered_after first b' (filter keep ds) ≡ filter (λ l. keep l.definition) (numbered_after first c' ds))
          → numbered_after first b (cond k (d ∷ filter keep ds) (filter keep ds)) ≡ cond k (listed_after first c d ∷ filter (λ l. keep l.definition) (numbered_after first (c ++ d ∷ []) ds)) (filter (λ l. keep l.definition) (numbered_after first (c ++ d ∷ []) ds))
      by true e rest =
          ap (λ n. listed_at (first + n) d ∷ numbered_after first (b ++ d ∷ []) (filter keep ds)) h
          ∙ ap (λ l. listed_after first c d ∷ l) (rest (b ++ d ∷ []) (c ++ d ∷ []) (same_more b c d h))
      by false e rest = rest b (c ++ d ∷ []) (h ∙ sym (count_append c (d ∷ []) ∙ ap (λ n. extension_count c + n) (count_none d (no_extension d e)) ∙ omega arith))
