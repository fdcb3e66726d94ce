-- That no component is repeated does not depend on the order of the extensions.
use Rattle.std.proofs.Common.{◌≡◌, ℕ, ◌+◌, ◌≤◌, Bool, true, false, ◌||◌, not, cond, List, [], ◌∷◌, ◌++◌, map, flat_map, length, Option, Some, None, refl, sym, ap, subst, ◌∙◌, if◌then◌else◌, arith, true≢false}
use Rattle.std.specs.List.{filter}
use Rattle.std.specs.Str.{bytes_eq}
use Rattle.std.proofs.lemmas.List.{map-append}
use Rattle.std.proofs.lemmas.List.Folds.{list_any-append, flat_map-map}
use Rattle.std.proofs.lemmas.Grind.{flat_map-append}
use Rattle.std.proofs.lemmas.Slice.Eq.{bytes_eq-Decides}
use Rattle.graphql_names.specs.Placed.{Place}
use Rattle.schema_components.specs.Lists.{each_place_after, firsts, has_name, is_among}
use Rattle.schema_components.specs.Given.{Given, ExtensionTree, given_name}
use Rattle.schema_types.specs.TypeParts.{TypeParts, TypeDefinition}
use Rattle.schema_types.specs.Out.{is_empty}
use Rattle.schema_fold.specs.NumberedDefinition.{Definitions, numbered}
use Rattle.schema_fold.specs.Components.{all_given, components, field_key, value_key, input_key}
use Rattle.verdict_laws.specs.Arranged.{arranged}
use Rattle.verdict_laws.specs.Whole.{Extension, classes, extensions_in}
use Rattle.verdict_laws.proofs.Order.{Each}
use Rattle.verdict_laws.proofs.Whole.{Numbered}
use Rattle.verdict_laws.proofs.Numbering.{placed, without_numbers}
use Rattle.verdict_laws.proofs.Types.{HasNoRepeats, es_of, components_all}
use Rattle.verdict_laws.proofs.Again.{renamed, named_as}

-- ---- names of which none is there twice

-- each of these names is new, after those
abbrev pub AreNew : List (List ℕ) → List (List ℕ) → Type 0
AreNew before [] = Unit {0}
AreNew before (n ∷ ns) = (is_among n before ≡ false) × AreNew (before ++ n ∷ []) ns

abbrev one_if : Bool → ℕ
one_if true = 1
one_if false = 0

abbrev pub count : List ℕ → List (List ℕ) → ℕ
count n [] = 0
count n (m ∷ ms) = one_if (bytes_eq n m) + count n ms

count-append : (n : List ℕ) (xs ys : List (List ℕ)) → count n (xs ++ ys) ≡ count n xs + count n ys
count-append n [] ys = omega arith
count-append n (x ∷ xs) ys = omega (arith, count-append n xs ys)

among-push : (n m : List ℕ) (before : List (List ℕ)) → is_among n (before ++ m ∷ []) ≡ (is_among n before || bytes_eq n m)
among-push n m before = list_any-append (bytes_eq n) before (m ∷ []) ∙ ap (λ b. is_among n before || b) (or-false (bytes_eq n m))
  where
    or-false : (b : Bool) → (b || false) ≡ b
    or-false true = refl
    or-false false = refl

new_counts : (before ns : List (List ℕ)) → AreNew before ns → (n : List ℕ) → one_if (is_among n before) + count n ns ≤ 1
new_counts before [] h n = by (is_among n before)
  where
    by : (b : Bool) → one_if b + 0 ≤ 1
    by true = omega arith
    by false = omega arith
new_counts before (m ∷ ms) h n = by (is_among n before) (bytes_eq n m) refl refl (subst (λ b. one_if b + count n ms ≤ 1) (among-push n m before) (new_counts (before ++ m ∷ []) ms h.1 n))
  where
    by : (a b : Bool) → is_among n before ≡ a → bytes_eq n m ≡ b → one_if (is_among n before || bytes_eq n m) + count n ms ≤ 1 → one_if a + (one_if b + count n ms) ≤ 1
    by true true e f k = absurd (true≢false (sym e ∙ ap (λ t. is_among t before) ((bytes_eq-Decides n m).0 f) ∙ h.0))
    by true false e f k = let j : one_if (true || false) + count n ms ≤ 1 = subst (λ b. one_if (b || false) + count n ms ≤ 1) e (subst (λ b. one_if (is_among n before || b) + count n ms ≤ 1) f k) in omega (arith, j)
    by false true e f k = let j : one_if (false || true) + count n ms ≤ 1 = subst (λ b. one_if (b || true) + count n ms ≤ 1) e (subst (λ b. one_if (is_among n before || b) + count n ms ≤ 1) f k) in omega (arith, j)
    by false false e f k = let j : one_if (false || false) + count n ms ≤ 1 = subst (λ b. one_if (b || false) + count n ms ≤ 1) e (subst (λ b. one_if (is_among n before || b) + count n ms ≤ 1) f k) in omega (arith, j)

counts_new : (before ns : List (List ℕ)) → ((n : List ℕ) → one_if (is_among n before) + count n ns ≤ 1) → AreNew before ns
counts_new before [] h = tt
counts_new before (m ∷ ms) h = (
  absent (is_among m before) refl (subst (λ b. one_if (is_among m before) + (one_if b + count m ms) ≤ 1) ((bytes_eq-Decides m m).1 refl) (h m)),
  counts_new (before ++ m ∷ []) ms (λ n. subst (λ b. one_if b + count n ms ≤ 1) (sym (among-push n m before)) (rest n (is_among n before) (bytes_eq n m) (h n))),
)
  where
    absent : (b : Bool) → is_among m before ≡ b → one_if (is_among m before) + (1 + count m ms) ≤ 1 → b ≡ false
    absent true e k = let j : 1 + (1 + count m ms) ≤ 1 = subst (λ b. one_if b + (1 + count m ms) ≤ 1) e k in absurd (omega (arith, j))
    absent false e k = refl

    rest : (n : List ℕ) (a b : Bool) → one_if a + (one_if b + count n ms) ≤ 1 → one_if (a || b) + count n ms ≤ 1
    rest n true b k = omega (arith, k)
    rest n false b k = omega (arith, k)

module _ {X : Type 0} (key : X → List ℕ) where
  abbrev here : List X → X → List X
  here before x = if has_name key (key x) before then [] else x ∷ []

  abbrev kept : List X → List X → List X
  kept before xs = each_place_after here before xs

  new_kept : (before xs : List X) → AreNew (map key before) (map key xs) → kept before xs ≡ xs
  new_kept before [] h = refl
  new_kept before (x ∷ xs) h =
      ap (λ b. (if b then [] else x ∷ []) ++ kept (before ++ x ∷ []) xs) h.0
      ∙ ap (λ l. x ∷ l) (new_kept (before ++ x ∷ []) xs (subst (λ ns. AreNew ns (map key xs)) (sym (map-append key before (x ∷ []))) h.1))

  fewer : (before xs : List X) → length (kept before xs) ≤ length xs
  fewer before [] = omega arith
  fewer before (x ∷ xs) = by (has_name key (key x) before) (fewer (before ++ x ∷ []) xs)
    where
      by : (b : Bool) → length (kept (before ++ x ∷ []) xs) ≤ length xs → length ((if b then [] else x ∷ []) ++ kept (before ++ x ∷ []) xs) ≤ length (x ∷ xs)
      by true h = omega (arith, h)
      by false h = omega (arith, h)

  abbrev tail : List X → List X
  tail [] = []
  tail (x ∷ xs) = xs

  pub kept_new : (before xs : List X) → kept before xs ≡ xs → AreNew (map key before) (map key xs)
  kept_new before [] h = tt
  kept_new before (x ∷ xs) h = by (has_name key (key x) before) refl h (kept_new (before ++ x ∷ []) xs)
    where
      by : (b : Bool) → has_name key (key x) before ≡ b → (if b then [] else x ∷ []) ++ kept (before ++ x ∷ []) xs ≡ x ∷ xs
          → (kept (before ++ x ∷ []) xs ≡ xs → AreNew (map key (before ++ x ∷ [])) (map key xs)) → AreNew (map key before) (map key (x ∷ xs))
      by true e k rest = let few = fewer (before ++ x ∷ []) xs in let same = ap length k in absurd (omega (arith, few, same))
      by false e k rest = (e, subst (λ ns. AreNew ns (map key xs)) (map-append key before (x ∷ [])) (rest (ap tail k)))

-- ---- counting in another order

-- where it gives nothing of any class there are no names
abbrev pub IsSilent : {X Y : Type 0} → List (X → Bool) → (X → List Y) → X → Type 0
IsSilent [] f x = f x ≡ []
IsSilent (c ∷ cs) f x = c x ≡ false → IsSilent cs f x

module _ {X : Type 0} (f : X → List (List ℕ)) (n : List ℕ) where
  abbrev total : List X → ℕ
  total xs = count n (flat_map f xs)

  total-append : (xs ys : List X) → total (xs ++ ys) ≡ total xs + total ys
  total-append xs ys = ap (count n) (flat_map-append f xs ys) ∙ count-append n (flat_map f xs) (flat_map f ys)

  total_split : (c : X → Bool) (xs : List X) → total (filter c xs) + total (filter (λ x. not (c x)) xs) ≡ total xs
  total_split c [] = refl
  total_split c (x ∷ xs) = by (c x) (total_split c xs)
    where
      by : (b : Bool) → total (filter c xs) + total (filter (λ x. not (c x)) xs) ≡ total xs
          → total (cond b (x ∷ filter c xs) (filter c xs)) + total (cond (not b) (x ∷ filter (λ x. not (c x)) xs) (filter (λ x. not (c x)) xs)) ≡ total (x ∷ xs)
      by true h = omega (arith, h, count-append n (f x) (flat_map f (filter c xs)), count-append n (f x) (flat_map f xs))
      by false h = omega (arith, h, count-append n (f x) (flat_map f (filter (λ x. not (c x)) xs)), count-append n (f x) (flat_map f xs))

  no_total : (xs : List X) → Each (λ x. f x ≡ []) xs → flat_map f xs ≡ []
  no_total [] h = refl
  no_total (x ∷ xs) h = λ i. h.0 i ++ no_total xs h.1 i

  others : (c : X → Bool) (cs : List (X → Bool)) (xs : List X) → Each (IsSilent (c ∷ cs) f) xs → Each (IsSilent cs f) (filter (λ x. not (c x)) xs)
  others c cs [] h = tt
  others c cs (x ∷ xs) h = by (c x) refl (others c cs xs h.1)
    where
      by : (b : Bool) → c x ≡ b → Each (IsSilent cs f) (filter (λ x. not (c x)) xs) → Each (IsSilent cs f) (cond (not b) (x ∷ filter (λ x. not (c x)) xs) (filter (λ x. not (c x)) xs))
      by true e rest = rest
      by false e rest = (h.0 e, rest)

  pub arranged_total : (cs : List (X → Bool)) (xs : List X) → Each (IsSilent cs f) xs → total (arranged cs xs) ≡ total xs
  arranged_total [] xs h = sym (ap (count n) (no_total xs h))
  arranged_total (c ∷ cs) xs h =
      let ys = filter (λ x. not (c x)) xs in
      omega (arith, total-append (filter c xs) (arranged cs ys), arranged_total cs ys (others c cs xs h), total_split c xs)

-- ---- the names of one class

pub every : {X : Type 0} (P : X → Type 0) → ((x : X) → P x) → (xs : List X) → Each P xs
every P f [] = tt
every P f (x ∷ xs) = (f x, every P f xs)

pub nothing_named : {A : Type 0} (inner : A → List ℕ) (xs : List A) → not (is_empty xs) ≡ false → map inner xs ≡ []
nothing_named inner [] h = refl
nothing_named inner (x ∷ xs) h = absurd (true≢false h)

module _ {A : Type 0} (of : TypeParts Place → List A) (inner : A → List ℕ) (key : Given Place A → List ℕ) (keyed : (e : Option (ExtensionTree Place)) (x : A) → key (record { extension = e; it = x }) ≡ inner x) (t : TypeDefinition Place) where
  abbrev names_of : Extension → List (List ℕ)
  names_of x = map inner (of x.it)

  abbrev class_names : List Extension → List (List ℕ)
  class_names xs = map inner (of t.parts) ++ flat_map names_of xs

  given_names : (e : Option (ExtensionTree Place)) (xs : List A) → map key (all_given e xs) ≡ map inner xs
  given_names e [] = refl
  given_names e (x ∷ xs) = λ i. keyed e x i ∷ given_names e xs i

  extension_names : (es : List Numbered) → map key (flat_map (λ x. all_given (Some x.0) (of x.1)) es) ≡ flat_map names_of (map placed es)
  extension_names [] = refl
  extension_names (x ∷ xs) = map-append key (all_given (Some x.0) (of x.1)) (flat_map (λ x. all_given (Some x.0) (of x.1)) xs) ∙ (λ i. given_names (Some x.0) (of x.1) i ++ extension_names xs i)

  pub names_are : (first : ℕ) (ds : Definitions) → map key (components of (numbered first ds) t) ≡ class_names (extensions_in ds t.parts)
  names_are first ds =
      ap (map key) (components_all first ds t of)
      ∙ map-append key (all_given None (of t.parts)) (flat_map (λ x. all_given (Some x.0) (of x.1)) (es_of first ds t))
      ∙ (λ i. given_names None (of t.parts) i ++ (extension_names (es_of first ds t) ∙ ap (flat_map names_of) (without_numbers t.parts first ds)) i)

  pub class_again : ((x : Extension) → IsSilent classes names_of x) → ((p : TypeParts Place) → of (named_as t.parts p) ≡ of p)
      → (first again_first : ℕ) (ds again : Definitions) → extensions_in again t.parts ≡ map (renamed t) (arranged classes (extensions_in ds t.parts))
      → firsts key (components of (numbered first ds) t) ≡ components of (numbered first ds) t
      → firsts key (components of (numbered again_first again) t) ≡ components of (numbered again_first again) t
  class_again silent same first again_first ds again are none =
      let xs = extensions_in ds t.parts in
      let before : AreNew [] (class_names xs) = subst (AreNew []) (names_are first ds) (kept_new key [] (components of (numbered first ds) t) none) in
      let ys : flat_map names_of (extensions_in again t.parts) ≡ flat_map names_of (arranged classes xs) =
      ap (flat_map names_of) are ∙ flat_map-map names_of (renamed t) (arranged classes xs) ∙ renames (arranged classes xs) in
      let counted : (n : List ℕ) → count n (class_names (extensions_in again t.parts)) ≡ count n (class_names xs) =
      λ n. ap (λ l. count n (map inner (of t.parts) ++ l)) ys ∙ count-append n (map inner (of t.parts)) (flat_map names_of (arranged classes xs))
      ∙ ap (λ (k : ℕ). count n (map inner (of t.parts)) + k) (arranged_total names_of n classes xs (every (IsSilent classes names_of) silent xs))
      ∙ sym (count-append n (map inner (of t.parts)) (flat_map names_of xs)) in
      new_kept key [] (components of (numbered again_first again) t)
      (subst (AreNew []) (sym (names_are again_first again)) (counts_new [] (class_names (extensions_in again t.parts)) (λ n. subst (λ k. 0 + k ≤ 1) (sym (counted n)) (new_counts [] (class_names xs) before n))))
    where
      renames : (ys : List Extension) → flat_map (λ x. names_of (renamed t x)) ys ≡ flat_map names_of ys
      renames [] = refl
      renames (y ∷ ys) = λ i. map inner (same y.it i) ++ renames ys i

pub no_repeats_again : (t : TypeDefinition Place) (first again_first : ℕ) (ds again : Definitions) → extensions_in again t.parts ≡ map (renamed t) (arranged classes (extensions_in ds t.parts))
    → HasNoRepeats (numbered first ds) t → HasNoRepeats (numbered again_first again) t
no_repeats_again t first again_first ds again are h = record {
  interfaces = class_again (λ p. p.interfaces) (λ x. x.it) given_name (λ e x. refl) t (λ x d i f m v u. nothing_named (λ x. x.it) x.it.interfaces i) (λ p. refl) first again_first ds again are h.interfaces;
  fields = class_again (λ p. p.fields) (λ x. x.it.name.it) field_key (λ e x. refl) t (λ x d i f m v u. nothing_named (λ x. x.it.name.it) x.it.fields f) (λ p. refl) first again_first ds again are h.fields;
  members = class_again (λ p. p.members) (λ x. x.it) given_name (λ e x. refl) t (λ x d i f m v u. nothing_named (λ x. x.it) x.it.members m) (λ p. refl) first again_first ds again are h.members;
  values = class_again (λ p. p.values) (λ x. x.it.value.it) value_key (λ e x. refl) t (λ x d i f m v u. nothing_named (λ x. x.it.value.it) x.it.values v) (λ p. refl) first again_first ds again are h.values;
  inputs = class_again (λ p. p.inputs) (λ x. x.it.name.it) input_key (λ e x. refl) t (λ x d i f m v u. nothing_named (λ x. x.it.name.it) x.it.inputs u) (λ p. refl) first again_first ds again are h.inputs;
}
