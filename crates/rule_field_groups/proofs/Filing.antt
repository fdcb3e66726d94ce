-- Groups of a list by names.
use Rattle.std.proofs.Common.{◌≡◌, ◌⊎◌, ◌∙◌, ℕ, ◌+◌, Bool, true, false, ◌&&◌, List, [], ◌∷◌, ◌++◌, map, Option, None, Some, Result, Ok, Err, Vec, Contains, refl, sym, ap, subst, inl, inr, cond, filter, length, true≢false, arith}
use Rattle.std.specs.Map.{lookup, set_value, keys_of}
use Rattle.std.specs.List.{IsDistinct, sum}
use Rattle.std.specs.Option.{option_map_or}
use Rattle.std.specs.Result.{IfOk}
use Rattle.std.specs.Str.{bytes_eq}
use Rattle.std.specs.Cmp.Lexicographic.{nat_list_eq_equiv}
use Rattle.std.specs.Cmp.{on_equiv}
use Rattle.std.specs.declared.alloc.Global.{Global}
use Rattle.std.proofs.lemmas.Map.Views.{lookup-from_Contains}
use Rattle.std.proofs.lemmas.Slice.Eq.{bytes_eq-Decides}
use Rattle.std.proofs.lemmas.List.{length-append}
use Rattle.std.proofs.lemmas.List.Sums.{sum_by-cons}
use Rattle.std.proofs.lemmas.Option.{same_Some}
use Rattle.graphql_names.specs.NameValue.{NameValue}
use Rattle.rule_selection_queries.proofs.in_definitions.in_schema_types.in_components.Places.{not_in_nil, Contains-cons, Contains-first, Contains-rest}
use Rattle.rule_selection_queries.proofs.in_document_definitions.Unplaced.{contains_map, contains_unmap}
use Rattle.rule_field_groups.specs.Grouped.{has, IsPartOf, AreFiled}

-- ---- filters

module _ {X : Type 0} (test : X → Bool) where
  pub in_filter : (xs : List X) (x : X) → Contains xs x → test x ≡ true → Contains (filter test xs) x
  in_filter [] x c t = absurd (not_in_nil x c)
  in_filter (y ∷ xs) x c t = by (test y) refl (Contains-cons y xs x c) (λ r. in_filter xs x r t)
    where
      by : (b : Bool) → test y ≡ b → (y ≡ x) ⊎ Contains xs x → (Contains xs x → Contains (filter test xs) x) → Contains (cond b (y ∷ filter test xs) (filter test xs)) x
      by true e (inl i) rest = Contains-first y (filter test xs) x i
      by true e (inr r) rest = Contains-rest y (filter test xs) x (rest r)
      by false e (inl i) rest = absurd (true≢false (sym t ∙ ap test (sym i) ∙ e))
      by false e (inr r) rest = rest r

  pub of_filter : (xs : List X) (x : X) → Contains (filter test xs) x → Contains xs x × (test x ≡ true)
  of_filter [] x c = absurd (not_in_nil x c)
  of_filter (y ∷ xs) x c = by (test y) refl c (of_filter xs x)
    where
      by : (b : Bool) → test y ≡ b → Contains (cond b (y ∷ filter test xs) (filter test xs)) x → (Contains (filter test xs) x → Contains xs x × (test x ≡ true))
          → Contains (y ∷ xs) x × (test x ≡ true)
      by true e k rest = elim (Contains-cons y (filter test xs) x k) [
        | inl i ↦ (Contains-first y xs x i, ap test (sym i) ∙ e)
        | inr r ↦ let p = rest r in (Contains-rest y xs x p.0, p.1)
      ]
      by false e k rest = let p = rest k in (Contains-rest y xs x p.0, p.1)

-- all of a list, and a part of a part

pub all_pass : {X : Type 0} (xs : List X) → xs ≡ filter (λ _. true) xs
all_pass [] = refl
all_pass (x ∷ xs) = ap (λ l. x ∷ l) (all_pass xs)

filter_twice : {X : Type 0} (first next : X → Bool) (xs : List X) → filter next (filter first xs) ≡ filter (λ x. first x && next x) xs
filter_twice first next [] = refl
filter_twice first next (x ∷ xs) = by (first x) (filter_twice first next xs)
  where
    by : (b : Bool) → filter next (filter first xs) ≡ filter (λ x. first x && next x) xs
        → filter next (cond b (x ∷ filter first xs) (filter first xs)) ≡ cond (b && next x) (x ∷ filter (λ x. first x && next x) xs) (filter (λ x. first x && next x) xs)
    by true rest = ap (λ l. cond (next x) (x ∷ l) l) rest
    by false rest = rest

pub part_of_part : {X : Type 0} (list part next : List X) → IsPartOf list part → IsPartOf part next → IsPartOf list next
part_of_part list part next p q = (λ x. p.0 x && q.0 x, q.1 ∙ ap (filter q.0) p.1 ∙ filter_twice p.0 q.0 list)

-- ---- lookups

abbrev named : List ℕ → NameValue → Bool
named n k = bytes_eq n k.text

abbrev same_name : NameValue → NameValue → Bool
same_name a b = bytes_eq a.text b.text

found_among : {V : Type 0} (test : NameValue → Bool) (es : List (NameValue × V)) (v : V) → lookup test es ≡ Some v → Contains (map (λ e. e.1) es) v
found_among test [] v e = cc
found_among {V} test (f ∷ es) v e = by (test f.0) e (found_among test es v)
  where
    by : (b : Bool) → cond b (Some f.1) (lookup test es) ≡ Some v → (lookup test es ≡ Some v → Contains (map (λ e. e.1) es) v) → Contains (f.1 ∷ map (λ e. e.1) es) v
    by true i rest = Contains-first f.1 (map (λ e. e.1) es) v (same_Some _ _ i)
    by false i rest = Contains-rest f.1 (map (λ e. e.1) es) v (rest i)

module _ {X : Type 0} (name : X → List ℕ) (list : List X) (es : List (NameValue × Vec X Global)) where
  abbrev items : Option (Vec X Global) → List X
  items o = option_map_or (λ v. v.items) o []

  module _ (is : (n : List ℕ) → items (lookup (named n) es) ≡ filter (has name n) list) where
    -- what has something is found
    found_items : (o : Option (Vec X Global)) (l : List X) (x : X) → items o ≡ l → Contains l x → (v : Vec X Global) × ((o ≡ Some v) × (v.items ≡ l))
    found_items None l x e c = absurd (not_in_nil x (subst (λ m. Contains m x) (sym e) c))
    found_items (Some v) l x e c = (v, (refl, e))

    has_its : (n m : List ℕ) → n ≡ m → bytes_eq n m ≡ true
    has_its n m e = (bytes_eq-Decides n m).1 e

    pub filed : IsDistinct same_name (keys_of es) → (groups : List (List X)) → groups ≡ map (λ v. v.items) (map (λ e. e.1) es) → AreFiled name list groups
    filed once groups all = record {
      has_all = λ x c.
          let l = filter (has name (name x)) list in
          let v = found_items (lookup (named (name x)) es) l x (is (name x)) (in_filter (has name (name x)) list x c (has_its (name x) (name x) refl)) in
          subst (λ gs. Contains gs l) (sym all)
          (subst (Contains (map (λ v. v.items) (map (λ e. e.1) es))) v.1.1
          (contains_map (λ v. v.items) (map (λ e. e.1) es) v.0 (found_among (named (name x)) es v.0 v.1.0)));
      only = λ group c.
          let v = contains_unmap (λ (v : Vec X Global). v.items) (map (λ e. e.1) es) group (subst (λ gs. Contains gs group) all c) in
          let e = contains_unmap (λ (e : NameValue × Vec X Global). e.1) es v.0 v.1.0 in
          let found = lookup-from_Contains (on_equiv (λ (a : NameValue). a.text) nat_list_eq_equiv) e.0.0 e.0.1 es once e.1.0 in
          (e.0.0.text, sym v.1.1 ∙ ap (λ (w : Vec X Global). w.items) (sym e.1.1) ∙ sym (ap items found) ∙ is e.0.0.text);
    }

-- ---- how many items are in an index

module _ {X : Type 0} where
  abbrev lists : List (NameValue × Vec X Global) → List (List X)
  lists es = map (λ v. v.items) (map (λ e. e.1) es)

  abbrev count : List (NameValue × Vec X Global) → ℕ
  count es = sum (map length (lists es))

  first : (e : NameValue × Vec X Global) (es : List (NameValue × Vec X Global)) → count (e ∷ es) ≡ length e.1.items + count es
  first e es = sum_by-cons (λ n. n) (length e.1.items) (map length (lists es))

  one_more : (w : Vec X Global) (xs : List X) (item : X) → w.items ≡ xs ++ item ∷ [] → length w.items ≡ length xs + 1
  one_more w xs item e = ap length e ∙ length-append xs (item ∷ [])

  written : (test : NameValue → Bool) (w : Vec X Global) (n : ℕ) (es : List (NameValue × Vec X Global))
      → (v : Vec X Global) → lookup test es ≡ Some v → length w.items ≡ length v.items + n → count (set_value test es w) ≡ count es + n
  written test w n [] v found long = cc
  written test w n (e ∷ es) v found long = by (test e.0) found (written test w n es v)
    where
      by : (b : Bool) → cond b (Some e.1) (lookup test es) ≡ Some v → (lookup test es ≡ Some v → length w.items ≡ length v.items + n → count (set_value test es w) ≡ count es + n)
          → count (cond b ((e.0, w) ∷ es) (e ∷ set_value test es w)) ≡ count (e ∷ es) + n
      by true h rest =
          let same : length v.items ≡ length e.1.items = ap (λ (u : Vec X Global). length u.items) (sym (same_Some _ _ h)) in
          omega (arith, long, same, first (e.0, w) es, first e es)
      by false h rest = following (rest h long)
        where
          following : count (set_value test es w) ≡ count es + n → count (e ∷ set_value test es w) ≡ count (e ∷ es) + n
          following more = omega (arith, more, first e (set_value test es w), first e es)

  -- one item is added after those under a name
  pub count_pushed : (test : NameValue → Bool) (old new : List (NameValue × Vec X Global)) (v w : Vec X Global) (item : X) → lookup test old ≡ Some v → w.items ≡ v.items ++ item ∷ [] → new ≡ set_value test old w
      → count new ≡ count old + 1
  count_pushed test old new v w item found added is = ap count is ∙ written test w 1 old v found (one_more w v.items item added)

  -- where nothing is under it
  pub count_new : (name : NameValue) (w : Vec X Global) (item : X) → w.items ≡ item ∷ [] → (es new : List (NameValue × Vec X Global)) → new ≡ es ++ (name, w) ∷ [] → count new ≡ count es + 1
  count_new name w item is es new e = ap count e ∙ following es
    where
      one : length w.items ≡ 1
      one = ap length is

      following : (es : List (NameValue × Vec X Global)) → count (es ++ (name, w) ∷ []) ≡ count es + 1
      following [] = start
        where
          start : 0 + length w.items ≡ 1
          start = omega (arith, one)
      following (f ∷ es) = one_after (following es)
        where
          one_after : count (es ++ (name, w) ∷ []) ≡ count es + 1 → count (f ∷ (es ++ (name, w) ∷ [])) ≡ count (f ∷ es) + 1
          one_after more = omega (arith, more, first f (es ++ (name, w) ∷ []), first f es)

-- a fact of what is answered from two
pub from_both : {Y E : Type 0} {P Q R : Y → Type 0} → ((y : Y) → P y → Q y → R y) → (r : Result Y E) → IfOk r P → IfOk r Q → IfOk r R
from_both f (Ok y) p q = f y p q
from_both f (Err e) p q = tt
