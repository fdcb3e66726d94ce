-- Of what classes give in turn, each giver once is the givers in the order of the first class in which they give something.
use Rattle.std.proofs.Common.{◌≡◌, ℕ, zero, suc, Bool, true, false, ◌||◌, not, cond, List, [], ◌∷◌, ◌++◌, map, flat_map, refl, sym, ap, ◌∙◌, if◌then◌else◌, append_assoc, true≢false}
use Rattle.std.specs.List.{filter}
use Rattle.std.specs.Str.{bytes_eq}
use Rattle.std.proofs.lemmas.List.{append-nil, map-append}
use Rattle.std.proofs.lemmas.List.Elements.{filter-append}
use Rattle.std.proofs.lemmas.List.Folds.{list_any-append}
use Rattle.std.proofs.lemmas.Slice.Eq.{bytes_eq-Decides}
use Rattle.schema_components.specs.Lists.{each_place_after, firsts, has_name, is_among}
use Rattle.schema_components.proofs.Firsts.{has_name-push}
use Rattle.verdict_laws.specs.Arranged.{arranged}

-- so many times the same
abbrev pub repeated : {Y : Type 0} → ℕ → Y → List Y
repeated zero y = []
repeated (suc n) y = y ∷ repeated n y

abbrev pub is_some_of : ℕ → Bool
is_some_of zero = false
is_some_of (suc n) = true

or-false : (b : Bool) → (b || false) ≡ b
or-false true = refl
or-false false = refl

or_assoc : (a b c : Bool) → ((a || b) || c) ≡ (a || (b || c))
or_assoc true b c = refl
or_assoc false b c = refl

-- P of each
abbrev pub Each : {X : Type 0} → (X → Type 0) → List X → Type 0
Each P [] = Unit {0}
Each P (x ∷ xs) = P x × Each P xs

pub Each-map : {X : Type 0} {P Q : X → Type 0} → ((x : X) → P x → Q x) → (xs : List X) → Each P xs → Each Q xs
Each-map f [] h = tt
Each-map f (x ∷ xs) h = (f x h.0, Each-map f xs h.1)

pub filter_each : {X : Type 0} (p q : X → Bool) (xs : List X) → Each (λ x. p x ≡ q x) xs → filter p xs ≡ filter q xs
filter_each p q [] h = refl
filter_each p q (x ∷ xs) h = ap (λ b. cond b (x ∷ filter p xs) (filter p xs)) h.0 ∙ ap (λ l. cond (q x) (x ∷ l) l) (filter_each p q xs h.1)

filter_filter : {X : Type 0} (p q : X → Bool) (xs : List X) → filter p (filter q xs) ≡ filter (λ x. cond (q x) (p x) false) xs
filter_filter p q [] = refl
filter_filter p q (x ∷ xs) = by (q x) (filter_filter p q xs)
  where
    by : (b : Bool) → filter p (filter q xs) ≡ filter (λ x. cond (q x) (p x) false) xs
        → filter p (cond b (x ∷ filter q xs) (filter q xs)) ≡ cond (cond b (p x) false) (x ∷ filter (λ x. cond (q x) (p x) false) xs) (filter (λ x. cond (q x) (p x) false) xs)
    by true rest = ap (λ l. cond (p x) (x ∷ l) l) rest
    by false rest = rest

module _ {X Y : Type 0} (name : Y → List ℕ) (tag : X → Y) where
  abbrev pub here : List Y → Y → List Y
  here before y = if has_name name (name y) before then [] else y ∷ []

  -- of these, after those, the first of each name
  abbrev pub kept : List Y → List Y → List Y
  kept before ys = each_place_after here before ys

  pub kept-append : (before xs ys : List Y) → kept before (xs ++ ys) ≡ kept before xs ++ kept (before ++ xs) ys
  kept-append before [] ys = ap (λ b. kept b ys) (sym (append-nil before))
  kept-append before (x ∷ xs) ys =
      ap (λ r. here before x ++ r) (kept-append (before ++ x ∷ []) xs ys ∙ ap (λ b. kept (before ++ x ∷ []) xs ++ kept b ys) (append_assoc before (x ∷ []) xs))
      ∙ sym (append_assoc (here before x) (kept (before ++ x ∷ []) xs) (kept (before ++ x ∷ xs) ys))

  has-append : (n : List ℕ) (xs ys : List Y) → has_name name n (xs ++ ys) ≡ (has_name name n xs || has_name name n ys)
  has-append n xs ys = ap (is_among n) (map-append name xs ys) ∙ list_any-append (bytes_eq n) (map name xs) (map name ys)

  kept_none : (n : ℕ) (y : Y) (before : List Y) → has_name name (name y) before ≡ true → kept before (repeated n y) ≡ []
  kept_none zero y before h = refl
  kept_none (suc n) y before h =
      ap (λ b. (if b then [] else y ∷ []) ++ kept (before ++ y ∷ []) (repeated n y)) h
      ∙ kept_none n y (before ++ y ∷ []) (has_name-push name (name y) before y ∙ ap (λ b. b || bytes_eq (name y) (name y)) h)

  kept_once : (n : ℕ) (y : Y) (before : List Y) → kept before (repeated n y) ≡ (if is_some_of n then here before y else [])
  kept_once zero y before = refl
  kept_once (suc n) y before =
      ap (λ l. here before y ++ l) (kept_none n y (before ++ y ∷ []) (has_name-push name (name y) before y ∙ ap (λ b. has_name name (name y) before || b) ((bytes_eq-Decides (name y) (name y)).1 refl) ∙ or_true (has_name name (name y) before)))
      ∙ append-nil (here before y)
    where
      or_true : (b : Bool) → (b || true) ≡ true
      or_true true = refl
      or_true false = refl

  -- no two have one name
  abbrev pub IsApart : X → X → Type 0
  IsApart x y = (bytes_eq (name (tag x)) (name (tag y)) ≡ false) × (bytes_eq (name (tag y)) (name (tag x)) ≡ false)

  abbrev pub AreApart : List X → Type 0
  AreApart [] = Unit {0}
  AreApart (x ∷ xs) = Each (IsApart x) xs × AreApart xs

  abbrev unseen : List Y → X → Bool
  unseen before x = not (has_name name (name (tag x)) before)

  -- what a class gives in turn
  abbrev pub blocks : (X → ℕ) → List X → List Y
  blocks c xs = flat_map (λ x. repeated (c x) (tag x)) xs

  other_name : (n : ℕ) (m : List ℕ) (y : Y) → bytes_eq m (name y) ≡ false → has_name name m (repeated n y) ≡ false
  other_name zero m y h = refl
  other_name (suc n) m y h = ap (λ b. b || has_name name m (repeated n y)) h ∙ other_name n m y h

  own_name : (n : ℕ) (y : Y) → has_name name (name y) (repeated n y) ≡ is_some_of n
  own_name zero y = refl
  own_name (suc n) y = ap (λ b. b || has_name name (name y) (repeated n y)) ((bytes_eq-Decides (name y) (name y)).1 refl)

  none_in_blocks : (c : X → ℕ) (x : X) (xs : List X) → Each (IsApart x) xs → has_name name (name (tag x)) (blocks c xs) ≡ false
  none_in_blocks c x [] h = refl
  none_in_blocks c x (y ∷ ys) h =
      has-append (name (tag x)) (repeated (c y) (tag y)) (blocks c ys)
      ∙ ap (λ b. b || has_name name (name (tag x)) (blocks c ys)) (other_name (c y) (name (tag x)) (tag y) h.0.0) ∙ none_in_blocks c x ys h.1

  in_blocks : (c : X → ℕ) (xs : List X) → AreApart xs → Each (λ x. has_name name (name (tag x)) (blocks c xs) ≡ is_some_of (c x)) xs
  in_blocks c [] h = tt
  in_blocks c (x ∷ xs) h = (
    has-append (name (tag x)) (repeated (c x) (tag x)) (blocks c xs)
        ∙ ap (λ b. b || has_name name (name (tag x)) (blocks c xs)) (own_name (c x) (tag x)) ∙ ap (λ b. is_some_of (c x) || b) (none_in_blocks c x xs h.0) ∙ or-false (is_some_of (c x)),
    both xs h.0 (in_blocks c xs h.1),
  )
    where
      both : (ys : List X) → Each (IsApart x) ys → Each (λ y. has_name name (name (tag y)) (blocks c xs) ≡ is_some_of (c y)) ys → Each (λ y. has_name name (name (tag y)) (blocks c (x ∷ xs)) ≡ is_some_of (c y)) ys
      both [] a k = tt
      both (y ∷ ys) a k = (
        has-append (name (tag y)) (repeated (c x) (tag x)) (blocks c xs) ∙ ap (λ b. b || has_name name (name (tag y)) (blocks c xs)) (other_name (c x) (name (tag y)) (tag x) a.0.1) ∙ k.0,
        both ys a.1 k.1,
      )

  -- more that has other names hides none
  still_unseen : (n : ℕ) (x : X) (before : List Y) (ys : List X) → Each (IsApart x) ys → Each (λ y. unseen (before ++ repeated n (tag x)) y ≡ unseen before y) ys
  still_unseen n x before [] h = tt
  still_unseen n x before (y ∷ ys) h = (
    ap not (has-append (name (tag y)) before (repeated n (tag x)) ∙ ap (λ b. has_name name (name (tag y)) before || b) (other_name n (name (tag y)) (tag x) h.0.1) ∙ or-false (has_name name (name (tag y)) before)),
    still_unseen n x before ys h.1,
  )

  abbrev gives : (X → ℕ) → X → Bool
  gives c x = is_some_of (c x)

  kept_block : (c : X → ℕ) (before : List Y) (xs : List X) → AreApart xs → kept before (blocks c xs) ≡ map tag (filter (gives c) (filter (unseen before) xs))
  kept_block c before [] h = refl
  kept_block c before (x ∷ xs) h =
      kept-append before (repeated (c x) (tag x)) (blocks c xs)
      ∙ (λ i. kept_once (c x) (tag x) before i ++ (kept_block c (before ++ repeated (c x) (tag x)) xs h.1 ∙ ap (λ l. map tag (filter (gives c) l)) (filter_each (unseen (before ++ repeated (c x) (tag x))) (unseen before) xs (still_unseen (c x) x before xs h.0))) i)
      ∙ by (has_name name (name (tag x)) before) (is_some_of (c x)) refl
    where
      by : (b g : Bool) → is_some_of (c x) ≡ g → (if g then (if b then [] else tag x ∷ []) else []) ++ map tag (filter (gives c) (filter (unseen before) xs)) ≡ map tag (filter (gives c) (cond (not b) (x ∷ filter (unseen before) xs) (filter (unseen before) xs)))
      by true true e = refl
      by true false e = refl
      by false true e = ap (λ g. map tag (cond g (x ∷ filter (gives c) (filter (unseen before) xs)) (filter (gives c) (filter (unseen before) xs)))) (sym e)
      by false false e = ap (λ g. map tag (cond g (x ∷ filter (gives c) (filter (unseen before) xs)) (filter (gives c) (filter (unseen before) xs)))) (sym e)

  -- what classes give, one class after the other
  abbrev pub all_blocks : List (X → ℕ) → List X → List Y
  all_blocks [] xs = []
  all_blocks (c ∷ cs) xs = blocks c xs ++ all_blocks cs xs

  abbrev pub tests : List (X → ℕ) → List (X → Bool)
  tests cs = map gives cs

  unseen_after : (c : X → ℕ) (before : List Y) (xs : List X) → AreApart xs → filter (unseen (before ++ blocks c xs)) xs ≡ filter (λ x. not (gives c x)) (filter (unseen before) xs)
  unseen_after c before xs h =
      filter_each (unseen (before ++ blocks c xs)) (λ x. cond (unseen before x) (not (gives c x)) false) xs (Each-map each xs (in_blocks c xs h))
      ∙ sym (filter_filter (λ x. not (gives c x)) (unseen before) xs)
    where
      each : (x : X) → has_name name (name (tag x)) (blocks c xs) ≡ gives c x → unseen (before ++ blocks c xs) x ≡ cond (unseen before x) (not (gives c x)) false
      each x e = ap not (has-append (name (tag x)) before (blocks c xs) ∙ ap (λ b. has_name name (name (tag x)) before || b) e) ∙ by (has_name name (name (tag x)) before) (gives c x)
        where
          by : (a b : Bool) → not (a || b) ≡ cond (not a) (not b) false
          by true b = refl
          by false b = refl

  kept_blocks : (cs : List (X → ℕ)) (before : List Y) (xs : List X) → AreApart xs → kept before (all_blocks cs xs) ≡ map tag (arranged (tests cs) (filter (unseen before) xs))
  kept_blocks [] before xs h = refl
  kept_blocks (c ∷ cs) before xs h =
      kept-append before (blocks c xs) (all_blocks cs xs)
      ∙ (λ i. kept_block c before xs h i ++ (kept_blocks cs (before ++ blocks c xs) xs h ∙ ap (λ l. map tag (arranged (tests cs) l)) (unseen_after c before xs h)) i)
      ∙ sym (map-append tag (filter (gives c) (filter (unseen before) xs)) (arranged (tests cs) (filter (λ x. not (gives c x)) (filter (unseen before) xs))))

  all_unseen : (xs : List X) → filter (unseen []) xs ≡ xs
  all_unseen [] = refl
  all_unseen (x ∷ xs) = ap (λ l. x ∷ l) (all_unseen xs)

  -- each once
  pub firsts_arranged : (cs : List (X → ℕ)) (xs : List X) → AreApart xs → firsts name (all_blocks cs xs) ≡ map tag (arranged (tests cs) xs)
  firsts_arranged cs xs h = kept_blocks cs [] xs h ∙ ap (λ l. map tag (arranged (tests cs) l)) (all_unseen xs)

-- ---- arranging twice

pub not_true : (b : Bool) → not b ≡ true → b ≡ false
not_true true h = absurd (true≢false (sym h))
not_true false h = refl

module _ {X : Type 0} where
  pub filter_all : (p : X → Bool) (xs : List X) → Each (λ x. p x ≡ true) xs → filter p xs ≡ xs
  filter_all p [] h = refl
  filter_all p (x ∷ xs) h = ap (λ b. cond b (x ∷ filter p xs) (filter p xs)) h.0 ∙ ap (λ l. x ∷ l) (filter_all p xs h.1)

  pub filter_none : (p : X → Bool) (xs : List X) → Each (λ x. p x ≡ false) xs → filter p xs ≡ []
  filter_none p [] h = refl
  filter_none p (x ∷ xs) h = ap (λ b. cond b (x ∷ filter p xs) (filter p xs)) h.0 ∙ filter_none p xs h.1

  Each-filter : (P : X → Type 0) (p : X → Bool) (xs : List X) → Each P xs → Each P (filter p xs)
  Each-filter P p [] h = tt
  Each-filter P p (x ∷ xs) h = by (p x) (Each-filter P p xs h.1)
    where
      by : (b : Bool) → Each P (filter p xs) → Each P (cond b (x ∷ filter p xs) (filter p xs))
      by true rest = (h.0, rest)
      by false rest = rest

  pub passed : (p : X → Bool) (xs : List X) → Each (λ x. p x ≡ true) (filter p xs)
  passed p [] = tt
  passed p (x ∷ xs) = by (p x) refl (passed p xs)
    where
      by : (b : Bool) → p x ≡ b → Each (λ x. p x ≡ true) (filter p xs) → Each (λ x. p x ≡ true) (cond b (x ∷ filter p xs) (filter p xs))
      by true e rest = (e, rest)
      by false e rest = rest

  pub Each-append : (P : X → Type 0) (xs ys : List X) → Each P xs → Each P ys → Each P (xs ++ ys)
  Each-append P [] ys h k = k
  Each-append P (x ∷ xs) ys h k = (h.0, Each-append P xs ys h.1 k)

  pub Each-arranged : (P : X → Type 0) (cs : List (X → Bool)) (xs : List X) → Each P xs → Each P (arranged cs xs)
  Each-arranged P [] xs h = tt
  Each-arranged P (c ∷ cs) xs h = Each-append P (filter c xs) (arranged cs (filter (λ x. not (c x)) xs)) (Each-filter P c xs h) (Each-arranged P cs (filter (λ x. not (c x)) xs) (Each-filter P (λ x. not (c x)) xs h))

  pub arranged-arranged : (cs : List (X → Bool)) (xs : List X) → arranged cs (arranged cs xs) ≡ arranged cs xs
  arranged-arranged [] xs = refl
  arranged-arranged (c ∷ cs) xs =
      let first = filter c xs in
      let others = filter (λ x. not (c x)) xs in
      let rest = arranged cs others in
      let firsts_pass : Each (λ x. c x ≡ true) first = passed c xs in
      let rest_not : Each (λ x. not (c x) ≡ true) rest = Each-arranged (λ x. not (c x) ≡ true) cs others (passed (λ x. not (c x)) xs) in
      let kept_first : filter c (first ++ rest) ≡ first =
      filter-append c first rest ∙ (λ i. filter_all c first firsts_pass i ++ filter_none c rest (Each-map (λ x h. not_true (c x) h) rest rest_not) i) ∙ append-nil first in
      let kept_rest : filter (λ x. not (c x)) (first ++ rest) ≡ rest =
      filter-append (λ x. not (c x)) first rest ∙ (λ i. filter_none (λ x. not (c x)) first (Each-map (λ x h. ap not h) first firsts_pass) i ++ filter_all (λ x. not (c x)) rest rest_not i) in
      (λ i. kept_first i ++ (ap (arranged cs) kept_rest ∙ arranged-arranged cs others) i)
