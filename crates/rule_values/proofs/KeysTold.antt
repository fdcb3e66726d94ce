-- The list of faults of the keys in a value tells the rule on them.
use Rattle.std.proofs.Common.{◌≡◌, ℕ, ◌<◌, ◌+◌, zero, suc, Bool, true, false, List, [], ◌∷◌, ◌++◌, map, length, find, slice_get, bytes_eq, Option, Some, refl, sym, ap, subst, ◌∙◌, inl, inr, ◌⊎◌, if◌then◌else◌, arith, append_assoc}
use Rattle.std.specs.Bool.{Decides}
use Rattle.std.specs.Option.{option_map_or}
use Rattle.std.proofs.lemmas.List.{map-append}
use Rattle.std.proofs.lemmas.Slice.Eq.{bytes_eq-Decides}
use Rattle.graphql_names.specs.Placed.{Placed, Place, Text}
use Rattle.tree_literals.specs.ValueTree.{ValueTree, ItemTrees, EntryTrees, NullTree, EnumTree, VariableTree, StringTree, FloatTree, IntTree, BooleanTree, ListTree, ObjectTree, no_items, item_then, no_entries, entry_then}
use Rattle.fault_data.specs.in_rule_definitions.Diagnostics.{UniqueInputValue}
use Rattle.fault_data.specs.in_rule_definitions.Words.{Present, AtSomeIndex, IsFirst, FirstNamed, Repeats}
use Rattle.fault_data.specs.in_rule_definitions.GivenValues.{entry_list}
use Rattle.fault_data.specs.in_rule_definitions.Faults.{wrong}
use Rattle.fault_data.specs.in_rule_definitions.Values.{UniqueInputValueIn, UniqueInputValueInItems, UniqueInputValueInEntries}
use Rattle.fault_data.specs.in_rule_definitions.PlacedFaults.{PlacedFault}
use Rattle.rule_values.specs.KeyFaults.{repeated_key, repeated_keys, key_faults, key_faults_items, key_faults_entries}
use Rattle.rule_values.proofs.Tells.{no_true, no_some, Tells, tells_same, tells_both, tells_nothing, tells_one, tells_present}

-- ---- what is at an index of two lists, one after the other

module _ {X : Type 0} where
  pub at_end : (xs ys : List X) (y : X) → slice_get (xs ++ y ∷ ys) (length xs) ≡ Some y
  at_end [] ys y = refl
  at_end (x ∷ xs) ys y = at_end xs ys y

  pub in_front : (xs ys : List X) (i : ℕ) (x : X) → slice_get xs i ≡ Some x → (slice_get (xs ++ ys) i ≡ Some x) × (i < length xs)
  in_front [] ys i x e = cc
  in_front (z ∷ xs) ys zero x e = (e, omega arith)
  in_front (z ∷ xs) ys (suc i) x e = let r = in_front xs ys i x e in (r.0, omega (arith, r.1))

  pub from_front : (xs ys : List X) (i : ℕ) (x : X) → i < length xs → slice_get (xs ++ ys) i ≡ Some x → slice_get xs i ≡ Some x
  from_front [] ys i x h e = absurd (omega (arith, h))
  from_front (z ∷ xs) ys zero x h e = e
  from_front (z ∷ xs) ys (suc i) x h e = from_front xs ys i x (omega (arith, h)) e

-- ---- a later one of a name, and the first of that name

module _ {X : Type 0} (name : X → List ℕ) where
  abbrev first_named : List X → List ℕ → Option X
  first_named xs n = find (λ x. bytes_eq (name x) n) xs

  -- the first of the name is at an index, and none before it has the name
  first_at : (xs : List X) (n : List ℕ) (x : X) → first_named xs n ≡ Some x → (i : ℕ) × ((slice_get xs i ≡ Some x) × ((name x ≡ n) × IsFirst name xs n i))
  first_at [] n x e = cc
  first_at (y ∷ xs) n x e = by (bytes_eq (name y) n) (bytes_eq-Decides (name y) n) (first_at xs n x) e
    where
      by : (b : Bool) → Decides b (name y ≡ n) → (first_named xs n ≡ Some x → (i : ℕ) × ((slice_get xs i ≡ Some x) × ((name x ≡ n) × IsFirst name xs n i)))
          → (if b then Some y else first_named xs n) ≡ Some x → (i : ℕ) × ((slice_get (y ∷ xs) i ≡ Some x) × ((name x ≡ n) × IsFirst name (y ∷ xs) n i))
      by true d rest e = let same : y ≡ x = cc in (zero, (ap Some same, (ap name (sym same) ∙ d.0 refl, λ r. absurd (omega (arith, r.1.1.1.0)))))
      by false d rest e = let r = rest e in (suc r.0, (r.1.0, (r.1.1.0, λ q. none r.0 r.1.1.1 q)))
        where
          none : (i : ℕ) → IsFirst name xs n i → AtSomeIndex (y ∷ xs) (λ k z. (k < suc i) × (name z ≡ n)) → ⊥
          none i first (zero, (z, (e, (h, is)))) = let same : z ≡ y = cc in no_true (d.1 (ap name (sym same) ∙ is))
          none i first (suc k, (z, (e, (h, is)))) = first (k, (z, (e, (omega (arith, h), is))))

  first_of : (xs : List X) (n : List ℕ) (i : ℕ) (x : X) → slice_get xs i ≡ Some x → name x ≡ n → IsFirst name xs n i → first_named xs n ≡ Some x
  first_of [] n i x e is first = cc
  first_of (y ∷ xs) n zero x e is first = let same : y ≡ x = cc in ap (λ b. if b then Some y else first_named xs n) ((bytes_eq-Decides (name y) n).1 (ap name same ∙ is)) ∙ ap Some same
  first_of (y ∷ xs) n (suc i) x e is first = by (bytes_eq (name y) n) (bytes_eq-Decides (name y) n) (first_of xs n i x e is (λ q. first (suc q.0, (q.1.0, (q.1.1.0, (omega (arith, q.1.1.1.0), q.1.1.1.1))))))
    where
      by : (b : Bool) → Decides b (name y ≡ n) → first_named xs n ≡ Some x → (if b then Some y else first_named xs n) ≡ Some x
      by true d rest = absurd (first (zero, (y, (refl, (omega arith, d.0 refl)))))
      by false d rest = rest

  module _ {Y : Type 0} (tell : X → X → Y) where
    abbrev one_repeat : List X → X → List Y
    one_repeat before x = option_map_or (λ first. tell first x ∷ []) (first_named before (name x)) []

    -- each that has the name of one before it, with the first of that name
    abbrev pub repeats_after : List X → List X → List Y
    repeats_after before [] = []
    repeats_after before (x ∷ xs) = one_repeat before x ++ repeats_after (before ++ x ∷ []) xs

    -- the same by index, of the whole list
    abbrev RepeatAt : List X → ℕ → X → Y → Type 0
    RepeatAt all j x f = FirstNamed name all (name x) (λ i first. (i < j) × (f ≡ tell first x))

    abbrev RepeatsAfter : List X → List X → List X → Y → Type 0
    RepeatsAfter all before xs f = AtSomeIndex xs (λ k x. RepeatAt all (length before + k) x f)

    one_told : (before xs : List X) (x : X) → Tells (one_repeat before x) (RepeatAt (before ++ x ∷ xs) (length before) x)
    one_told before xs x =
        tells_same _ (λ f. Present (first_named before (name x)) (λ first. f ≡ tell first x)) _ (λ f. (to f, from f))
        (tells_present (first_named before (name x)) (λ first. tell first x ∷ []) (λ first f. f ≡ tell first x) (λ first e. tells_one (tell first x)))
      where
        to : (f : Y) → Present (first_named before (name x)) (λ first. f ≡ tell first x) → RepeatAt (before ++ x ∷ xs) (length before) x f
        to f (first, (e, is)) =
            let r = first_at before (name x) first e in
            let here = in_front before (x ∷ xs) r.0 first r.1.0 in
            (r.0, (first, (here.0, (r.1.1.0, ((λ q. r.1.1.1 (q.0, (q.1.0, (from_front before (x ∷ xs) q.0 q.1.0 (omega (arith, q.1.1.1.0, here.1)) q.1.1.0, q.1.1.1)))), (here.1, is))))))

        from : (f : Y) → RepeatAt (before ++ x ∷ xs) (length before) x f → Present (first_named before (name x)) (λ first. f ≡ tell first x)
        from f (i, (first, (e, (named, (none, (h, is)))))) = (
          first,
          (
            first_of before (name x) i first (from_front before (x ∷ xs) i first h e) named
                (λ q. none (q.0, (q.1.0, ((in_front before (x ∷ xs) q.0 q.1.0 q.1.1.0).0, q.1.1.1)))),
            is,
          ),
        )

    after_told : (before xs : List X) → Tells (repeats_after before xs) (RepeatsAfter (before ++ xs) before xs)
    after_told before [] = tells_nothing _ (λ f q. no_some q.1.0 q.1.1.0)
    after_told before (x ∷ xs) =
        tells_same _ (λ f. RepeatAt (before ++ x ∷ xs) (length before) x f ⊎ RepeatsAfter (before ++ x ∷ xs) (before ++ x ∷ []) xs f) _ (λ f. (to f, λ q. from f q.0 q.1))
        (tells_both _ _ _ _ (one_told before xs x)
        (subst (λ all. Tells (repeats_after (before ++ x ∷ []) xs) (RepeatsAfter all (before ++ x ∷ []) xs)) (append_assoc before (x ∷ []) xs) (after_told (before ++ x ∷ []) xs)))
      where
        all : List X
        all = before ++ x ∷ xs

        longer : (ys : List X) (y : X) (k : ℕ) → length (ys ++ y ∷ []) + k ≡ length ys + suc k
        longer [] y k = omega arith
        longer (z ∷ ys) y k = let r = longer ys y k in omega (arith, r)

        at_start : (ys : List X) → length ys + 0 ≡ length ys
        at_start ys = omega arith

        to : (f : Y) → RepeatAt all (length before) x f ⊎ RepeatsAfter all (before ++ x ∷ []) xs f → RepeatsAfter all before (x ∷ xs) f
        to f (inl r) = (zero, (x, (refl, subst (λ j. RepeatAt all j x f) (sym (at_start before)) r)))
        to f (inr (k, (y, (e, r)))) = (suc k, (y, (e, subst (λ j. RepeatAt all j y f) (longer before x k) r)))

        from : (f : Y) (k : ℕ) → Present (slice_get (x ∷ xs) k) (λ y. RepeatAt all (length before + k) y f) → RepeatAt all (length before) x f ⊎ RepeatsAfter all (before ++ x ∷ []) xs f
        from f zero (y, (e, r)) = let same : y ≡ x = cc in inl (subst (λ j. RepeatAt all j x f) (at_start before) (subst (λ z. RepeatAt all (length before + 0) z f) same r))
        from f (suc k) (y, (e, r)) = inr (k, (y, (e, subst (λ j. RepeatAt all j y f) (sym (longer before x k)) r)))

    pub repeats_told : (xs : List X) → Tells (repeats_after [] xs) (λ f. Repeats name xs (λ i first j later. f ≡ tell first later))
    repeats_told xs =
        tells_same _ (RepeatsAfter xs [] xs) _
        (λ f. (
          λ r. (r.0, (r.1.0, (r.1.1.0, subst (λ j. RepeatAt xs j r.1.0 f) (none_more r.0) r.1.1.1))),
          λ r. (r.0, (r.1.0, (r.1.1.0, subst (λ j. RepeatAt xs j r.1.0 f) (sym (none_more r.0)) r.1.1.1))),
        ))
        (after_told [] xs)
      where
        none_more : (k : ℕ) → 0 + k ≡ k
        none_more k = omega arith

-- ---- keys

abbrev Entry : Type 0
Entry = Text Place × Placed Place (ValueTree Place)

abbrev key : Entry → List ℕ
key e = e.0.it

abbrev told : Entry → Entry → PlacedFault
told first later = wrong later.0.place (UniqueInputValue later.0.it first.0.place later.0.place)

key_of_entries : (before : List Entry) (x : Entry) → repeated_key (map (λ (e : Entry). e.0) before) x.0 ≡ option_map_or (λ first. told first x ∷ []) (find (λ (e : Entry). bytes_eq (key e) (key x)) before) []
key_of_entries [] x = refl
key_of_entries (e ∷ before) x = by (bytes_eq e.0.it x.0.it) (key_of_entries before x)
  where
    by : (b : Bool) → repeated_key (map (λ (y : Entry). y.0) before) x.0 ≡ option_map_or (λ first. told first x ∷ []) (find (λ (y : Entry). bytes_eq (key y) (key x)) before) []
        → option_map_or (λ k. wrong x.0.place (UniqueInputValue x.0.it k.place x.0.place) ∷ []) (if b then Some e.0 else find (λ k. bytes_eq k.it x.0.it) (map (λ (y : Entry). y.0) before)) []
        ≡ option_map_or (λ first. told first x ∷ []) (if b then Some e else find (λ (y : Entry). bytes_eq (key y) (key x)) before) []
    by true rest = refl
    by false rest = rest

keys_are : (before : List Entry) (es : EntryTrees Place) → repeated_keys (map (λ (e : Entry). e.0) before) es ≡ repeats_after key told before (entry_list es)
keys_are before no_entries = refl
keys_are before (entry_then n p v es) =
    let x : Entry = (n, record { it = v; place = p }) in
    (λ i. key_of_entries before x i ++ repeated_keys (sym (map-append (λ (e : Entry). e.0) before (x ∷ [])) i) es)
    ∙ ap (λ l. option_map_or (λ first. told first x ∷ []) (find (λ (e : Entry). bytes_eq (key e) (key x)) before) [] ++ l) (keys_are (before ++ x ∷ []) es)

mutual
  pub keys_told : (v : ValueTree Place) → Tells (key_faults v) (UniqueInputValueIn v)
  keys_told (ListTree ts) = items_told ts
  keys_told (ObjectTree es) =
      tells_both (repeated_keys [] es) (key_faults_entries es) _ (UniqueInputValueInEntries es)
      (subst (λ l. Tells l (λ f. Repeats key (entry_list es) (λ i first j later. f ≡ told first later))) (sym (keys_are [] es)) (repeats_told key told (entry_list es)))
      (entries_told es)
  keys_told NullTree = tells_nothing _ (λ f h. h)
  keys_told (EnumTree n) = tells_nothing _ (λ f h. h)
  keys_told (VariableTree n) = tells_nothing _ (λ f h. h)
  keys_told (StringTree s) = tells_nothing _ (λ f h. h)
  keys_told (FloatTree s) = tells_nothing _ (λ f h. h)
  keys_told (IntTree s) = tells_nothing _ (λ f h. h)
  keys_told (BooleanTree b) = tells_nothing _ (λ f h. h)

  items_told : (ts : ItemTrees Place) → Tells (key_faults_items ts) (UniqueInputValueInItems ts)
  items_told no_items = tells_nothing _ (λ f h. h)
  items_told (item_then p v ts) = tells_both (key_faults v) (key_faults_items ts) (UniqueInputValueIn v) (UniqueInputValueInItems ts) (keys_told v) (items_told ts)

  entries_told : (es : EntryTrees Place) → Tells (key_faults_entries es) (UniqueInputValueInEntries es)
  entries_told no_entries = tells_nothing _ (λ f h. h)
  entries_told (entry_then n p v es) = tells_both (key_faults v) (key_faults_entries es) (UniqueInputValueIn v) (UniqueInputValueInEntries es) (keys_told v) (entries_told es)
