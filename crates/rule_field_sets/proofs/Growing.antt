-- Lists that grow: what was there stays at its place.
use Rattle.std.proofs.Common.{◌≡◌, ◌⊎◌, ◌∙◌, ℕ, zero, suc, ◌<◌, Bool, true, false, ◌||◌, List, [], ◌∷◌, ◌++◌, map, length, get_or, slice_get, Some, Contains, refl, sym, ap, subst, append-nil, append_assoc, inl, inr, true≢false, if◌then◌else◌, arith}
use Rattle.std.specs.Option.{option_map}
use Rattle.std.specs.List.{list_any, AllZip}
use Rattle.std.specs.Bool.{Decides}
use Rattle.std.proofs.lemmas.Bool.{cases_lt}
use Rattle.std.proofs.lemmas.List.{length_push, get_or_append_left, map-append}
use Rattle.std.proofs.lemmas.Option.{slice_get_within, slice_get-get_or, get_or_from_slice_get}
use Rattle.std.proofs.Math.Seq.{get_or-append_seam}
use Rattle.indexmap.specs.IndexSet.{insert_key}
use Rattle.rule_cycle_search.specs.Paths.{HasNoRepeat}
use Rattle.rule_definitions.proofs.Lists.{not_in_nil, Contains-cons, slice_get-map}
use Rattle.rule_field_sets.specs.Tables.{Grows, Extends, EntriesExtend, Enters, keys_in}

module _ {X : Type 0} where
  pub grows_same : (old new : List X) → new ≡ old → Grows old new
  grows_same old new e = ([], e ∙ sym (append-nil old))

  pub grows_on : (old mid new : List X) → Grows old mid → Grows mid new → Grows old new
  grows_on old mid new (a, e) (b, f) = (a ++ b, f ∙ (ap (λ l. l ++ b) e ∙ append_assoc old a b))

  get_front : (old added : List X) (n : ℕ) (x : X) → slice_get old n ≡ Some x → slice_get (old ++ added) n ≡ Some x
  get_front [] added n x h = absurd (omega (arith, slice_get_within [] n x h))
  get_front (y ∷ ys) added zero x h = h
  get_front (y ∷ ys) added (suc n) x h = get_front ys added n x h

  front_same : (old added : List X) (n : ℕ) → n < length old → slice_get (old ++ added) n ≡ slice_get old n
  front_same [] added n within = absurd (omega (within, arith))
  front_same (y ∷ ys) added zero within = refl
  front_same (y ∷ ys) added (suc n) within = front_same ys added n (omega (within, arith))

  -- at its places nothing changes
  pub same_there : (old new : List X) (n : ℕ) → Grows old new → n < length old → slice_get new n ≡ slice_get old n
  same_there old new n (added, e) within = ap (λ l. slice_get l n) e ∙ front_same old added n within

  -- what was there is there
  pub stays : (old new : List X) (n : ℕ) (x : X) → Grows old new → slice_get old n ≡ Some x → slice_get new n ≡ Some x
  stays old new n x (added, e) h = subst (λ l. slice_get l n ≡ Some x) (sym e) (get_front old added n x h)

  pub last_at : (old : List X) (x : X) → slice_get (old ++ x ∷ []) (length old) ≡ Some x
  last_at [] x = refl
  last_at (y ∷ ys) x = last_at ys x

  pub push_cases : (xs : List X) (x : X) (i : ℕ) (y : X) → slice_get (xs ++ x ∷ []) i ≡ Some y → (slice_get xs i ≡ Some y) ⊎ ((i ≡ length xs) × (y ≡ x))
  push_cases xs x i y h =
      let within : i < length (xs ++ x ∷ []) = slice_get_within (xs ++ x ∷ []) i y h in
      let is : get_or (xs ++ x ∷ []) i y ≡ y = get_or_from_slice_get (xs ++ x ∷ []) i y y h in
      elim (cases_lt i (length xs)) [
        | inl low ↦ inl (slice_get-get_or xs i y low ∙ ap (λ a. Some a) (sym (get_or_append_left xs (x ∷ []) y i low) ∙ is))
        | inr high ↦
            let last : i ≡ length xs = omega (arith, length_push xs x) in
            inr (last, sym is ∙ ap (λ k. get_or (xs ++ x ∷ []) k y) last ∙ get_or-append_seam xs x [] y)
      ]

  pub contains_at : (xs : List X) (i : ℕ) (x : X) → slice_get xs i ≡ Some x → Contains xs x
  contains_at xs i x h = (i, slice_get_within xs i x h, get_or_from_slice_get xs i x x h)

  pub none_twice : HasNoRepeat {X = X} []
  none_twice i j x h k = absurd (omega (arith, slice_get_within [] i x h))

  pub apart_more : (xs : List X) (x : X) → HasNoRepeat xs → (Contains xs x → ⊥) → HasNoRepeat (xs ++ x ∷ [])
  apart_more xs x apart new i j y h k =
      elim (push_cases xs x i y h) [
        | inl a ↦ elim (push_cases xs x j y k) [
          | inl b ↦ apart i j y a b
          | inr b ↦ absurd (new (subst (Contains xs) b.1 (contains_at xs i y a)))
        ]
        | inr a ↦ elim (push_cases xs x j y k) [
          | inl b ↦ absurd (new (subst (Contains xs) a.1 (contains_at xs j y b)))
          | inr b ↦ a.0 ∙ sym b.0
        ]
      ]

  pub extends_same : (old new : List X) → new ≡ old → Extends old new
  extends_same old new e = record { grown = grows_same old new e; apart = λ h. subst HasNoRepeat (sym e) h }

  pub extends_on : (old mid new : List X) → Extends old mid → Extends mid new → Extends old new
  extends_on old mid new a b = record { grown = grows_on old mid new a.grown b.grown; apart = λ h. b.apart (a.apart h) }

  extends_push : (old : List X) (x : X) → (Contains old x → ⊥) → Extends old (old ++ x ∷ [])
  extends_push old x new = record { grown = (x ∷ [], refl); apart = λ h. apart_more old x h new }

-- ---- sets, by what their items say

module _ {T V : Type 0} (f : T → V) (eq : T → T → Bool) (decides : (a b : T) → Decides (eq a b) (f a ≡ f b)) where
  none_equal : (ks : List T) (k : T) → list_any (eq k) ks ≡ false → Contains (map f ks) (f k) → ⊥
  none_equal [] k e c = not_in_nil (f k) c
  none_equal (x ∷ ks) k e c = by (eq k x) refl e (none_equal ks k)
    where
      by : (b : Bool) → eq k x ≡ b → (b || list_any (eq k) ks) ≡ false → (list_any (eq k) ks ≡ false → Contains (map f ks) (f k) → ⊥) → ⊥
      by true i h rest = absurd (true≢false h)
      by false i h rest = elim (Contains-cons (f x) (map f ks) (f k) c) [
        | inl s ↦ absurd (true≢false (sym ((decides k x).1 (sym s)) ∙ i))
        | inr r ↦ rest h r
      ]

  -- an item that is inserted
  pub set_extends : (old new : List T) (k : T) → new ≡ insert_key eq old k → Extends (map f old) (map f new)
  set_extends old new k e = subst (λ l. Extends (map f old) (map f l)) (sym e) (by (list_any (eq k) old) refl)
    where
      by : (b : Bool) → list_any (eq k) old ≡ b → Extends (map f old) (map f (if b then old else old ++ k ∷ []))
      by true h = extends_same (map f old) (map f old) refl
      by false h = subst (Extends (map f old)) (sym (map-append f old (k ∷ []))) (extends_push (map f old) (f k) (none_equal old k h))

  pub set_number_is : (old new : List T) (k : T) (n : ℕ) → new ≡ insert_key eq old k → (x : T) × ((slice_get new n ≡ Some x) × (eq k x ≡ true)) → slice_get (map f new) n ≡ Some (f k)
  set_number_is old new k n is (x, (at, e)) = slice_get-map f new n ∙ (ap (option_map f) at ∙ ap (λ y. Some y) (sym ((decides k x).0 e)))

-- ---- maps

module _ {K V : Type 0} where
  pub entries_same : (old new : List (K × V)) → new ≡ old → EntriesExtend old new
  entries_same old new e = record { grown = grows_same old new e; apart = λ h. subst (λ l. HasNoRepeat (keys_in l)) (sym e) h }

  pub entries_on : (old mid new : List (K × V)) → EntriesExtend old mid → EntriesExtend mid new → EntriesExtend old new
  entries_on old mid new a b = record { grown = grows_on old mid new a.grown b.grown; apart = λ h. b.apart (a.apart h) }

  -- what is entered
  pub entered_grows : (old new : List (K × V)) (k : K) (v : V) (n : ℕ) → Enters old k v n new → EntriesExtend old new
  entered_grows old new k v n (inl (w, (at, e))) = entries_same old new e
  entered_grows old new k v n (inr (absent, (is, e))) = record {
    grown = ((k, v) ∷ [], e);
    apart = λ h. subst (λ l. HasNoRepeat (keys_in l)) (sym e) (subst HasNoRepeat (sym (map-append (λ (p : K × V). p.0) old ((k, v) ∷ []))) (apart_more (keys_in old) k h absent));
  }

  -- it is there, with the value that it had, or with this one
  pub entered_is : (old new : List (K × V)) (k : K) (v : V) (n : ℕ) → Enters old k v n new → (w : V) × ((slice_get new n ≡ Some (k, w)) × ((slice_get old n ≡ Some (k, w)) ⊎ (w ≡ v)))
  entered_is old new k v n (inl (w, (at, e))) = (w, (subst (λ l. slice_get l n ≡ Some (k, w)) (sym e) at, inl at))
  entered_is old new k v n (inr (absent, (is, e))) = (v, (subst (λ l. slice_get l n ≡ Some (k, v)) (sym e) (subst (λ m. slice_get (old ++ (k, v) ∷ []) m ≡ Some (k, v)) (sym is) (last_at old (k, v))), inr refl))

  -- an entry was there, or is the one that is entered
  pub entered_from : (old new : List (K × V)) (k : K) (v : V) (n : ℕ) → Enters old k v n new → (m : ℕ) (j : K) (w : V) → slice_get new m ≡ Some (j, w)
      → (slice_get old m ≡ Some (j, w)) ⊎ ((j ≡ k) × (w ≡ v))
  entered_from old new k v n (inl (u, (at, e))) m j w h = inl (subst (λ l. slice_get l m ≡ Some (j, w)) e h)
  entered_from old new k v n (inr (absent, (is, e))) m j w h = elim (push_cases old (k, v) m (j, w) (subst (λ l. slice_get l m ≡ Some (j, w)) e h)) [
    | inl a ↦ inl a
    | inr b ↦ inr (ap (λ (p : K × V). p.0) b.1, ap (λ (p : K × V). p.1) b.1)
  ]

-- ---- relations on lists of equal lengths

pub zip_map : {X Y : Type 0} (R S : X → Y → Type 0) → ((x : X) (y : Y) → R x y → S x y) → (xs : List X) (ys : List Y) → AllZip R xs ys → AllZip S xs ys
zip_map R S on [] [] h = tt
zip_map R S on [] (y ∷ ys) h = absurd h
zip_map R S on (x ∷ xs) [] h = absurd h
zip_map R S on (x ∷ xs) (y ∷ ys) h = (on x y h.0, zip_map R S on xs ys h.1)
