-- What is somewhere in a list is somewhere in one that is rearranged, after the same elements of its sort.
use Rattle.std.proofs.Common.{◌≡◌, ℕ, Bool, true, false, ◌||◌, cond, List, [], ◌∷◌, ◌++◌, map, filter, find, slice_get, bytes_eq, is_some, Contains, refl, sym, ap, ◌∙◌, Some, true≢false, if◌then◌else◌, inl, inr}
use Rattle.std.proofs.lemmas.List.{map-append}
use Rattle.std.proofs.lemmas.List.Elements.{filter-append}
use Rattle.std.proofs.lemmas.Slice.Eq.{bytes_eq-Decides}
use Rattle.schema_fold.specs.in_components.Lists.{StandsAfter, IsRepeated, each_place_after, firsts, has_name, is_among}
use Rattle.schema_fold.proofs.in_components.Firsts.{has_name-push}
use Rattle.schema_fold.proofs.in_components.Places.{not_in_nil, Contains-cons}
use Rattle.verdict_laws.proofs.Gathered.{every}

module _ {X Y : Type 0} (f : X → Y) where
  -- an element that is among those of a sort is in the list
  pub record Placed_so (sort : X → Bool) (xs : List X) (before : List Y) (y : Y) : Type 0 where
    pub front : List X
    pub it : X
    pub stands : StandsAfter xs front it
    pub sorted : sort it ≡ true
    pub same : f it ≡ y
    pub front_same : map f (filter sort front) ≡ before

  head_same : (a b : Y) (as' bs : List Y) → a ∷ as' ≡ b ∷ bs → a ≡ b
  head_same a b as' bs e = cc

  tail_same : (a b : Y) (as' bs : List Y) → a ∷ as' ≡ b ∷ bs → as' ≡ bs
  tail_same a b as' bs e = cc

  module _ (sort : X → Bool) where
    further : (x : X) (xs : List X) (before : List Y) (y : Y) → sort x ≡ false → Placed_so sort xs before y → Placed_so sort (x ∷ xs) before y
    further x xs before y fails p = record {
      front = x ∷ p.front;
      it = p.it;
      stands = (p.stands.0, ap (λ l. x ∷ l) p.stands.1);
      sorted = p.sorted;
      same = p.same;
      front_same = ap (λ b. map f (cond b (x ∷ filter sort p.front) (filter sort p.front))) fails ∙ p.front_same;
    }

    after_one : (x : X) (xs : List X) (b : Y) (before : List Y) (y : Y) → sort x ≡ true → f x ≡ b → Placed_so sort xs before y → Placed_so sort (x ∷ xs) (b ∷ before) y
    after_one x xs b before y holds e p = record {
      front = x ∷ p.front;
      it = p.it;
      stands = (p.stands.0, ap (λ l. x ∷ l) p.stands.1);
      sorted = p.sorted;
      same = p.same;
      front_same = ap (λ c. map f (cond c (x ∷ filter sort p.front) (filter sort p.front))) holds ∙ (λ i. e i ∷ p.front_same i);
    }

    pub found : (xs : List X) (before : List Y) (y : Y) (after : List Y) → map f (filter sort xs) ≡ before ++ y ∷ after → Placed_so sort xs before y
    found [] [] y after e = cc
    found [] (b ∷ before) y after e = cc
    found (x ∷ xs) before y after e = by (sort x) refl before (λ before' h. found xs before' y after h) e
      where
        by : (b : Bool) → sort x ≡ b → (before : List Y) → ((before' : List Y) → map f (filter sort xs) ≡ before' ++ y ∷ after → Placed_so sort xs before' y)
            → map f (cond b (x ∷ filter sort xs) (filter sort xs)) ≡ before ++ y ∷ after → Placed_so sort (x ∷ xs) before y
        by false fails before rest e = further x xs before y fails (rest before e)
        by true holds [] rest e = record {
          front = [];
          it = x;
          stands = (xs, refl);
          sorted = holds;
          same = head_same (f x) y (map f (filter sort xs)) after e;
          front_same = refl;
        }
        by true holds (b ∷ before) rest e = after_one x xs b before y holds (head_same (f x) b (map f (filter sort xs)) (before ++ y ∷ after) e) (rest before (tail_same (f x) b (map f (filter sort xs)) (before ++ y ∷ after) e))

    -- in a list with the same of the sort
    pub moved : (xs ys : List X) → map f (filter sort xs) ≡ map f (filter sort ys) → (before : List X) (x : X) → StandsAfter xs before x → sort x ≡ true → Placed_so sort ys (map f (filter sort before)) (f x)
    moved xs ys same before x (after, is) holds = found ys (map f (filter sort before)) (f x) (map f (filter sort after)) (
        sym same ∙ ap (λ l. map f (filter sort l)) is ∙ ap (map f) (filter-append sort before (x ∷ after)) ∙ map-append f (filter sort before) (filter sort (x ∷ after))
        ∙ ap (λ b. map f (filter sort before) ++ map f (cond b (x ∷ filter sort after) (filter sort after))) holds)

  -- what is repeated, by names that f keeps
  pub repeated : (key : X → List ℕ) (key' : Y → List ℕ) → ((x : X) → key x ≡ key' (f x)) → (xs ys : List X) → map f xs ≡ map f ys → (x : X) → IsRepeated key xs x → (y : X) × (IsRepeated key ys y × (f y ≡ f x))
  repeated key key' keeps xs ys same x (before, (z, (stands, (is, has)))) =
      let p = moved (λ w. true) xs ys (ap (map f) (every xs) ∙ same ∙ ap (map f) (sym (every ys))) before z stands refl in
      let fronts : map f p.front ≡ map f before = ap (map f) (sym (every p.front)) ∙ p.front_same ∙ ap (map f) (every before) in
      let named : key p.it ≡ key x = keeps p.it ∙ ap key' (p.same ∙ ap f is) ∙ sym (keeps x) in
      let has' : has_name key (key p.it) p.front ≡ true =
      ap (λ n. has_name key n p.front) named ∙ ap (is_among (key x)) (names_kept p.front ∙ ap (map key') fronts ∙ sym (names_kept before)) ∙ has in
      (p.it, ((p.front, (p.it, (p.stands, (refl, has')))), p.same ∙ ap f is))
    where
      names_kept : (zs : List X) → map key zs ≡ map key' (map f zs)
      names_kept [] = refl
      names_kept (w ∷ zs) = λ i. keeps w i ∷ names_kept zs i

-- ---- names

module _ {X Y : Type 0} (key : X → List ℕ) (f : X → Y) where
  -- a name is there where something of it is
  pub has_name-filter : (n : List ℕ) (xs : List X) → has_name key n xs ≡ is_some (slice_get (map f (filter (λ x. bytes_eq n (key x)) xs)) 0)
  has_name-filter n [] = refl
  has_name-filter n (x ∷ xs) = by (bytes_eq n (key x)) (has_name-filter n xs)
    where
      by : (b : Bool) → has_name key n xs ≡ is_some (slice_get (map f (filter (λ x. bytes_eq n (key x)) xs)) 0)
          → (b || has_name key n xs) ≡ is_some (slice_get (map f (cond b (x ∷ filter (λ y. bytes_eq n (key y)) xs) (filter (λ y. bytes_eq n (key y)) xs))) 0)
      by true h = refl
      by false h = h

module _ {X : Type 0} (key : X → List ℕ) where
  abbrev kept_from : List X → List X → List X
  kept_from = each_place_after (λ before x. if has_name key (key x) before then [] else x ∷ [])

  or_left : (a b : Bool) → (a || b) ≡ false → a ≡ false
  or_left false b h = refl
  or_left true b h = h

  or_right : (a b : Bool) → (a || b) ≡ false → b ≡ false
  or_right false b h = h
  or_right true b h = absurd (true≢false h)

  abbrev IsNewFirst : List X → List X → X → Type 0
  IsNewFirst before xs t = (has_name key (key t) before ≡ false) × (find (λ x. bytes_eq (key t) (key x)) xs ≡ Some t)

  first_after : (before xs : List X) (t : X) → Contains (kept_from before xs) t → IsNewFirst before xs t
  first_after before [] t c = absurd (not_in_nil t c)
  first_after before (x ∷ xs) t c = by (has_name key (key x) before) refl c (λ d. first_after (before ++ x ∷ []) xs t d)
    where
      later : IsNewFirst (before ++ x ∷ []) xs t → IsNewFirst before (x ∷ xs) t
      later (new, is) =
          let split : (has_name key (key t) before || bytes_eq (key t) (key x)) ≡ false = sym (has_name-push key (key t) before x) ∙ new in (
            or_left (has_name key (key t) before) (bytes_eq (key t) (key x)) split,
            ap (λ (b : Bool). if b then Some x else find (λ y. bytes_eq (key t) (key y)) xs) (or_right (has_name key (key t) before) (bytes_eq (key t) (key x)) split) ∙ is,
          )

      by : (b : Bool) → has_name key (key x) before ≡ b → Contains ((if b then [] else x ∷ []) ++ kept_from (before ++ x ∷ []) xs) t → (Contains (kept_from (before ++ x ∷ []) xs) t → IsNewFirst (before ++ x ∷ []) xs t) → IsNewFirst before (x ∷ xs) t
      by true seen c rest = later (rest c)
      by false new c rest = elim (Contains-cons x (kept_from (before ++ x ∷ []) xs) t c) [
        | inl e ↦ (
          ap (λ z. has_name key (key z) before) (sym e) ∙ new,
          ap (λ (b : Bool). if b then Some x else find (λ y. bytes_eq (key t) (key y)) xs) ((bytes_eq-Decides (key t) (key x)).1 (ap key (sym e))) ∙ ap Some e,
        )
        | inr r ↦ later (rest r)
      ]

  pub first_named : (xs : List X) (t : X) → Contains (firsts key xs) t → find (λ x. bytes_eq (key t) (key x)) xs ≡ Some t
  first_named xs t c = (first_after [] xs t c).1
