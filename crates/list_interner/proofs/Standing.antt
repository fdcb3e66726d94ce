-- What a table has at given numbers: lists of numbers have the same members exactly when the lists of what they number have.
use Rattle.std.proofs.Common.{◌≡◌, ◌⊎◌, ◌∙◌, ℕ, suc, ◌<◌, Bool, true, List, [], ◌∷◌, ◌++◌, map, length, get_or, slice_get, Some, Contains, refl, sym, ap, subst, length-append, arith, inl, inr}
use Rattle.std.specs.Option.{option_map}
use Rattle.std.specs.List.{swap}
use Rattle.std.specs.List.Sorted.{IsPermutation}
use Rattle.std.proofs.lemmas.List.{length-map, get_or_append_left}
use Rattle.std.proofs.lemmas.List.Edits.{Swapped, swapped_from_swap, length-swap}
use Rattle.std.proofs.lemmas.List.Sorted.{IsPermutation-refl, IsPermutation-map, IsPermutation-keeps, IsPermutation-sym, Contains-permutation}
use Rattle.std.proofs.lemmas.Option.{slice_get_within, slice_get-get_or, get_or_from_slice_get}
use Rattle.std.proofs.lemmas.Bool.{cases_eq}
use Rattle.rule_cycle_search.specs.Paths.{HasNoRepeat}
use Rattle.rule_cycle_search.proofs.Lists.{not_in_nil, Contains-cons, Contains-first, index_found, index_given, slice_get-map}
use Rattle.list_interner.specs.Numbered.{AreNumbersIn, Grows, AreWithin, at_places}
use Rattle.list_interner.specs.NumberLists.{HaveSame}

-- ---- members of a list that is mapped

module _ {X Y : Type 0} (f : X → Y) where
  pub in_map : (xs : List X) (x : X) → Contains xs x → Contains (map f xs) (f x)
  in_map xs x c = let i = index_found xs x c in index_given (map f xs) i.0 (f x) (slice_get-map f xs i.0 ∙ ap (option_map f) i.1)

  pub of_map : (xs : List X) (y : Y) → Contains (map f xs) y → (x : X) × (Contains xs x × (f x ≡ y))
  of_map [] y c = not_in_nil y c
  of_map (x ∷ xs) y c = elim (Contains-cons (f x) (map f xs) y c) [
    | inl e ↦ (x, (Contains-first x xs x refl, e))
    | inr r ↦ let z = of_map xs y r in (z.0, (Contains-rest x xs z.0 z.1.0, z.1.1))
  ]
    where
      Contains-rest : (a : X) (us : List X) (b : X) → Contains us b → Contains (a ∷ us) b
      Contains-rest a us b k = let i = index_found us b k in index_given (a ∷ us) (suc i.0) b i.1

  -- where a mapped list has no repeat the list has none
  pub no_repeat_before : (xs : List X) → HasNoRepeat (map f xs) → HasNoRepeat xs
  no_repeat_before xs apart i j x h k = apart i j (f x) (slice_get-map f xs i ∙ ap (option_map f) h) (slice_get-map f xs j ∙ ap (option_map f) k)

-- ---- another order

module _ {X : Type 0} where
  same_refl : (xs : List X) → HaveSame xs xs
  same_refl xs x = (λ c. c, λ c. c)

  pub same_sym : (xs ys : List X) → HaveSame xs ys → HaveSame ys xs
  same_sym xs ys same x = ((same x).1, (same x).0)

  pub same_trans : (xs ys zs : List X) → HaveSame xs ys → HaveSame ys zs → HaveSame xs zs
  same_trans xs ys zs a b x = (λ c. (b x).0 ((a x).0 c), λ c. (a x).1 ((b x).1 c))

  pub same_order : (xs ys : List X) → IsPermutation xs ys → HaveSame xs ys
  same_order xs ys p x = (Contains-permutation xs ys x p, Contains-permutation ys xs x (IsPermutation-sym xs ys p))

  -- where two places of a list are exchanged
  exchanged : (l : List X) (i j : ℕ) → i < length l → j < length l → HasNoRepeat l → HasNoRepeat (swap l i j)
  exchanged l i j in_i in_j apart a b x h k = by (cases_eq a i) (cases_eq a j) (cases_eq b i) (cases_eq b j)
    where
      now : List X
      now = swap l i j

      is : Swapped (λ n. get_or l n x) (λ n. get_or now n x) i j
      is = swapped_from_swap l now i j x in_i in_j refl

      within : (n : ℕ) → slice_get now n ≡ Some x → n < length l
      within n e = subst (λ m. n < m) (length-swap l i j) (slice_get_within now n x e)

      at : (n m : ℕ) → slice_get now n ≡ Some x → m < length l → get_or now n x ≡ get_or l m x → slice_get l m ≡ Some x
      at n m e low same = slice_get-get_or l m x low ∙ ap (λ y. Some y) (sym same ∙ get_or_from_slice_get now n x x e)

      -- where what is now at n was before
      from : (n : ℕ) → slice_get now n ≡ Some x → (n ≡ i) ⊎ (n ≡ i → ⊥) → (n ≡ j) ⊎ (n ≡ j → ⊥)
          → (m : ℕ) × ((slice_get l m ≡ Some x) × (((n ≡ i) × (m ≡ j)) ⊎ (((n ≡ j) × (m ≡ i)) ⊎ ((n ≡ i → ⊥) × ((n ≡ j → ⊥) × (m ≡ n))))))
      from n e (inl p) q = (j, (at n j e in_j (ap (λ m. get_or now m x) p ∙ is.0), inl (p, refl)))
      from n e (inr p) (inl q) = (i, (at n i e in_i (ap (λ m. get_or now m x) q ∙ is.1), inr (inl (q, refl))))
      from n e (inr p) (inr q) = (n, (at n n e (within n e) (is.2 n p q), inr (inr (p, (q, refl)))))

      by : (a ≡ i) ⊎ (a ≡ i → ⊥) → (a ≡ j) ⊎ (a ≡ j → ⊥) → (b ≡ i) ⊎ (b ≡ i → ⊥) → (b ≡ j) ⊎ (b ≡ j → ⊥) → a ≡ b
      by p q r s =
          let u = from a h p q in
          let v = from b k r s in
          let same = apart u.0 v.0 x u.1.0 v.1.0 in
          ends u.0 v.0 same u.1.1 v.1.1
        where
          ends : (m n : ℕ) → m ≡ n → ((a ≡ i) × (m ≡ j)) ⊎ (((a ≡ j) × (m ≡ i)) ⊎ ((a ≡ i → ⊥) × ((a ≡ j → ⊥) × (m ≡ a))))
              → ((b ≡ i) × (n ≡ j)) ⊎ (((b ≡ j) × (n ≡ i)) ⊎ ((b ≡ i → ⊥) × ((b ≡ j → ⊥) × (n ≡ b)))) → a ≡ b
          ends m n e (inl (g, w)) (inl (g', w')) = g ∙ sym g'
          ends m n e (inl (g, w)) (inr (inl (g', w'))) = g ∙ sym w' ∙ sym e ∙ w ∙ sym g'
          ends m n e (inl (g, w)) (inr (inr (u, (v, w')))) = absurd (v (sym w' ∙ sym e ∙ w))
          ends m n e (inr (inl (g, w))) (inl (g', w')) = g ∙ sym w' ∙ sym e ∙ w ∙ sym g'
          ends m n e (inr (inl (g, w))) (inr (inl (g', w'))) = g ∙ sym g'
          ends m n e (inr (inl (g, w))) (inr (inr (u, (v, w')))) = absurd (u (sym w' ∙ sym e ∙ w))
          ends m n e (inr (inr (u, (v, w)))) (inl (g', w')) = absurd (v (sym w ∙ e ∙ w'))
          ends m n e (inr (inr (u, (v, w)))) (inr (inl (g', w'))) = absurd (u (sym w ∙ e ∙ w'))
          ends m n e (inr (inr (u, (v, w)))) (inr (inr (u', (v', w')))) = sym w ∙ e ∙ w'

  -- a list without repeats has none in another order
  pub no_repeat_order : (xs ys : List X) → IsPermutation xs ys → HasNoRepeat xs → HasNoRepeat ys
  no_repeat_order xs ys p apart = IsPermutation-keeps xs HasNoRepeat apart exchanged ys p

-- ---- what a table has at given indices

none_within : (places : List ℕ) → ((n : ℕ) → Contains places n → n < 0) → places ≡ []
none_within [] w = refl
none_within (n ∷ ns) w = absurd (omega (arith, w n (Contains-first n ns n refl)))

module _ {X : Type 0} where
  -- each place has something
  pub place_has : (table : List X) (places : List ℕ) (n : ℕ) → AreWithin table places → Contains places n → (x : X) × ((slice_get table n ≡ Some x) × Contains (at_places table places) x)
  place_has [] places n w c = absurd (omega (arith, w n c))
  place_has (x ∷ xs) places n w c = (get_or (x ∷ xs) n x, (slice_get-get_or (x ∷ xs) n x (w n c), in_map (λ m. get_or (x ∷ xs) m x) places n c))

  -- and what is there has an index
  pub has_place : (table : List X) (places : List ℕ) (y : X) → AreWithin table places → Contains (at_places table places) y → (n : ℕ) × (Contains places n × (slice_get table n ≡ Some y))
  has_place [] places y w c = not_in_nil y c
  has_place (x ∷ xs) places y w c =
      let n = of_map (λ m. get_or (x ∷ xs) m x) places y c in
      (n.0, (n.1.0, slice_get-get_or (x ∷ xs) n.0 x (w n.0 n.1.0) ∙ ap (λ z. Some z) n.1.1))

  -- a longer table has the same there
  pub places_stay : (table more : List X) (places : List ℕ) → AreWithin table places → at_places (table ++ more) places ≡ at_places table places
  places_stay [] [] places w = refl
  places_stay [] (y ∷ ys) places w = ap (map (λ n. get_or (y ∷ ys) n y)) (none_within places w)
  places_stay (x ∷ xs) more places w = each places w
    where
      each : (ns : List ℕ) → AreWithin (x ∷ xs) ns → map (λ n. get_or ((x ∷ xs) ++ more) n x) ns ≡ map (λ n. get_or (x ∷ xs) n x) ns
      each [] h = refl
      each (n ∷ ns) h = λ i. get_or_append_left (x ∷ xs) more x n (h n (Contains-first n ns n refl)) i ∷ each ns (λ m c. h m (rest n ns m c)) i
        where
          rest : (a : ℕ) (us : List ℕ) (b : ℕ) → Contains us b → Contains (a ∷ us) b
          rest a us b k = let i = index_found us b k in index_given (a ∷ us) (suc i.0) b i.1

  pub within_more : (table more : List X) (places : List ℕ) → AreWithin table places → AreWithin (table ++ more) places
  within_more table more places w n c = omega (arith, w n c, length-append table more)

  pub within_order : (table : List X) (xs ys : List ℕ) → IsPermutation xs ys → AreWithin table xs → AreWithin table ys
  within_order table xs ys p w n c = w n (Contains-permutation ys xs n (IsPermutation-sym xs ys p) c)

  -- places in another order
  pub places_order : (table : List X) (xs ys : List ℕ) → IsPermutation xs ys → IsPermutation (at_places table xs) (at_places table ys)
  places_order [] xs ys p = IsPermutation-refl []
  places_order (x ∷ rest) xs ys p = IsPermutation-map (λ n. get_or (x ∷ rest) n x) xs ys p

  -- indices of things without a repeat have none
  pub places_apart : (table : List X) (places : List ℕ) → AreWithin table places → HasNoRepeat (at_places table places) → HasNoRepeat places
  places_apart [] places w apart = subst HasNoRepeat (sym (none_within places w)) (λ i j n h k. absurd (omega (arith, slice_get_within [] i n h)))
  places_apart (x ∷ xs) places w apart = no_repeat_before (λ n. get_or (x ∷ xs) n x) places apart

  -- if two lists of indices of a table without repeats lead to the same things, they have the same indices
  pub places_same : (table : List X) (xs ys : List ℕ) → HasNoRepeat table → AreWithin table xs → AreWithin table ys → HaveSame (at_places table xs) (at_places table ys) → HaveSame xs ys
  places_same table xs ys apart in_x in_y same n = (one xs ys in_x in_y (λ z. (same z).0), one ys xs in_y in_x (λ z. (same z).1))
    where
      one : (us bs : List ℕ) → AreWithin table us → AreWithin table bs → ((z : X) → Contains (at_places table us) z → Contains (at_places table bs) z) → Contains us n → Contains bs n
      one us bs in_a in_b on c =
          let z = place_has table us n in_a c in
          let m = has_place table bs z.0 in_b (on z.0 z.1.1) in
          subst (Contains bs) (apart m.0 n z.0 m.1.1 z.1.0) m.1.0

-- ---- numbers of items

module _ {T X : Type 0} (eq : T → T → Bool) (content : T → X) (sound : (a b : T) → eq a b ≡ true → content a ≡ content b) where
  pub numbers_within : (table items : List T) (numbers : List ℕ) → AreNumbersIn eq table items numbers → AreWithin (map content table) numbers
  numbers_within table [] [] h n c = not_in_nil n c
  numbers_within table [] (m ∷ ms) h n c = absurd h
  numbers_within table (x ∷ xs) [] h n c = absurd h
  numbers_within table (x ∷ xs) (m ∷ ms) h n c = elim (Contains-cons m ms n c) [
    | inl e ↦ subst (λ k. k < length (map content table)) e (omega (arith, slice_get_within table m h.0.0 h.0.1.0, length-map table content))
    | inr r ↦ numbers_within table xs ms h.1 n r
  ]

  -- what the table has at the numbers is what the items say
  pub numbered_so : (table items : List T) (numbers : List ℕ) → AreNumbersIn eq table items numbers → at_places (map content table) numbers ≡ map content items
  numbered_so [] [] [] h = refl
  numbered_so [] [] (n ∷ ns) h = absurd h
  numbered_so [] (x ∷ xs) [] h = absurd h
  numbered_so [] (x ∷ xs) (n ∷ ns) h = absurd (omega (arith, slice_get_within [] n h.0.0 h.0.1.0))
  numbered_so (t ∷ ts) items numbers h = each items numbers h
    where
      each : (xs : List T) (ns : List ℕ) → AreNumbersIn eq (t ∷ ts) xs ns → map (λ n. get_or (content t ∷ map content ts) n (content t)) ns ≡ map content xs
      each [] [] k = refl
      each [] (n ∷ ns) k = absurd k
      each (x ∷ xs) [] k = absurd k
      each (x ∷ xs) (n ∷ ns) k =
          let there : slice_get (map content (t ∷ ts)) n ≡ Some (content k.0.0) = slice_get-map content (t ∷ ts) n ∙ ap (option_map content) k.0.1.0 in
          let first : get_or (content t ∷ map content ts) n (content t) ≡ content x = get_or_from_slice_get (map content (t ∷ ts)) n (content k.0.0) (content t) there ∙ sym (sound x k.0.0 k.0.1.1) in
          λ i. first i ∷ each xs ns k.1 i

-- ---- lists of numbers of a table

module _ {X : Type 0} where
  -- each of these lists has places of the table alone
  abbrev pub AllWithin : List X → List (List ℕ) → Type 0
  AllWithin table lists = (l : List ℕ) → Contains lists l → AreWithin table l

  pub all_more : (table longer : List X) (lists : List (List ℕ)) → Grows table longer → AllWithin table lists → AllWithin longer lists
  all_more table longer lists (more, is) all l c = subst (λ t. AreWithin t l) (sym is) (within_more table more l (all l c))

  pub all_same : (table : List X) (old new : List (List ℕ)) → new ≡ old → AllWithin table old → AllWithin table new
  all_same table old new is all l c = all l (subst (λ ls. Contains ls l) is c)

  -- a longer table has the same there
  pub all_stay : (table more : List X) (lists : List (List ℕ)) → AllWithin table lists → map (at_places (table ++ more)) lists ≡ map (at_places table) lists
  all_stay table more [] all = refl
  all_stay table more (l ∷ ls) all = λ i. places_stay table more l (all l (first l ls)) i ∷ all_stay table more ls (λ k c. all k (rest l ls k c)) i
    where
      first : (a : List ℕ) (bs : List (List ℕ)) → Contains (a ∷ bs) a
      first a bs = (0, omega arith, refl)

      rest : (a : List ℕ) (bs : List (List ℕ)) (b : List ℕ) → Contains bs b → Contains (a ∷ bs) b
      rest a bs b (k, low, e) = (suc k, omega (arith, low), e)

-- numbers of items are places of the table
pub of_table : {T : Type 0} (eq : T → T → Bool) (table items : List T) (numbers : List ℕ) → AreNumbersIn eq table items numbers → AreWithin table numbers
of_table eq table [] [] h n c = not_in_nil n c
of_table eq table [] (m ∷ ms) h n c = absurd h
of_table eq table (x ∷ xs) [] h n c = absurd h
of_table eq table (x ∷ xs) (m ∷ ms) h n c = elim (Contains-cons m ms n c) [
  | inl e ↦ subst (λ k. k < length table) e (slice_get_within table m h.0.0 h.0.1.0)
  | inr r ↦ of_table eq table xs ms h.1 n r
]

-- ---- which lists of what is at given numbers are remembered

module _ {X : Type 0} where
  -- one of these lists has the same members
  abbrev pub HasSame : List (List X) → List X → Type 0
  HasSame lists list = (known : List X) × (Contains lists known × HaveSame known list)

  pub kept_same : (table : List X) (lists : List (List ℕ)) (numbers kept : List ℕ) → Contains lists kept → IsPermutation numbers kept → HasSame (map (at_places table) lists) (at_places table numbers)
  kept_same table lists numbers kept there order = (
    at_places table kept,
    (
      in_map (at_places table) lists kept there,
      same_sym (at_places table numbers) (at_places table kept) (same_order (at_places table numbers) (at_places table kept) (places_order table numbers kept order)),
    ),
  )
