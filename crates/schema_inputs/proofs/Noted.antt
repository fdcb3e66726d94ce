-- What was noted first under each name: of one more, and by lookups.
use Rattle.std.proofs.Common.{◌≡◌, ℕ, zero, suc, ◌+◌, ◌<◌, ◌≤◌, ltb, Bool, true, false, List, [], ◌∷◌, ◌++◌, map, take, length, get_or, slice_get, find, bytes_eq, Bor, Option, None, Some, refl, sym, ap, subst, ◌∙◌, if◌then◌else◌, arith, true≢false, is_some}
use Rattle.std.specs.Option.{option_map, option_or, option_and_then, option_copied, IfSome}
use Rattle.std.proofs.lemmas.List.{map-append, take_more}
use Rattle.std.proofs.lemmas.Bool.{ltb-true, ltb-false}
use Rattle.std.proofs.lemmas.Slice.Eq.{bytes_eq-Decides}
use Rattle.std.proofs.lemmas.Option.{same_Some}
use Rattle.indexmap.specs.IndexMap.{IndexMap, get}
use Rattle.graphql_names.specs.NameValue.{NameValue}
use Rattle.schema_components.specs.Names.{same_text}
use Rattle.schema_types.specs.TypeView.{name_text}
use Rattle.schema_inputs.specs.Firsts.{first_told, AreFirsts}

module _ {X : Type 0} (name : X → List ℕ) where
  -- ---- one more

  told_push : {V : Type 0} (tell : ℕ → X → V) (xs : List X) (x : X) (n : List ℕ)
      → first_told name tell (xs ++ x ∷ []) n ≡ option_or (first_told name tell xs n) (if bytes_eq (name x) n then Some (tell (length xs) x) else None)
  told_push tell [] x n = refl
  told_push {V} tell (y ∷ xs) x n = by (bytes_eq (name y) n) (told_push (λ i. tell (suc i)) xs x n)
    where
      by : (b : Bool) → first_told name (λ i. tell (suc i)) (xs ++ x ∷ []) n ≡ option_or (first_told name (λ i. tell (suc i)) xs n) (if bytes_eq (name x) n then Some (tell (suc (length xs)) x) else None)
          → (if b then Some (tell 0 y) else first_told name (λ i. tell (suc i)) (xs ++ x ∷ []) n)
          ≡ option_or (if b then Some (tell 0 y) else first_told name (λ i. tell (suc i)) xs n) (if bytes_eq (name x) n then Some (tell (suc (length xs)) x) else None)
      by true rest = refl
      by false rest = rest

  -- what note_first leaves
  pub noted_more : {V S : Type 0} (tell : ℕ → X → V) (old new : IndexMap NameValue V S) (k : NameValue) (v : V) (xs : List X) (x : X) → k.text ≡ name x → v ≡ tell (length xs) x
      → ((n : NameValue) → get (same_text name_text) new n ≡ option_or (get (same_text name_text) old n) (if bytes_eq k.text n.text then Some v else None))
      → AreFirsts name tell old xs → AreFirsts name tell new (xs ++ x ∷ [])
  noted_more tell old new k v xs x named told puts are n =
      puts n ∙ (λ i. option_or (are n i) (if bytes_eq (named i) n.text then Some (told i) else None)) ∙ sym (told_push tell xs x n.text)

  -- ---- lookups

  told_after : {U V : Type 0} (g : U → V) (tell : ℕ → X → U) (xs : List X) (n : List ℕ) → first_told name (λ i x. g (tell i x)) xs n ≡ option_map g (first_told name tell xs n)
  told_after g tell [] n = refl
  told_after {U} {V} g tell (x ∷ xs) n = by (bytes_eq (name x) n) (told_after g (λ i. tell (suc i)) xs n)
    where
      by : (b : Bool) → first_told name (λ i x. g (tell (suc i) x)) xs n ≡ option_map g (first_told name (λ i. tell (suc i)) xs n)
          → (if b then Some (g (tell 0 x)) else first_told name (λ i x. g (tell (suc i) x)) xs n) ≡ option_map g (if b then Some (tell 0 x) else first_told name (λ i. tell (suc i)) xs n)
      by true rest = refl
      by false rest = rest

  -- what does not depend on the index is told of what is found
  pub told_found : {V : Type 0} (f : X → V) (xs : List X) (n : List ℕ) → first_told name (λ i. f) xs n ≡ option_map f (find (λ x. bytes_eq (name x) n) xs)
  told_found f [] n = refl
  told_found {V} f (x ∷ xs) n = by (bytes_eq (name x) n) (told_found f xs n)
    where
      by : (b : Bool) → first_told name (λ i. f) xs n ≡ option_map f (find (λ x. bytes_eq (name x) n) xs)
          → (if b then Some (f x) else first_told name (λ i. f) xs n) ≡ option_map f (if b then Some x else find (λ x. bytes_eq (name x) n) xs)
      by true rest = refl
      by false rest = rest

  -- the first of the name is at its index
  pub number_found : (xs : List X) (n : List ℕ) → option_and_then (λ i. slice_get xs i) (first_told name (λ i x. i) xs n) ≡ find (λ x. bytes_eq (name x) n) xs
  number_found [] n = refl
  number_found (x ∷ xs) n = by (bytes_eq (name x) n) (number_found xs n)
    where
      over : (o : Option ℕ) → option_and_then (λ i. slice_get (x ∷ xs) i) (option_map suc o) ≡ option_and_then (λ i. slice_get xs i) o
      over None = refl
      over (Some i) = refl

      by : (b : Bool) → option_and_then (λ i. slice_get xs i) (first_told name (λ i x. i) xs n) ≡ find (λ x. bytes_eq (name x) n) xs
          → option_and_then (λ i. slice_get (x ∷ xs) i) (if b then Some 0 else first_told name (λ i x. suc i) xs n) ≡ (if b then Some x else find (λ x. bytes_eq (name x) n) xs)
      by true rest = refl
      by false rest = ap (λ o. option_and_then (λ i. slice_get (x ∷ xs) i) o) (told_after suc (λ i x. i) xs n) ∙ over (first_told name (λ i x. i) xs n) ∙ rest

  -- if a number is that of a name, no element before that index has the name
  pub number_first : (xs : List X) (j : ℕ) (n : List ℕ) → first_told name (λ i x. i) xs n ≡ Some j → find (λ x. bytes_eq (name x) n) (take j xs) ≡ None
  number_first [] j n e = absurd (true≢false (sym (ap is_some e)))
  number_first (x ∷ xs) zero n e = refl
  number_first (x ∷ xs) (suc j) n e = by (bytes_eq (name x) n) (number_first xs j n) e
    where
      lower : (o : Option ℕ) → option_map suc o ≡ Some (suc j) → o ≡ Some j
      lower None e = absurd (true≢false (sym (ap is_some e)))
      lower (Some i) e = cc

      by : (b : Bool) → (first_told name (λ i x. i) xs n ≡ Some j → find (λ x. bytes_eq (name x) n) (take j xs) ≡ None)
          → (if b then Some 0 else first_told name (λ i x. suc i) xs n) ≡ Some (suc j) → (if b then Some x else find (λ x. bytes_eq (name x) n) (take j xs)) ≡ None
      by true rest e = cc
      by false rest e = rest (lower (first_told name (λ i x. i) xs n) (sym (told_after suc (λ i x. i) xs n) ∙ e))

  -- the element at an index has this number, if no element before it has its name
  pub number_here : (xs : List X) (j : ℕ) (x : X) → slice_get xs j ≡ Some x → find (λ y. bytes_eq (name y) (name x)) (take j xs) ≡ None → first_told name (λ i y. i) xs (name x) ≡ Some j
  number_here [] j x e none = absurd (true≢false (sym (ap is_some e)))
  number_here (y ∷ xs) zero x e none = ap (λ b. if b then Some 0 else first_told name (λ i y. suc i) xs (name x)) ((bytes_eq-Decides (name y) (name x)).1 (ap name (same_Some _ _ e)))
  number_here (y ∷ xs) (suc j) x e none = by (bytes_eq (name y) (name x)) (number_here xs j x e) none
    where
      by : (b : Bool) → (find (λ z. bytes_eq (name z) (name x)) (take j xs) ≡ None → first_told name (λ i z. i) xs (name x) ≡ Some j)
          → (if b then Some y else find (λ z. bytes_eq (name z) (name x)) (take j xs)) ≡ None → (if b then Some 0 else first_told name (λ i z. suc i) xs (name x)) ≡ Some (suc j)
      by true rest none = absurd (true≢false (ap is_some none))
      by false rest none = told_after suc (λ i z. i) xs (name x) ∙ ap (option_map suc) (rest none)

  -- ---- in loops: the list is made of one of nodes

  module _ {A : Type 0} (f : A → X) where
    more : (xs : List A) (i : ℕ) (x : A) → i < length xs → x ≡ get_or xs i x → map f (take (i + 1) xs) ≡ map f (take i xs) ++ f x ∷ []
    more xs i x h e = ap (map f) (take_more xs i x h) ∙ map-append f (take i xs) (get_or xs i x ∷ []) ∙ ap (λ y. map f (take i xs) ++ f y ∷ []) (sym e)

    pub as_long : (xs : List A) (i : ℕ) → i < length xs → length (map f (take i xs)) ≡ i
    as_long [] i h = absurd (omega (arith, h))
    as_long (x ∷ xs) zero h = refl
    as_long (x ∷ xs) (suc i) h = ap suc (as_long xs i (omega (arith, h)))

    pub noted_next : {V S : Type 0} (tell : ℕ → X → V) (old new : IndexMap NameValue V S) (k : NameValue) (v : V) (xs : List A) (i : ℕ) (x : A) → i < length xs → x ≡ get_or xs i x → k.text ≡ name (f x) → v ≡ tell i (f x)
        → ((n : NameValue) → get (same_text name_text) new n ≡ option_or (get (same_text name_text) old n) (if bytes_eq k.text n.text then Some v else None))
        → AreFirsts name tell old (map f (take i xs)) → AreFirsts name tell new (map f (take (i + 1) xs))
    noted_next tell old new k v xs i x h e named told puts are =
        subst (AreFirsts name tell new) (sym (more xs i x h e))
        (noted_more tell old new k v (map f (take i xs)) (f x) named (told ∙ ap (λ j. tell j (f x)) (sym (as_long xs i h))) puts are)

    -- what `get` lends
    past : (xs : List A) (i : ℕ) → length xs ≤ i → None ≡ slice_get xs i
    past [] i h = refl
    past (x ∷ xs) zero h = absurd (omega (arith, h))
    past (x ∷ xs) (suc i) h = past xs i (omega (arith, h))

    pub there : (xs : List A) (i : ℕ) (d : A) → i < length xs → Some (get_or xs i d) ≡ slice_get xs i
    there [] i d h = absurd (omega (arith, h))
    there (x ∷ xs) zero d h = refl
    there (x ∷ xs) (suc i) d h = there xs i d (omega (arith, h))

    pub taken : (xs : List A) (i : ℕ) (r : Option (Bor A)) → is_some r ≡ ltb i (length xs) → IfSome r (λ x. x.now ≡ get_or xs i x.now) → option_copied r ≡ slice_get xs i
    taken xs i None e h = past xs i (ltb-false i (length xs) (sym e))
    taken xs i (Some x) e h = ap Some h ∙ there xs i x.now (ltb-true i (length xs) (sym e))

    -- what is lent by a number
    at_number : (xs : List A) (i : ℕ) (r : Option (Bor A)) → option_copied r ≡ slice_get xs i → option_map (λ a. f a.now) r ≡ slice_get (map f xs) i
    at_number xs i r e = lent r ∙ ap (option_map f) e ∙ mapped xs i
      where
        lent : (r : Option (Bor A)) → option_map (λ a. f a.now) r ≡ option_map f (option_copied r)
        lent None = refl
        lent (Some a) = refl

        mapped : (ys : List A) (i : ℕ) → option_map f (slice_get ys i) ≡ slice_get (map f ys) i
        mapped [] i = refl
        mapped (y ∷ ys) zero = refl
        mapped (y ∷ ys) (suc i) = mapped ys i

    module _ (xs : List A) (n : List ℕ) (number : Option (Bor ℕ)) where
      pub number_absent : number ≡ None → option_copied number ≡ first_told name (λ i x. i) (map f xs) n → None ≡ find (λ x. bytes_eq (name x) n) (map f xs)
      number_absent none e = ap (λ o. option_and_then (λ i. slice_get (map f xs) i) (option_copied o)) (sym none) ∙ ap (option_and_then (λ i. slice_get (map f xs) i)) e ∙ number_found (map f xs) n

      pub number_there : (i : Bor ℕ) → number ≡ Some i → option_copied number ≡ first_told name (λ i x. i) (map f xs) n → (r : Option (Bor A)) → option_copied r ≡ slice_get xs i.now
          → option_map (λ a. f a.now) r ≡ find (λ x. bytes_eq (name x) n) (map f xs)
      number_there i there e r is =
          at_number xs i.now r is
          ∙ ap (λ o. option_and_then (λ i. slice_get (map f xs) i) (option_copied o)) (sym there) ∙ ap (option_and_then (λ i. slice_get (map f xs) i)) e ∙ number_found (map f xs) n
