-- What stands under a name among entries, and a name among others, once for all rules.
use Rattle.std.proofs.Common.{◌≡◌, ℕ, ◌<◌, zero, suc, arith, take, slice_get, Bool, true, false, ◌||◌, List, [], ◌∷◌, map, refl, sym, ap, subst, ◌∙◌, Option, None, Some, Contains, inl, inr, true≢false, if◌then◌else◌}
use Rattle.std.specs.List.{find, IsDistinct, AllByRecursion}
use Rattle.std.specs.Map.{keys_of}
use Rattle.std.specs.Option.{option_map}
use Rattle.std.specs.Str.{bytes_eq}
use Rattle.std.proofs.lemmas.Slice.Eq.{bytes_eq-Decides}
use Rattle.std.proofs.lemmas.List.Elements.{Contains-append_right}
use Rattle.std.proofs.lemmas.Map.Keys.{IsDistinct-head, IsDistinct-tail}
use Rattle.schema_types.specs.in_components.Lists.{is_among}
use Rattle.schema_types.specs.in_components.Names.{Entries}
use Rattle.schema_types.specs.Addresses.{under}
use Rattle.rule_cycle_search.proofs.Lists.{not_in_nil, Contains-cons, Contains-first}

pub itself : (n : List ℕ) → bytes_eq n n ≡ true
itself n = (bytes_eq-Decides n n).1 refl

-- what passes the test first
module _ {X : Type 0} (test : X → Bool) where
  pub find_given : (xs : List X) (x : X) → find test xs ≡ Some x → Contains xs x × (test x ≡ true)
  find_given [] x e = cc
  find_given (y ∷ xs) x e = by (test y) refl (find_given xs x) e
    where
      by : (b : Bool) → test y ≡ b → (find test xs ≡ Some x → Contains xs x × (test x ≡ true)) → (if b then Some y else find test xs) ≡ Some x → Contains (y ∷ xs) x × (test x ≡ true)
      by true t rest e = let same : y ≡ x = cc in (Contains-first y xs x same, ap test (sym same) ∙ t)
      by false t rest e = let r = rest e in (Contains-append_right (y ∷ []) xs x r.0, r.1)

-- the first that passes before an index, and where it stands
module _ {X : Type 0} (test : X → Bool) where
  pub first_found : (xs : List X) (j : ℕ) (w : X) → find test (take j xs) ≡ Some w
      → (i : ℕ) × ((i < j) × ((slice_get xs i ≡ Some w) × ((test w ≡ true) × ((k : ℕ) (y : X) → k < i → slice_get xs k ≡ Some y → test y ≡ false))))
  first_found xs zero w e = cc
  first_found [] (suc j) w e = cc
  first_found (x ∷ xs) (suc j) w e = by (test x) refl (first_found xs j w) e
    where
      later : test x ≡ false → (i : ℕ) → ((k : ℕ) (y : X) → k < i → slice_get xs k ≡ Some y → test y ≡ false) → (k : ℕ) (y : X) → k < suc i → slice_get (x ∷ xs) k ≡ Some y → test y ≡ false
      later t i earlier zero y h at' = let same : x ≡ y = cc in ap test (sym same) ∙ t
      later t i earlier (suc k) y h at' = earlier k y (omega (arith, h)) at'

      by : (b : Bool) → test x ≡ b
          → (find test (take j xs) ≡ Some w → (i : ℕ) × ((i < j) × ((slice_get xs i ≡ Some w) × ((test w ≡ true) × ((k : ℕ) (y : X) → k < i → slice_get xs k ≡ Some y → test y ≡ false)))))
          → (if b then Some x else find test (take j xs)) ≡ Some w
          → (i : ℕ) × ((i < suc j) × ((slice_get (x ∷ xs) i ≡ Some w) × ((test w ≡ true) × ((k : ℕ) (y : X) → k < i → slice_get (x ∷ xs) k ≡ Some y → test y ≡ false))))
      by true t rest e = let same : x ≡ w = cc in (0, (omega arith, (e, (ap test (sym same) ∙ t, λ k y h. absurd (omega (arith, h))))))
      by false t rest e =
          let (i, (below, (at, (passes, earlier)))) = rest e in
          (suc i, (omega (arith, below), (at, (passes, λ k y h at'. later t i earlier k y h at'))))

  pub none_found : (xs : List X) (j : ℕ) → find test (take j xs) ≡ None → (i : ℕ) (x : X) → i < j → slice_get xs i ≡ Some x → test x ≡ false
  none_found xs zero e i x h at = absurd (omega (arith, h))
  none_found [] (suc j) e i x h at = cc
  none_found (y ∷ xs) (suc j) e i x h at = by (test y) refl e (none_found xs j) i h at
    where
      by : (b : Bool) → test y ≡ b → (if b then Some y else find test (take j xs)) ≡ None → (find test (take j xs) ≡ None → (i : ℕ) (x : X) → i < j → slice_get xs i ≡ Some x → test x ≡ false)
          → (i : ℕ) → i < suc j → slice_get (y ∷ xs) i ≡ Some x → test x ≡ false
      by true t e rest i h at = cc
      by false t e rest zero h at = let same : y ≡ x = cc in ap test (sym same) ∙ t
      by false t e rest (suc i) h at = rest e i x (omega (arith, h)) at

-- the first of a name, where names differ
module _ {X : Type 0} (name : X → List ℕ) where
  none_other : (n : List ℕ) (xs : List X) (x : X) → AllByRecursion (λ m. bytes_eq n m ≡ false) (map name xs) → Contains xs x → bytes_eq n (name x) ≡ false
  none_other n [] x h c = not_in_nil x c
  none_other n (y ∷ xs) x h c = elim (Contains-cons y xs x c) [
    | inl e ↦ ap (λ z. bytes_eq n (name z)) (sym e) ∙ h.0
    | inr r ↦ none_other n xs x h.1 r
  ]

  pub find_of : (xs : List X) → IsDistinct bytes_eq (map name xs) → (x : X) → Contains xs x → find (λ y. bytes_eq (name x) (name y)) xs ≡ Some x
  find_of [] h x c = not_in_nil x c
  find_of (y ∷ xs) h x c = elim (Contains-cons y xs x c) [
    | inl e ↦ ap (λ (b : Bool). if b then Some y else find (λ z. bytes_eq (name x) (name z)) xs) (ap (λ z. bytes_eq (name x) (name z)) e ∙ itself (name x)) ∙ ap Some e
    | inr r ↦
        let differs : bytes_eq (name x) (name y) ≡ false = other (bytes_eq (name x) (name y)) refl (none_other (name y) xs x (IsDistinct-head bytes_eq (name y) (map name xs) h) r) in
        ap (λ (b : Bool). if b then Some y else find (λ z. bytes_eq (name x) (name z)) xs) differs ∙ find_of xs (IsDistinct-tail bytes_eq (name y) (map name xs) h) x r
  ]
    where
      other : (b : Bool) → bytes_eq (name x) (name y) ≡ b → bytes_eq (name y) (name x) ≡ false → b ≡ false
      other false t e = refl
      other true t e = absurd (true≢false (sym ((bytes_eq-Decides (name y) (name x)).1 (sym ((bytes_eq-Decides (name x) (name y)).0 t))) ∙ e))

-- entries
module _ {V : Type 0} where
  pub under_found : (es : Entries V) → IsDistinct bytes_eq (keys_of es) → (e : List ℕ × V) → Contains es e → under e.0 es ≡ Some e.1
  under_found es h e c = ap (option_map (λ (x : List ℕ × V). x.1)) (find_of (λ (x : List ℕ × V). x.0) es h e c)

  pub under_given : (n : List ℕ) (es : Entries V) (v : V) → under n es ≡ Some v → Contains es (n, v)
  under_given n es v e = by (find (λ (x : List ℕ × V). bytes_eq n x.0) es) refl e
    where
      by : (o : Option (List ℕ × V)) → find (λ (x : List ℕ × V). bytes_eq n x.0) es ≡ o → option_map (λ (x : List ℕ × V). x.1) o ≡ Some v → Contains es (n, v)
      by None f e = cc
      by (Some x) f e =
          let r = find_given (λ (x : List ℕ × V). bytes_eq n x.0) es x f in
          let key : x.0 ≡ n = sym ((bytes_eq-Decides n x.0).0 r.1) in
          let value : x.1 ≡ v = cc in
          subst (Contains es) (λ i. (key i, value i)) r.0

  -- where nothing stands under any name there are no entries
  pub no_entries : (es : Entries V) → ((n : List ℕ) → under n es ≡ None) → es ≡ []
  no_entries [] h = refl
  no_entries (x ∷ es) h = by (bytes_eq x.0 x.0) (itself x.0) (h x.0)
    where
      by : (b : Bool) → b ≡ true → option_map (λ (y : List ℕ × V). y.1) (if b then Some x else find (λ (y : List ℕ × V). bytes_eq x.0 y.0) es) ≡ None → x ∷ es ≡ []
      by true t e = cc
      by false t e = cc

-- a name among others
pub among_found : {X : Type 0} (name : X → List ℕ) (xs : List X) (x : X) → Contains xs x → is_among (name x) (map name xs) ≡ true
among_found name [] x c = not_in_nil x c
among_found name (y ∷ xs) x c = elim (Contains-cons y xs x c) [
  | inl e ↦ ap (λ b. b || is_among (name x) (map name xs)) ((bytes_eq-Decides (name x) (name y)).1 (ap name (sym e)))
  | inr r ↦ ap (λ b. bytes_eq (name x) (name y) || b) (among_found name xs x r) ∙ or_true (bytes_eq (name x) (name y))
]
  where
    or_true : (b : Bool) → (b || true) ≡ true
    or_true true = refl
    or_true false = refl

pub among_given : {X : Type 0} (name : X → List ℕ) (xs : List X) (n : List ℕ) → is_among n (map name xs) ≡ true → (x : X) × (Contains xs x × (name x ≡ n))
among_given name [] n e = cc
among_given {X} name (y ∷ xs) n e = by (bytes_eq n (name y)) refl (among_given name xs n) e
  where
    by : (b : Bool) → bytes_eq n (name y) ≡ b → (is_among n (map name xs) ≡ true → (x : X) × (Contains xs x × (name x ≡ n))) → (b || is_among n (map name xs)) ≡ true → (x : X) × (Contains (y ∷ xs) x × (name x ≡ n))
    by true t rest e = (y, (Contains-first y xs y refl, sym ((bytes_eq-Decides n (name y)).0 t)))
    by false t rest e = let r = rest e in (r.0, (Contains-append_right (y ∷ []) xs r.0 r.1.0, r.1.1))

-- a text among others, and names that are none
map_self : {X : Type 0} (xs : List X) → map (λ x. x) xs ≡ xs
map_self [] = refl
map_self (x ∷ xs) = ap (λ l. x ∷ l) (map_self xs)

pub text_found : (texts : List (List ℕ)) (n : List ℕ) → Contains texts n → is_among n texts ≡ true
text_found texts n c = sym (ap (is_among n) (map_self texts)) ∙ among_found (λ x. x) texts n c

pub text_given : (texts : List (List ℕ)) (n : List ℕ) → is_among n texts ≡ true → Contains texts n
text_given texts n e = let r = among_given (λ (x : List ℕ). x) texts n (ap (is_among n) (map_self texts) ∙ e) in subst (Contains texts) r.1.1 r.1.0

pub no_names : {X : Type 0} (name : X → List ℕ) (xs : List X) → ((n : List ℕ) → is_among n (map name xs) ≡ false) → xs ≡ []
no_names name [] h = refl
no_names name (x ∷ xs) h = absurd (true≢false (sym (among_found name (x ∷ xs) x (Contains-first x xs x refl)) ∙ h (name x)))
