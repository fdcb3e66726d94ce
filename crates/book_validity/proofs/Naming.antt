-- Names that differ, and the first of a name.
use Rattle.std.proofs.Common.{◌≡◌, ℕ, zero, suc, ◌<◌, Bool, true, false, List, refl, sym, ap, ◌∙◌, Option, None, Some, slice_get, take, length, find, is_some, true≢false, arith}
use Rattle.rule_definitions.specs.Words.{IsFirst, FirstNamed, Repeats}
use Rattle.rule_definitions.specs.Faults.{FaultAt}
use Rattle.rule_definitions.proofs.Firsts.{has, found_first, not_found, first_found, index_below, take_all}
use Rattle.book_validity.specs.Words.{IsThere, AreUnique, named}

abbrev pub Fault : Type 0
Fault = FaultAt (Unit {0}) (Unit {0})

-- nothing breaks the rule
abbrev pub Quiet : (Fault → Type 0) → Type 0
Quiet Breaks = (fault : Fault) → Breaks fault → ⊥

pub same_index : (a b : ℕ) → (a < b → ⊥) → (b < a → ⊥) → a ≡ b
same_index zero zero h k = refl
same_index zero (suc b) h k = absurd (h (omega arith))
same_index (suc a) zero h k = absurd (k (omega arith))
same_index (suc a) (suc b) h k = ap suc (same_index a b (λ l. h (omega (arith, l))) (λ l. k (omega (arith, l))))

pub not_below : {A : Type 0} (i j : ℕ) → i ≡ j → i < j → A
not_below i j e l = absurd (omega (arith, e, l))

pub is_there : {X : Type 0} (o : Option X) → (o ≡ None → ⊥) → IsThere o
is_there None h = absurd (h refl)
is_there (Some x) h = refl

pub there : {X : Type 0} (o : Option X) → IsThere o → (x : X) × (o ≡ Some x)
there None h = absurd (true≢false (sym h))
there (Some x) h = (x, refl)

pub not_there : {X A : Type 0} (o : Option X) → IsThere o → o ≡ None → A
not_there o h e = absurd (true≢false (sym h ∙ ap is_some e))

pub is_true : (b : Bool) → (b ≡ false → ⊥) → b ≡ true
is_true true h = refl
is_true false h = absurd (h refl)

pub is_false : (b : Bool) → (b ≡ true → ⊥) → b ≡ false
is_false true h = absurd (h refl)
is_false false h = refl

module _ {X : Type 0} (name : X → List ℕ) (xs : List X) where
  -- where an earlier one has the name, there is a first
  pub earlier : (i j : ℕ) (x : X) (n : List ℕ) → slice_get xs i ≡ Some x → name x ≡ n → i < j → (k : ℕ) × ((y : X) × ((slice_get xs k ≡ Some y) × ((name y ≡ n) × (IsFirst name xs n k × (k < j)))))
  earlier i j x n e same less = by (find (has name n) (take j xs)) refl
    where
      by : (o : Option X) → find (has name n) (take j xs) ≡ o → (k : ℕ) × ((y : X) × ((slice_get xs k ≡ Some y) × ((name y ≡ n) × (IsFirst name xs n k × (k < j)))))
      by None none = absurd (not_found name xs n j none (i, (x, (e, (less, same)))))
      by (Some y) is = let r = found_first name xs n j y is in (r.0, (y, (r.1.1.0, (r.1.1.1.0, (r.1.1.1.1, r.1.0)))))

  -- two of one name that are not one repeat a name: where P is so of each first and later one
  pub one_place : (i j : ℕ) (x y : X) → slice_get xs i ≡ Some x → slice_get xs j ≡ Some y → name x ≡ name y
      → ((k l : ℕ) (z w : X) → slice_get xs k ≡ Some z → slice_get xs l ≡ Some w → name w ≡ name y → name z ≡ name w → IsFirst name xs (name w) k → k < l → ⊥) → i ≡ j
  one_place i j x y a b same never = same_index i j
      (λ l. let r = earlier i j x (name y) a same l in never r.0 j r.1.0 y r.1.1.0 b refl r.1.1.1.0 r.1.1.1.1.0 r.1.1.1.1.1)
      (λ l. let r = earlier j i y (name x) b (sym same) l in never r.0 i r.1.0 x r.1.1.0 a same r.1.1.1.0 r.1.1.1.1.0 r.1.1.1.1.1)

  pub unique_from : (Repeats name xs (λ i first j later. Unit {0}) → ⊥) → AreUnique name xs
  unique_from never i j x y a b same = one_place i j x y a b same (λ k l z w p q named equal first less. never (l, (w, (q, (k, (z, (p, (equal, (first, (less, tt))))))))))

  pub unique_never : {Q : ℕ → X → ℕ → X → Type 0} {A : Type 0} → AreUnique name xs → Repeats name xs Q → A
  unique_never unique (j, (later, (e, (i, (first, (a, (same, (is_first, (less, q))))))))) = not_below i j (unique i j first later a e same) less

  -- of different names each is the first
  pub unique_first : AreUnique name xs → (j : ℕ) (x : X) → slice_get xs j ≡ Some x → IsFirst name xs (name x) j
  unique_first unique j x e (k, (y, (a, (less, same)))) = not_below k j (unique k j y x a e same) less

  -- the first of a name is what is found
  pub first_named : {P : ℕ → X → Type 0} (n : List ℕ) → FirstNamed name xs n P → (x : X) × ((named name xs n ≡ Some x) × ((i : ℕ) × P i x))
  first_named n (i, (x, (e, (same, (first, p))))) = (x, (ap (find (has name n)) (sym (take_all xs)) ∙ first_found name xs n (length xs) i x e (index_below xs i x e) same first, (i, p)))

  pub is_first_named : {P : ℕ → X → Type 0} (n : List ℕ) (x : X) → named name xs n ≡ Some x → ((i : ℕ) → P i x) → FirstNamed name xs n P
  is_first_named n x is p = let r = found_first name xs n (length xs) x (ap (find (has name n)) (take_all xs) ∙ is) in (r.0, (x, (r.1.1.0, (r.1.1.1.0, (r.1.1.1.1, p r.0)))))

  -- its index
  pub found_index : (n : List ℕ) (x : X) → named name xs n ≡ Some x → (i : ℕ) × ((slice_get xs i ≡ Some x) × ((name x ≡ n) × IsFirst name xs n i))
  found_index n x is = let r = found_first name xs n (length xs) x (ap (find (has name n)) (take_all xs) ∙ is) in (r.0, (r.1.1.0, (r.1.1.1.0, r.1.1.1.1)))
