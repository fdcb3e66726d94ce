-- What rules tell of trees whose places are others is what they tell of the trees, at the other places: piece by piece, for all rules.
use Rattle.std.proofs.Common.{◌≡◌, ℕ, ◌<◌, ◌⊎◌, ◌↔◌, List, map, refl, sym, ap, subst, ◌∙◌, inl, inr, Option, None, Some, slice_get}
use Rattle.std.specs.Option.{option_map}
use Rattle.rule_values.proofs.in_rule_definitions.Lists.{slice_get-map}
use Rattle.rule_values.specs.in_rule_definitions.Words.{Present, AtSomeIndex, Lacks, IsFirst, FirstNamed, Repeats}

-- ---- facts that hold in the same cases

pub both_ways : {A B C D : Type 0} → A ↔ B → C ↔ D → (A × C) ↔ (B × D)
both_ways a c = (λ h. (a.0 h.0, c.0 h.1), λ h. (a.1 h.0, c.1 h.1))

pub neither : {A B : Type 0} → A ↔ B → (A → ⊥) ↔ (B → ⊥)
neither a = (λ h b. h (a.1 b), λ h b. h (a.0 b))

pub same_present : {X Y : Type 0} (u : X → Y) (o : Option X) (P : X → Type 0) (Q : Y → Type 0) → ((x : X) → o ≡ Some x → P x ↔ Q (u x)) → Present o P ↔ Present (option_map u o) Q
same_present u None P Q each = (λ h. cc, λ h. cc)
same_present u (Some x) P Q each = (
  λ h. let e : x ≡ h.0 = cc in (u x, (refl, (each x refl).0 (subst P (sym e) h.1.1))),
  λ h. let e : u x ≡ h.0 = cc in (x, (refl, (each x refl).1 (subst Q (sym e) h.1.1))),
)

pub same_index_there : {X Y : Type 0} (u : X → Y) (xs : List X) (P : ℕ → X → Type 0) (Q : ℕ → Y → Type 0) → ((i : ℕ) (x : X) → slice_get xs i ≡ Some x → P i x ↔ Q i (u x)) → AtSomeIndex xs P ↔ AtSomeIndex (map u xs) Q
same_index_there u xs P Q each = (
  λ h. (h.0, (at h.0).0 h.1),
  λ h. (h.0, (at h.0).1 h.1),
)
  where
    at : (i : ℕ) → Present (slice_get xs i) (P i) ↔ Present (slice_get (map u xs) i) (Q i)
    at i = subst (λ o. Present (slice_get xs i) (P i) ↔ Present o (Q i)) (sym (slice_get-map u xs i)) (same_present u (slice_get xs i) (P i) (Q i) (each i))

pub same_index : {X Y : Type 0} (u : X → Y) (xs : List X) (P : ℕ → X → Type 0) (Q : ℕ → Y → Type 0) → ((i : ℕ) (x : X) → P i x ↔ Q i (u x)) → AtSomeIndex xs P ↔ AtSomeIndex (map u xs) Q
same_index u xs P Q each = same_index_there u xs P Q (λ i x there. each i x)

-- of one list
pub each_index : {X : Type 0} (xs : List X) (P Q : ℕ → X → Type 0) → ((i : ℕ) (x : X) → slice_get xs i ≡ Some x → P i x ↔ Q i x) → AtSomeIndex xs P ↔ AtSomeIndex xs Q
each_index xs P Q each = (
  λ h. (h.0, (h.1.0, (h.1.1.0, (each h.0 h.1.0 h.1.1.0).0 h.1.1.1))),
  λ h. (h.0, (h.1.0, (h.1.1.0, (each h.0 h.1.0 h.1.1.0).1 h.1.1.1))),
)

module _ {X Y : Type 0} (u : X → Y) (name : Y → List ℕ) (xs : List X) where
  pub same_lacks : (n : List ℕ) → Lacks (λ x. name (u x)) xs n ↔ Lacks name (map u xs) n
  same_lacks n = neither (same_index u xs (λ i x. name (u x) ≡ n) (λ i y. name y ≡ n) (λ i x. (λ h. h, λ h. h)))

  pub same_first : (n : List ℕ) (i : ℕ) → IsFirst (λ x. name (u x)) xs n i ↔ IsFirst name (map u xs) n i
  same_first n i = neither (same_index u xs (λ k x. (k < i) × (name (u x) ≡ n)) (λ k y. (k < i) × (name y ≡ n)) (λ k x. (λ h. h, λ h. h)))

-- of the first that has a name
pub same_first_named : {X Y : Type 0} (u : X → Y) (name : Y → List ℕ) (xs : List X) (n : List ℕ) (Q : ℕ → Y → Type 0) → FirstNamed (λ x. name (u x)) xs n (λ i x. Q i (u x)) ↔ FirstNamed name (map u xs) n Q
same_first_named u name xs n Q =
    same_index u xs (λ i x. (name (u x) ≡ n) × (IsFirst (λ z. name (u z)) xs n i × Q i (u x))) (λ i y. (name y ≡ n) × (IsFirst name (map u xs) n i × Q i y))
    (λ i x. both_ways (λ h. h, λ h. h) (both_ways (same_first u name xs n i) (λ h. h, λ h. h)))

-- ---- rules

-- `Is` says that a fault is told as another
module _ {A B : Type 0} (Is : A → B → Type 0) where
  -- S tells what R tells, as it is told
  abbrev pub Moves : (A → Type 0) → (B → Type 0) → Type 0
  Moves R S = (f : B) → S f ↔ ((g : A) × (R g × Is g f))

  pub moves_no : Moves (λ g. ⊥) (λ f. ⊥)
  moves_no f = (λ h. absurd h, λ q. absurd q.1.0)

  pub moves_either : {R R' : A → Type 0} {S S' : B → Type 0} → Moves R S → Moves R' S' → Moves (λ g. R g ⊎ R' g) (λ f. S f ⊎ S' f)
  moves_either a b f = (
    λ h. elim h [
      | inl s ↦ let r = (a f).0 s in (r.0, (inl r.1.0, r.1.1))
      | inr s ↦ let r = (b f).0 s in (r.0, (inr r.1.0, r.1.1))
    ],
    λ q. elim q.1.0 [
      | inl r ↦ inl ((a f).1 (q.0, (r, q.1.1)))
      | inr r ↦ inr ((b f).1 (q.0, (r, q.1.1)))
    ],
  )

  pub moves_where : {V W : Type 0} {R : A → Type 0} {S : B → Type 0} → V ↔ W → Moves R S → Moves (λ g. V × R g) (λ f. W × S f)
  moves_where same each f = (
    λ h. let r = (each f).0 h.1 in (r.0, ((same.1 h.0, r.1.0), r.1.1)),
    λ q. (same.0 q.1.0.0, (each f).1 (q.0, (q.1.0.1, q.1.1))),
  )

  pub moves_some : {X : Type 0} (R : X → A → Type 0) (S : X → B → Type 0) → ((x : X) → Moves (R x) (S x)) → Moves (λ g. (x : X) × R x g) (λ f. (x : X) × S x f)
  moves_some R S each f = (
    λ h. let r = (each h.0 f).0 h.1 in (r.0, ((h.0, r.1.0), r.1.1)),
    λ q. (q.1.0.0, (each q.1.0.0 f).1 (q.0, (q.1.0.1, q.1.1))),
  )

  pub moves_same : {X : Type 0} (o : Option X) (R : X → A → Type 0) (S : X → B → Type 0) → ((x : X) → Moves (R x) (S x)) → Moves (λ g. Present o (λ x. R x g)) (λ f. Present o (λ x. S x f))
  moves_same o R S each = moves_some (λ x g. (o ≡ Some x) × R x g) (λ x f. (o ≡ Some x) × S x f) (λ x. moves_where (λ h. h, λ h. h) (each x))

  pub moves_nothing : (R : A → Type 0) (S : B → Type 0) → ((g : A) → R g → ⊥) → ((f : B) → S f → ⊥) → Moves R S
  moves_nothing R S a b f = (λ h. absurd (b f h), λ q. absurd (a q.0 q.1.0))

  -- of one list, which has no places
  pub moves_same_index : {X : Type 0} (xs : List X) (R : ℕ → X → A → Type 0) (S : ℕ → X → B → Type 0) → ((i : ℕ) (x : X) → Moves (R i x) (S i x)) → Moves (λ g. AtSomeIndex xs (λ i x. R i x g)) (λ f. AtSomeIndex xs (λ i x. S i x f))
  moves_same_index xs R S each =
      moves_some (λ i g. Present (slice_get xs i) (λ x. R i x g)) (λ i f. Present (slice_get xs i) (λ x. S i x f)) (λ i. moves_same (slice_get xs i) (R i) (S i) (each i))

  pub moves_same_first : {X : Type 0} (name : X → List ℕ) (xs : List X) (n : List ℕ) (R : ℕ → X → A → Type 0) (S : ℕ → X → B → Type 0) → ((i : ℕ) (x : X) → Moves (R i x) (S i x))
      → Moves (λ g. FirstNamed name xs n (λ i x. R i x g)) (λ f. FirstNamed name xs n (λ i x. S i x f))
  moves_same_first name xs n R S each =
      moves_same_index xs (λ i x g. (name x ≡ n) × (IsFirst name xs n i × R i x g)) (λ i x f. (name x ≡ n) × (IsFirst name xs n i × S i x f))
      (λ i x. moves_where (λ h. h, λ h. h) (moves_where (λ h. h, λ h. h) (each i x)))

  module _ {X Y : Type 0} (u : X → Y) where
    pub moves_present : (o : Option X) (R : X → A → Type 0) (S : Y → B → Type 0) → ((x : X) → Moves (R x) (S (u x))) → Moves (λ g. Present o (λ x. R x g)) (λ f. Present (option_map u o) (λ y. S y f))
    moves_present None R S each f = (λ h. cc, λ q. cc)
    moves_present (Some x) R S each f = (
      λ h. let e : u x ≡ h.0 = cc in
          let r = (each x f).0 (subst (λ y. S y f) (sym e) h.1.1) in
          (r.0, ((x, (refl, r.1.0)), r.1.1)),
      λ q. let e : x ≡ q.1.0.0 = cc in
          (u x, (refl, (each x f).1 (q.0, (subst (λ y. R y q.0) (sym e) q.1.0.1.1, q.1.1)))),
    )

    pub moves_index : (xs : List X) (R : ℕ → X → A → Type 0) (S : ℕ → Y → B → Type 0) → ((i : ℕ) (x : X) → Moves (R i x) (S i (u x))) → Moves (λ g. AtSomeIndex xs (λ i x. R i x g)) (λ f. AtSomeIndex (map u xs) (λ i y. S i y f))
    moves_index xs R S each =
        moves_some (λ i g. Present (slice_get xs i) (λ x. R i x g)) (λ i f. Present (slice_get (map u xs) i) (λ y. S i y f)) (λ i.
        subst (λ o. Moves (λ g. Present (slice_get xs i) (λ x. R i x g)) (λ f. Present o (λ y. S i y f))) (sym (slice_get-map u xs i))
        (moves_present (slice_get xs i) (R i) (S i) (each i)))

    -- of the first that has a name
    pub moves_first : (name : Y → List ℕ) (xs : List X) (n : List ℕ) (R : ℕ → X → A → Type 0) (S : ℕ → Y → B → Type 0) → ((i : ℕ) (x : X) → Moves (R i x) (S i (u x)))
        → Moves (λ g. FirstNamed (λ x. name (u x)) xs n (λ i x. R i x g)) (λ f. FirstNamed name (map u xs) n (λ i y. S i y f))
    moves_first name xs n R S each =
        moves_index xs (λ i x g. (name (u x) ≡ n) × (IsFirst (λ z. name (u z)) xs n i × R i x g)) (λ i y f. (name y ≡ n) × (IsFirst name (map u xs) n i × S i y f))
        (λ i x. moves_where (λ h. h, λ h. h) (moves_where (same_first u name xs n i) (each i x)))

    -- of the first of a name and a later one
    pub moves_repeats : (name : Y → List ℕ) (xs : List X) (R : ℕ → X → ℕ → X → A → Type 0) (S : ℕ → Y → ℕ → Y → B → Type 0) → ((i : ℕ) (x : X) (j : ℕ) (z : X) → Moves (R i x j z) (S i (u x) j (u z)))
        → Moves (λ g. Repeats (λ x. name (u x)) xs (λ i x j z. R i x j z g)) (λ f. Repeats name (map u xs) (λ i y j z. S i y j z f))
    moves_repeats name xs R S each =
        moves_index xs
        (λ j z g. FirstNamed (λ x. name (u x)) xs (name (u z)) (λ i x. (i < j) × R i x j z g))
        (λ j z f. FirstNamed name (map u xs) (name z) (λ i y. (i < j) × S i y j z f))
        (λ j z. moves_first name xs (name (u z)) (λ i x g. (i < j) × R i x j z g) (λ i y f. (i < j) × S i y j (u z) f) (λ i x. moves_where (λ h. h, λ h. h) (each i x j z)))

-- a fault that is told as what `move` makes of it
pub moves_fault : {A B : Type 0} (move : A → B) (g : A) (f : B) → move g ≡ f → Moves (λ x y. y ≡ move x) (λ x. x ≡ g) (λ y. y ≡ f)
moves_fault move g f e y = (λ h. (g, (refl, h ∙ sym e)), λ q. q.1.1 ∙ ap move q.1.0 ∙ e)
