-- What a rule tells of something without places is what it tells of the thing itself, with the places left out: piece by piece, once
-- for all rules.
use Rattle.std.proofs.Common.{◌≡◌, ℕ, ◌<◌, ◌⊎◌, ◌↔◌, Bool, true, false, cond, find, List, [], ◌∷◌, map, refl, sym, ap, subst, ◌∙◌, inl, inr, Option, Some, slice_get, Contains}
use Rattle.std.specs.Option.{option_map}
use Rattle.rule_definitions.proofs.Lists.{mapped_some, slice_get-map}
use Rattle.rule_definitions.specs.Words.{Present, AtSomeIndex, Lacks, IsFirst, FirstNamed, Repeats}
use Rattle.rule_document_definitions.proofs.Unplaced.{contains_map, contains_unmap}

-- ---- facts that hold in the same cases

pub same : {A : Type 0} → A ↔ A
same = (λ h. h, λ h. h)

pub both_ways : {A B C D : Type 0} → A ↔ B → C ↔ D → (A × C) ↔ (B × D)
both_ways a c = (λ h. (a.0 h.0, c.0 h.1), λ h. (a.1 h.0, c.1 h.1))

pub either_way : {A B C D : Type 0} → A ↔ B → C ↔ D → (A ⊎ C) ↔ (B ⊎ D)
either_way a c = (λ h. elim h [ inl x ↦ inl (a.0 x) | inr y ↦ inr (c.0 y) ], λ h. elim h [ inl x ↦ inl (a.1 x) | inr y ↦ inr (c.1 y) ])

pub neither : {A B : Type 0} → A ↔ B → (A → ⊥) ↔ (B → ⊥)
neither a = (λ h b. h (a.1 b), λ h b. h (a.0 b))

-- of equal things
pub along : {X : Type 0} (Q : X → Type 0) {x y : X} → x ≡ y → Q x ↔ Q y
along Q e = (subst Q e, subst Q (sym e))

-- where one side of an equation is another
pub equal_to : {X : Type 0} {x y : X} (z : X) → x ≡ y → (x ≡ z) ↔ (y ≡ z)
equal_to z e = (λ h. sym e ∙ h, λ h. e ∙ h)

module _ {X Y : Type 0} (u : X → Y) where
  pub same_present : (o : Option X) (o' : Option Y) → o' ≡ option_map u o → (P : X → Type 0) (Q : Y → Type 0) → ((x : X) → P x ↔ Q (u x)) → Present o P ↔ Present o' Q
  same_present o o' is P Q each = (
    λ h. (u h.0, (is ∙ ap (option_map u) h.1.0, (each h.0).0 h.1.1)),
    λ h. let m = mapped_some u o h.0 (sym is ∙ h.1.0) in (m.0, (m.1.0, (each m.0).1 (subst Q m.1.1 h.1.1))),
  )

  -- of some thing: In says which there are on the one side, Out on the other
  pub same_among : (In : X → Type 0) (Out : Y → Type 0) → ((x : X) → In x → Out (u x)) → ((y : Y) → Out y → (x : X) × (In x × (u x ≡ y)))
      → (P : X → Type 0) (Q : Y → Type 0) → ((x : X) → P x ↔ Q (u x)) → ((x : X) × (In x × P x)) ↔ ((y : Y) × (Out y × Q y))
  same_among In Out on back P Q each = (
    λ h. (u h.0, (on h.0 h.1.0, (each h.0).0 h.1.1)),
    λ h. let x = back h.0 h.1.0 in (x.0, (x.1.0, (each x.0).1 (subst Q (sym x.1.1) h.1.1))),
  )

  pub same_index : (xs : List X) (P : ℕ → X → Type 0) (Q : ℕ → Y → Type 0) → ((i : ℕ) (x : X) → P i x ↔ Q i (u x)) → AtSomeIndex xs P ↔ AtSomeIndex (map u xs) Q
  same_index xs P Q each = (
    λ h. (h.0, (same_present (slice_get xs h.0) (slice_get (map u xs) h.0) (slice_get-map u xs h.0) (P h.0) (Q h.0) (each h.0)).0 h.1),
    λ h. (h.0, (same_present (slice_get xs h.0) (slice_get (map u xs) h.0) (slice_get-map u xs h.0) (P h.0) (Q h.0) (each h.0)).1 h.1),
  )

  module _ (name : Y → List ℕ) (xs : List X) where
    pub same_lacks : (n : List ℕ) → Lacks (λ x. name (u x)) xs n ↔ Lacks name (map u xs) n
    same_lacks n = neither (same_index xs (λ i x. name (u x) ≡ n) (λ i y. name y ≡ n) (λ i x. same))

    pub same_first : (n : List ℕ) (i : ℕ) → IsFirst (λ x. name (u x)) xs n i ↔ IsFirst name (map u xs) n i
    same_first n i = neither (same_index xs (λ k x. (k < i) × (name (u x) ≡ n)) (λ k y. (k < i) × (name y ≡ n)) (λ k x. same))

  -- the first that passes
  pub find_map : (test : Y → Bool) (xs : List X) → find test (map u xs) ≡ option_map u (find (λ x. test (u x)) xs)
  find_map test [] = refl
  find_map test (x ∷ xs) = by (test (u x)) (find_map test xs)
    where
      by : (b : Bool) → find test (map u xs) ≡ option_map u (find (λ z. test (u z)) xs) → cond b (Some (u x)) (find test (map u xs)) ≡ option_map u (cond b (Some x) (find (λ z. test (u z)) xs))
      by true rest = refl
      by false rest = rest

-- ---- rules

-- `Is g f` says that the fault g, without places, is f
module _ {A B : Type 0} (Is : A → B → Type 0) where
  -- S tells what R tells, without places
  abbrev pub Moves : (A → Type 0) → (B → Type 0) → Type 0
  Moves R S = (f : B) → S f ↔ ((g : A) × (R g × Is g f))

  pub moves_no : Moves (λ g. ⊥) (λ f. ⊥)
  moves_no f = (λ h. absurd h, λ q. absurd q.1.0)

  pub moves_either : {R R' : A → Type 0} {S S' : B → Type 0} → Moves R S → Moves R' S' → Moves (λ g. R g ⊎ R' g) (λ f. S f ⊎ S' f)
  moves_either a b f = (
    λ h. elim h [
      | inl s ↦ let r = (a f).0 s in (r.0, (inl r.1.0, r.1.1))
      | inr s ↦ let r = (b f).0 s in (r.0, (inr r.1.0, r.1.1))
    ],
    λ q. elim q.1.0 [
      | inl r ↦ inl ((a f).1 (q.0, (r, q.1.1)))
      | inr r ↦ inr ((b f).1 (q.0, (r, q.1.1)))
    ],
  )

  pub moves_where : {V W : Type 0} {R : A → Type 0} {S : B → Type 0} → V ↔ W → Moves R S → Moves (λ g. V × R g) (λ f. W × S f)
  moves_where is each f = (
    λ h. let r = (each f).0 h.1 in (r.0, ((is.1 h.0, r.1.0), r.1.1)),
    λ q. (is.0 q.1.0.0, (each f).1 (q.0, (q.1.0.1, q.1.1))),
  )

  pub moves_some : {X : Type 0} (R : X → A → Type 0) (S : X → B → Type 0) → ((x : X) → Moves (R x) (S x)) → Moves (λ g. (x : X) × R x g) (λ f. (x : X) × S x f)
  moves_some R S each f = (
    λ h. let r = (each h.0 f).0 h.1 in (r.0, ((h.0, r.1.0), r.1.1)),
    λ q. (q.1.0.0, (each q.1.0.0 f).1 (q.0, (q.1.0.1, q.1.1))),
  )

  -- of something that has no places
  pub moves_same : {X : Type 0} (o : Option X) (R : X → A → Type 0) (S : X → B → Type 0) → ((x : X) → Moves (R x) (S x)) → Moves (λ g. Present o (λ x. R x g)) (λ f. Present o (λ x. S x f))
  moves_same o R S each = moves_some (λ x g. (o ≡ Some x) × R x g) (λ x f. (o ≡ Some x) × S x f) (λ x. moves_where same (each x))

  -- of something that is equal on both sides
  pub moves_equal : {X : Type 0} (o o' : Option X) → o' ≡ o → (R : X → A → Type 0) (S : X → B → Type 0) → ((x : X) → Moves (R x) (S x)) → Moves (λ g. Present o (λ x. R x g)) (λ f. Present o' (λ x. S x f))
  moves_equal o o' is R S each = moves_some (λ x g. (o ≡ Some x) × R x g) (λ x f. (o' ≡ Some x) × S x f) (λ x. moves_where (λ e. is ∙ e, λ e. sym is ∙ e) (each x))

  pub moves_same_index : {X : Type 0} (xs : List X) (R : ℕ → X → A → Type 0) (S : ℕ → X → B → Type 0) → ((i : ℕ) (x : X) → Moves (R i x) (S i x)) → Moves (λ g. AtSomeIndex xs (λ i x. R i x g)) (λ f. AtSomeIndex xs (λ i x. S i x f))
  moves_same_index xs R S each =
      moves_some (λ i g. Present (slice_get xs i) (λ x. R i x g)) (λ i f. Present (slice_get xs i) (λ x. S i x f)) (λ i. moves_same (slice_get xs i) (R i) (S i) (each i))

  pub moves_same_first : {X : Type 0} (name : X → List ℕ) (xs : List X) (n : List ℕ) (R : ℕ → X → A → Type 0) (S : ℕ → X → B → Type 0) → ((i : ℕ) (x : X) → Moves (R i x) (S i x))
      → Moves (λ g. FirstNamed name xs n (λ i x. R i x g)) (λ f. FirstNamed name xs n (λ i x. S i x f))
  moves_same_first name xs n R S each =
      moves_same_index xs (λ i x g. (name x ≡ n) × (IsFirst name xs n i × R i x g)) (λ i x f. (name x ≡ n) × (IsFirst name xs n i × S i x f))
      (λ i x. moves_where same (moves_where same (each i x)))

  -- of some thing, where u leaves the places out of each
  module _ {X Y : Type 0} (u : X → Y) where
    -- In says which things there are on the one side, Out on the other
    pub moves_among : (In : X → Type 0) (Out : Y → Type 0) → ((x : X) → In x → Out (u x)) → ((y : Y) → Out y → (x : X) × (In x × (u x ≡ y)))
        → (R : X → A → Type 0) (S : Y → B → Type 0) → ((x : X) → In x → Moves (R x) (S (u x))) → Moves (λ g. (x : X) × (In x × R x g)) (λ f. (y : Y) × (Out y × S y f))
    moves_among In Out on back R S each f = (
      λ h. let x = back h.0 h.1.0 in
          let r = (each x.0 x.1.0 f).0 (subst (λ y. S y f) (sym x.1.1) h.1.1) in
          (r.0, ((x.0, (x.1.0, r.1.0)), r.1.1)),
      λ q. (u q.1.0.0, (on q.1.0.0 q.1.0.1.0, (each q.1.0.0 q.1.0.1.0 f).1 (q.0, (q.1.0.1.1, q.1.1)))),
    )

    pub moves_contained : (xs : List X) (ys : List Y) → ys ≡ map u xs → (R : X → A → Type 0) (S : Y → B → Type 0) → ((x : X) → Moves (R x) (S (u x)))
        → Moves (λ g. (x : X) × (Contains xs x × R x g)) (λ f. (y : Y) × (Contains ys y × S y f))
    moves_contained xs ys is R S each =
        moves_among (Contains xs) (Contains ys) (λ x c. subst (λ l. Contains l (u x)) (sym is) (contains_map u xs x c)) (λ y c. contains_unmap u xs y (subst (λ l. Contains l y) is c)) R S (λ x c. each x)

    pub moves_present : (o : Option X) (o' : Option Y) → o' ≡ option_map u o → (R : X → A → Type 0) (S : Y → B → Type 0) → ((x : X) → Moves (R x) (S (u x)))
        → Moves (λ g. Present o (λ x. R x g)) (λ f. Present o' (λ y. S y f))
    moves_present o o' is R S each =
        moves_among (λ x. o ≡ Some x) (λ y. o' ≡ Some y) (λ x e. is ∙ ap (option_map u) e)
        (λ y e. let m = mapped_some u o y (sym is ∙ e) in (m.0, (m.1.0, sym m.1.1))) R S (λ x e. each x)

    pub moves_index : (xs : List X) (ys : List Y) → ys ≡ map u xs → (R : ℕ → X → A → Type 0) (S : ℕ → Y → B → Type 0) → ((i : ℕ) (x : X) → Moves (R i x) (S i (u x)))
        → Moves (λ g. AtSomeIndex xs (λ i x. R i x g)) (λ f. AtSomeIndex ys (λ i y. S i y f))
    moves_index xs ys is R S each =
        moves_some (λ i g. Present (slice_get xs i) (λ x. R i x g)) (λ i f. Present (slice_get ys i) (λ y. S i y f)) (λ i.
        moves_present (slice_get xs i) (slice_get ys i) (ap (λ l. slice_get l i) is ∙ slice_get-map u xs i) (R i) (S i) (each i))

    -- of the first that has a name
    pub moves_first : (name : Y → List ℕ) (xs : List X) (n : List ℕ) (R : ℕ → X → A → Type 0) (S : ℕ → Y → B → Type 0) → ((i : ℕ) (x : X) → Moves (R i x) (S i (u x)))
        → Moves (λ g. FirstNamed (λ x. name (u x)) xs n (λ i x. R i x g)) (λ f. FirstNamed name (map u xs) n (λ i y. S i y f))
    moves_first name xs n R S each =
        moves_index xs (map u xs) refl (λ i x g. (name (u x) ≡ n) × (IsFirst (λ z. name (u z)) xs n i × R i x g)) (λ i y f. (name y ≡ n) × (IsFirst name (map u xs) n i × S i y f))
        (λ i x. moves_where same (moves_where (same_first u name xs n i) (each i x)))

    -- of the first of a name and a later one
    pub moves_repeats : (name : Y → List ℕ) (xs : List X) (R : ℕ → X → ℕ → X → A → Type 0) (S : ℕ → Y → ℕ → Y → B → Type 0) → ((i : ℕ) (x : X) (j : ℕ) (z : X) → Moves (R i x j z) (S i (u x) j (u z)))
        → Moves (λ g. Repeats (λ x. name (u x)) xs (λ i x j z. R i x j z g)) (λ f. Repeats name (map u xs) (λ i y j z. S i y j z f))
    moves_repeats name xs R S each =
        moves_index xs (map u xs) refl
        (λ j z g. FirstNamed (λ x. name (u x)) xs (name (u z)) (λ i x. (i < j) × R i x j z g))
        (λ j z f. FirstNamed name (map u xs) (name z) (λ i y. (i < j) × S i y j z f))
        (λ j z. moves_first name xs (name (u z)) (λ i x g. (i < j) × R i x j z g) (λ i y f. (i < j) × S i y j (u z) f) (λ i x. moves_where same (each i x j z)))

-- one fault, which is what `move` makes of another
pub moves_fault : {A B : Type 0} (move : A → B) (g : A) (f : B) → move g ≡ f → Moves (λ x y. y ≡ move x) (λ x. x ≡ g) (λ y. y ≡ f)
moves_fault move g f e y = (λ h. (g, (refl, h ∙ sym e)), λ q. q.1.1 ∙ ap move q.1.0 ∙ e)
