-- Lists of faults and the rules by which they are told, piece by piece.
use Rattle.std.proofs.Common.{◌≡◌, ℕ, ◌+◌, ◌<◌, ◌⊎◌, ◌↔◌, Bool, true, false, List, [], ◌∷◌, ◌++◌, get_or, map, take, length, refl, sym, ap, subst, ◌∙◌, inl, inr, Option, None, Some, Contains, zero, suc, arith, ◌==◌, slice_get, append_assoc, if◌then◌else◌, true≢false, is_some}
use Rattle.std.specs.List.{flat_map}
use Rattle.std.specs.Option.{option_map_or}
use Rattle.std.proofs.lemmas.Bool.{eqb-true}
use Rattle.std.proofs.lemmas.Option.{same_Some}
use Rattle.std.proofs.lemmas.List.{append-nil, map-append, take_more}
use Rattle.std.proofs.lemmas.List.Elements.{Contains-append_left, Contains-append_right, Contains-append_cases}
use Rattle.schema_types.specs.in_components.Lists.{each_place_after, each_place}
use Rattle.schema_types.proofs.in_components.Places.{each_place-push}
use Rattle.rule_cycle_search.proofs.Lists.{not_in_nil, only, is_only}
use Rattle.rule_definitions.specs.Words.{Present, AtSomeIndex}

-- what holds at some index of a list with one more element holds at an earlier index, or of that element
module _ {X : Type 0} where
  pub index_append : (ys : List X) (y : X) (R : ℕ → X → Type 0) → AtSomeIndex (ys ++ y ∷ []) R ↔ (AtSomeIndex ys R ⊎ R (length ys) y)
  index_append [] y R = (λ h. by h.0 h.1.0 h.1.1.0 h.1.1.1, λ q. elim q [ inl h ↦ cc | inr r ↦ (0, (y, (refl, r))) ])
    where
      by : (i : ℕ) (x : X) → slice_get (y ∷ []) i ≡ Some x → R i x → AtSomeIndex [] R ⊎ R 0 y
      by zero x e r = let same : x ≡ y = cc in inr (subst (R 0) same r)
      by (suc i) x e r = cc
  index_append (x ∷ ys) y R = (
    λ h. by h.0 h.1.0 h.1.1.0 h.1.1.1 (λ q. (index_append ys y (λ i. R (suc i))).0 q),
    λ q. elim q [ inl h ↦ back h.0 h.1.0 h.1.1.0 h.1.1.1 (λ z. (index_append ys y (λ i. R (suc i))).1 z) | inr r ↦ let z = (index_append ys y (λ i. R (suc i))).1 (inr r) in (suc z.0, z.1) ],
  )
    where
      by : (i : ℕ) (z : X) → slice_get (x ∷ (ys ++ y ∷ [])) i ≡ Some z → R i z → (AtSomeIndex (ys ++ y ∷ []) (λ i. R (suc i)) → AtSomeIndex ys (λ i. R (suc i)) ⊎ R (suc (length ys)) y) → AtSomeIndex (x ∷ ys) R ⊎ R (suc (length ys)) y
      by zero z e r rest = inl (0, (z, (e, r)))
      by (suc i) z e r rest = elim (rest (i, (z, (e, r)))) [ inl q ↦ inl (suc q.0, q.1) | inr q ↦ inr q ]

      back : (i : ℕ) (z : X) → slice_get (x ∷ ys) i ≡ Some z → R i z → (AtSomeIndex ys (λ i. R (suc i)) ⊎ R (suc (length ys)) y → AtSomeIndex (ys ++ y ∷ []) (λ i. R (suc i))) → AtSomeIndex (x ∷ (ys ++ y ∷ [])) R
      back zero z e r rest = (0, (z, (e, r)))
      back (suc i) z e r rest = let q = rest (inl (i, (z, (e, r)))) in (suc q.0, q.1)

-- what is there, if it is known
pub present_known : {X : Type 0} (o : Option X) (x : X) (P : X → Type 0) → o ≡ Some x → P x ↔ Present o P
present_known o x P e = (λ p. (x, (e, p)), λ h. subst P (sym (same_Some x h.0 (sym e ∙ h.1.0))) h.1.1)

-- a list of length 0 is empty
pub empty_is : {X : Type 0} (xs : List X) → (length xs == 0) ≡ true → xs ≡ []
empty_is [] h = refl
empty_is (x ∷ xs) h = absurd (omega (arith, eqb-true (length (x ∷ xs)) 0 h))

pub nowhere : {X : Type 0} (xs : List X) (R : ℕ → X → Type 0) → xs ≡ [] → AtSomeIndex xs R → ⊥
nowhere xs R e q = true≢false (sym (ap is_some q.1.1.0) ∙ ap is_some (ap (λ l. slice_get l q.0) e))

-- the front with the next element
pub mapped_more : {X Y : Type 0} (f : X → Y) (xs : List X) (i : ℕ) (x : X) → i < length xs → x ≡ get_or xs i x → map f (take (i + 1) xs) ≡ map f (take i xs) ++ f x ∷ []
mapped_more f xs i x h e = ap (map f) (take_more xs i x h) ∙ map-append f (take i xs) (get_or xs i x ∷ []) ∙ ap (λ y. map f (take i xs) ++ f y ∷ []) (sym e)

-- the front of what is made of a list
pub front_of : {X Y : Type 0} (f : X → Y) (xs : List X) (i : ℕ) → take (length (map f (take i xs))) (map f xs) ≡ map f (take i xs)
front_of f [] zero = refl
front_of f [] (suc i) = refl
front_of f (x ∷ xs) zero = refl
front_of f (x ∷ xs) (suc i) = ap (λ l. f x ∷ l) (front_of f xs i)

module _ {B : Type 0} where
  -- the list has what breaks the rule, and nothing else
  abbrev pub Lists : List B → (B → Type 0) → Type 0
  Lists l R = (f : B) → Contains l f ↔ R f

  pub lists_same : {R S : B → Type 0} (l : List B) → ((f : B) → R f ↔ S f) → Lists l R → Lists l S
  lists_same l same h f = (λ c. (same f).0 ((h f).0 c), λ s. (h f).1 ((same f).1 s))

  pub lists_both : {R S : B → Type 0} (l m : List B) → Lists l R → Lists m S → Lists (l ++ m) (λ f. R f ⊎ S f)
  lists_both l m a b f = (
    λ h. elim (Contains-append_cases l m f h) [ inl e ↦ inl ((a f).0 e) | inr e ↦ inr ((b f).0 e) ],
    λ q. elim q [ inl r ↦ Contains-append_left l m f ((a f).1 r) | inr r ↦ Contains-append_right l m f ((b f).1 r) ],
  )

  pub lists_nothing : (R : B → Type 0) → ((f : B) → R f → ⊥) → Lists [] R
  lists_nothing R never f = (λ h. not_in_nil f h, λ r. absurd (never f r))

  pub lists_one : (x : B) → Lists (x ∷ []) (λ f. f ≡ x)
  lists_one x f = (only x f, is_only x f)

  pub lists_where : {Q : Type 0} (x : B) → Q → Lists (x ∷ []) (λ f. Q × (f ≡ x))
  lists_where x q f = (λ h. (q, only x f h), λ r. is_only x f r.1)

  -- what is told of what is there
  pub lists_present : {X : Type 0} (o : Option X) (tells : X → List B) (R : X → B → Type 0) → ((x : X) → o ≡ Some x → Lists (tells x) (R x)) → Lists (option_map_or tells o []) (λ f. Present o (λ x. R x f))
  lists_present None tells R each f = (λ h. not_in_nil f h, λ q. absurd (true≢false (sym (ap is_some q.1.0))))
  lists_present (Some x) tells R each f = (
    λ h. (x, (refl, (each x refl f).0 h)),
    λ q. let e : x ≡ q.0 = cc in (each x refl f).1 (subst (λ y. R y f) (sym e) q.1.1),
  )

  -- what is told where nothing is found
  pub lists_absent : {X : Type 0} (o : Option X) (x : B) → Lists (option_map_or (λ _. []) o (x ∷ [])) (λ f. (o ≡ None) × (f ≡ x))
  lists_absent None x = lists_where x refl
  lists_absent (Some y) x = lists_nothing (λ f. (Some y ≡ None) × (f ≡ x)) (λ f r. true≢false (ap is_some r.0))

  -- what is told where a test holds, and where it fails
  pub lists_when : (b : Bool) (x : B) → Lists (if b then x ∷ [] else []) (λ f. (b ≡ true) × (f ≡ x))
  lists_when true x = lists_where x refl
  lists_when false x = lists_nothing (λ f. (false ≡ true) × (f ≡ x)) (λ f r. true≢false (sym r.0))

  pub lists_unless : (b : Bool) (x : B) → Lists (if b then [] else x ∷ []) (λ f. (b ≡ false) × (f ≡ x))
  lists_unless true x = lists_nothing (λ f. (true ≡ false) × (f ≡ x)) (λ f r. true≢false r.0)
  lists_unless false x = lists_where x refl

  -- of each of a list
  first_or_later : {X : Type 0} (x : X) (xs : List X) (R : ℕ → X → B → Type 0) (f : B) → (R 0 x f ⊎ AtSomeIndex xs (λ i y. R (suc i) y f)) ↔ AtSomeIndex (x ∷ xs) (λ i y. R i y f)
  first_or_later {X} x xs R f = (
    λ h. elim h [ inl r ↦ (0, (x, (refl, r))) | inr q ↦ (suc q.0, q.1) ],
    λ q. by q.0 q.1.0 q.1.1.0 q.1.1.1,
  )
    where
      by : (i : ℕ) (y : X) → slice_get (x ∷ xs) i ≡ Some y → R i y f → R 0 x f ⊎ AtSomeIndex xs (λ i y. R (suc i) y f)
      by zero y e r = let same : y ≡ x = cc in inl (subst (λ z. R 0 z f) same r)
      by (suc i) y e r = inr (i, (y, (e, r)))

  pub lists_index : {X : Type 0} (xs : List X) (tells : X → List B) (R : ℕ → X → B → Type 0) → ((i : ℕ) (x : X) → slice_get xs i ≡ Some x → Lists (tells x) (R i x)) → Lists (flat_map tells xs) (λ f. AtSomeIndex xs (λ i x. R i x f))
  lists_index [] tells R each = lists_nothing (λ f. AtSomeIndex [] (λ i x. R i x f)) (λ f q. true≢false (sym (ap is_some q.1.1.0)))
  lists_index (x ∷ xs) tells R each =
      lists_same (tells x ++ flat_map tells xs) (first_or_later x xs R)
      (lists_both (tells x) (flat_map tells xs) (each 0 x refl) (lists_index xs tells (λ i. R (suc i)) (λ i y e. each (suc i) y e)))

  -- of each of a list with those before it
  lists_after : {X : Type 0} (tells : List X → X → List B) (before xs : List X) (R : ℕ → X → B → Type 0) → ((i : ℕ) (x : X) → slice_get xs i ≡ Some x → Lists (tells (before ++ take i xs) x) (R i x)) → Lists (each_place_after tells before xs) (λ f. AtSomeIndex xs (λ i x. R i x f))
  lists_after tells before [] R each = lists_nothing (λ f. AtSomeIndex [] (λ i x. R i x f)) (λ f q. true≢false (sym (ap is_some q.1.1.0)))
  lists_after tells before (x ∷ xs) R each =
      lists_same (tells before x ++ each_place_after tells (before ++ x ∷ []) xs) (first_or_later x xs R)
      (lists_both (tells before x) (each_place_after tells (before ++ x ∷ []) xs)
      (subst (λ b. Lists (tells b x) (R 0 x)) (append-nil before) (each 0 x refl))
      (lists_after tells (before ++ x ∷ []) xs (λ i. R (suc i)) (λ i y e. subst (λ b. Lists (tells b y) (R (suc i) y)) (sym (append_assoc before (x ∷ []) (take i xs))) (each (suc i) y e))))

  pub lists_places : {X : Type 0} (tells : List X → X → List B) (xs : List X) (R : ℕ → X → B → Type 0) → ((i : ℕ) (x : X) → slice_get xs i ≡ Some x → Lists (tells (take i xs) x) (R i x)) → Lists (each_place tells xs) (λ f. AtSomeIndex xs (λ i x. R i x f))
  lists_places tells xs R each = lists_after tells [] xs R each
