-- Lists of faults and the rules that they tell, piece by piece.
use Rattle.std.proofs.Common.{◌≡◌, ℕ, ◌<◌, zero, suc, ◌⊎◌, inl, inr, ◌↔◌, Bool, true, false, List, [], ◌∷◌, ◌++◌, length, get_or, Contains, Option, None, Some, option_map, refl, sym, ap, subst, ◌∙◌, is_some, if◌then◌else◌, true≢false, arith}
use Rattle.std.specs.Bool.{Decides}
use Rattle.std.specs.Option.{option_map_or}
use Rattle.std.proofs.lemmas.Option.{same_Some}
use Rattle.std.proofs.lemmas.List.Elements.{Contains-append_left, Contains-append_right, Contains-append_cases}
use Rattle.fault_data.specs.in_rule_definitions.Words.{Present, AtSomeIndex}

pub no_true : {A : Type 0} → false ≡ true → A
no_true h = absurd (true≢false (sym h))

pub no_some : {X A : Type 0} (x : X) → None ≡ Some x → A
no_some x e = no_true (ap is_some e)

module _ {X : Type 0} where
  pub not_in_nil : {R : Type 0} (y : X) → Contains [] y → R
  not_in_nil y h = absurd (omega (arith, h.1))

  pub Contains-cons : (x : X) (xs : List X) (y : X) → Contains (x ∷ xs) y → (x ≡ y) ⊎ Contains xs y
  Contains-cons x xs y (k, h, e) = by k h e
    where
      by : (k : ℕ) → k < length (x ∷ xs) → get_or (x ∷ xs) k y ≡ y → (x ≡ y) ⊎ Contains xs y
      by zero h e = inl e
      by (suc k) h e = inr (k, omega arith, e)

  pub Contains-first : (x : X) (xs : List X) (y : X) → x ≡ y → Contains (x ∷ xs) y
  Contains-first x xs y e = (0, omega arith, e)

  pub only : (x y : X) → Contains (x ∷ []) y → y ≡ x
  only x y h = elim (Contains-cons x [] y h) [ inl e ↦ sym e | inr r ↦ not_in_nil y r ]

  pub is_only : (x y : X) → y ≡ x → Contains (x ∷ []) y
  is_only x y e = Contains-first x [] y (sym e)

module _ {B : Type 0} where
  -- the list has what breaks the rule, and nothing else
  abbrev pub Tells : List B → (B → Type 0) → Type 0
  Tells l R = (f : B) → Contains l f ↔ R f

  -- a rule in other words
  pub tells_same : (l : List B) (R Q : B → Type 0) → ((f : B) → R f ↔ Q f) → Tells l R → Tells l Q
  tells_same l R Q same tells f = (λ h. (same f).0 ((tells f).0 h), λ q. (tells f).1 ((same f).1 q))

  -- one list after the other
  pub tells_both : (l m : List B) (R Q : B → Type 0) → Tells l R → Tells m Q → Tells (l ++ m) (λ f. R f ⊎ Q f)
  tells_both l m R Q a b f = (
    λ h. elim (Contains-append_cases l m f h) [ inl e ↦ inl ((a f).0 e) | inr e ↦ inr ((b f).0 e) ],
    λ q. elim q [ inl r ↦ Contains-append_left l m f ((a f).1 r) | inr r ↦ Contains-append_right l m f ((b f).1 r) ],
  )

  -- nothing
  pub tells_nothing : (R : B → Type 0) → ((f : B) → R f → ⊥) → Tells [] R
  tells_nothing R none f = (λ h. not_in_nil f h, λ r. absurd (none f r))

  -- one fault
  pub tells_one : (x : B) → Tells (x ∷ []) (λ f. f ≡ x)
  tells_one x f = (λ h. only x f h, λ e. is_only x f e)

  pub tells_one_as : (x y : B) → x ≡ y → Tells (x ∷ []) (λ f. f ≡ y)
  tells_one_as x y same f = (λ h. only x f h ∙ same, λ e. is_only x f (e ∙ sym same))

  -- where a test that decides a fact holds, and where it fails
  module _ {P : Type 0} where
    pub tells_when : (b : Bool) → Decides b P → (l : List B) (R : B → Type 0) → Tells l R → Tells (if b then l else []) (λ f. P × R f)
    tells_when true d l R tells f = (λ h. (d.0 refl, (tells f).0 h), λ q. (tells f).1 q.1)
    tells_when false d l R tells f = (λ h. not_in_nil f h, λ q. no_true (d.1 q.0))

    pub tells_unless : (b : Bool) → Decides b P → (l : List B) (R : B → Type 0) → Tells l R → Tells (if b then [] else l) (λ f. (P → ⊥) × R f)
    tells_unless true d l R tells f = (λ h. not_in_nil f h, λ q. absurd (q.0 (d.0 refl)))
    tells_unless false d l R tells f = (λ h. (λ p. no_true (d.1 p), (tells f).0 h), λ q. (tells f).1 q.1)

  -- of what is there
  pub tells_present : {X : Type 0} (o : Option X) (tells : X → List B) (R : X → B → Type 0) → ((x : X) → o ≡ Some x → Tells (tells x) (R x))
      → Tells (option_map_or tells o []) (λ f. Present o (λ x. R x f))
  tells_present None tells R each f = (λ h. not_in_nil f h, λ q. no_some q.0 q.1.0)
  tells_present (Some x) tells R each f = (
    λ h. (x, (refl, (each x refl f).0 h)),
    λ q. (each x refl f).1 (subst (λ y. R y f) (sym (same_Some _ _ q.1.0)) q.1.1),
  )

  -- of what is there, in other words
  pub tells_mapped : {V Y : Type 0} (u : V → Y) (o : Option V) (tells : V → List B) (R : Y → B → Type 0) → ((x : V) → o ≡ Some x → Tells (tells x) (R (u x)))
      → Tells (option_map_or tells o []) (λ f. Present (option_map u o) (λ y. R y f))
  tells_mapped u None tells R each f = (λ h. not_in_nil f h, λ q. no_some q.0 q.1.0)
  tells_mapped u (Some x) tells R each f = (
    λ h. (u x, (refl, (each x refl f).0 h)),
    λ q. (each x refl f).1 (subst (λ y. R y f) (sym (same_Some _ _ q.1.0)) q.1.1),
  )

  -- ---- of the first that passes a test

  module _ {X : Type 0} (test : X → Bool) (tell : X → B) where
    abbrev pub first_told : List X → List B
    first_told [] = []
    first_told (x ∷ xs) = if test x then tell x ∷ [] else first_told xs

  module _ {X : Type 0} (test : X → Bool) (P : X → Type 0) (d : (x : X) → Decides (test x) (P x)) (tell : X → B) where
    -- none before this index passes
    abbrev pub NoneBefore : List X → ℕ → Type 0
    NoneBefore xs i = AtSomeIndex xs (λ k y. (k < i) × P y) → ⊥

    abbrev FirstTold : List X → B → Type 0
    FirstTold xs f = AtSomeIndex xs (λ i x. P x × (NoneBefore xs i × (f ≡ tell x)))

    here : (x : X) (xs : List X) → P x → (f : B) → FirstTold (x ∷ xs) f → f ≡ tell x
    here x xs p f (zero, (y, (e, (q, (none, is))))) = let same : y ≡ x = cc in is ∙ ap tell same
    here x xs p f (suc i, (y, (e, (q, (none, is))))) = absurd (none (zero, (x, (refl, (omega arith, p)))))

    later : (x : X) (xs : List X) → (P x → ⊥) → (f : B) → FirstTold (x ∷ xs) f → FirstTold xs f
    later x xs fails f (zero, (y, (e, (q, (none, is))))) = let same : y ≡ x = cc in absurd (fails (subst P same q))
    later x xs fails f (suc i, (y, (e, (q, (none, is))))) = (i, (y, (e, (q, (λ r. none (suc r.0, (r.1.0, (r.1.1.0, (omega (arith, r.1.1.1.0), r.1.1.1.1)))), is)))))

    before : (x : X) (xs : List X) → (P x → ⊥) → (i : ℕ) → NoneBefore xs i → NoneBefore (x ∷ xs) (suc i)
    before x xs fails i none (zero, (y, (e, (h, q)))) = let same : y ≡ x = cc in fails (subst P same q)
    before x xs fails i none (suc k, (y, (e, (h, q)))) = none (k, (y, (e, (omega (arith, h), q))))

    pub tells_first : (xs : List X) → Tells (first_told test tell xs) (FirstTold xs)
    tells_first [] = λ f. (λ h. not_in_nil f h, λ q. no_some q.1.0 q.1.1.0)
    tells_first (x ∷ xs) = by (test x) (d x) (tells_first xs)
      where
        by : (b : Bool) → Decides b (P x) → Tells (first_told test tell xs) (FirstTold xs) → Tells (if b then tell x ∷ [] else first_told test tell xs) (FirstTold (x ∷ xs))
        by true dx rest f = (
          λ h. (zero, (x, (refl, (dx.0 refl, (λ r. absurd (omega (arith, r.1.1.1.0)), only (tell x) f h))))),
          λ q. is_only (tell x) f (here x xs (dx.0 refl) f q),
        )
        by false dx rest f = (
          λ h. let r = (rest f).0 h in (suc r.0, (r.1.0, (r.1.1.0, (r.1.1.1.0, (before x xs (λ p. no_true (dx.1 p)) r.0 r.1.1.1.1.0, r.1.1.1.1.1))))),
          λ q. (rest f).1 (later x xs (λ p. no_true (dx.1 p)) f q),
        )
