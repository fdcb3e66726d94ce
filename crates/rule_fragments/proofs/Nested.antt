-- A set in which selections nest deeper than a bound has a path that is longer, and the other way round.
use Rattle.std.proofs.Common.{◌≡◌, ◌⊎◌, ℕ, suc, ◌-◌, ◌<◌, Bool, true, ◌||◌, List, [], ◌∷◌, ◌++◌, length, None, slice_get, option_to_list, refl, sym, ap, subst, ◌∙◌, inl, inr, arith, true≢false, is_some, Contains}
use Rattle.std.specs.Prelude.{nat_eq}
use Rattle.std.proofs.lemmas.Bool.{cases_lt, eqb-true, eq-eqb}
use Rattle.std.proofs.lemmas.Option.{same_Some}
use Rattle.std.proofs.lemmas.List.Elements.{Contains-append_right}
use Rattle.rule_cycle_search.specs.Paths.{IsWay, HasNoRepeat}
use Rattle.rule_cycle_search.proofs.Lists.{not_in_nil, Contains-cons, Contains-first}
use Rattle.spec_document.specs.MeantTree.{MeantSelection, MeantField, MeantSpread, MeantInline, MeantSet, meant_set, MeantSelections, no_meant, meant_then, MeantDocument}
use Rattle.rule_definitions.specs.Words.{Present}
use Rattle.rule_document_definitions.specs.Selected.{Position, SelectionAt, Standing, StandingField, field_there, in_inline, stand, standing_in, spread_name}
use Rattle.rule_document_definitions.specs.Limits.{entered, Enters}
use Rattle.rule_fragments.specs.Nested.{HasInside, deeper_in, deeper_along, deeper_of}
use Rattle.rule_selection_queries.proofs.Staying.{or_cases, or_left, or_right}

module _ {P : Type 0} (d : MeantDocument P) where
  -- a path in one text from one of these
  pub record Path (begins : Standing P → Type 0) (bound : ℕ) : Type 0 where
    pub first : Standing P
    pub others : List (Standing P)
    pub begun : begins first
    pub way : IsWay (HasInside d) (first ∷ others)
    pub long : bound < length (first ∷ others)

  -- ---- deeper: a path

  zero_or_less : (b : ℕ) (deeper : Bool) → (nat_eq b 0 || deeper) ≡ true → (b ≡ 0) ⊎ ((0 < b) × (deeper ≡ true))
  zero_or_less b deeper e = elim (cases_lt 0 b) [
    | inl l ↦ inr (
      l,
      elim (or_cases (nat_eq b 0) deeper e) [
        | inl z ↦ let none = eqb-true b 0 z in absurd (omega (arith, l, none))
        | inr d' ↦ d'
      ],
    )
    | inr z ↦ inl (omega (arith, z))
  ]

  just : (at : Standing P) (b : ℕ) → b ≡ 0 → Path (λ y. y ≡ at) b
  just at b e = record {
    first = at;
    others = [];
    begun = refl;
    way = tt;
    long = omega (arith, e);
  }

  onto : (x : Standing P) (inner : Standing P → Type 0) (b : ℕ) → 0 < b → ((y : Standing P) → inner y → HasInside d x tt y) → Path inner (b - 1) → Path (λ y. y ≡ x) b
  onto x inner b l leads p = record {
    first = x;
    others = p.first ∷ p.others;
    begun = refl;
    way = ((tt, leads p.first p.begun), p.way);
    long = let q = p.long in omega (arith, l, q);
  }

  weaker : (A B : Standing P → Type 0) (b : ℕ) → ((y : Standing P) → A y → B y) → Path A b → Path B b
  weaker A B b h p = record {
    first = p.first;
    others = p.others;
    begun = h p.first p.begun;
    way = p.way;
    long = p.long;
  }

  mutual
    pub path_in : (h : Position) (s : MeantSet P) (b : ℕ) → deeper_in b s ≡ true → Path (Contains (standing_in h s)) b
    path_in h (meant_set t ss) b e = path_along h t 0 ss b e

    path_along : (h : Position) (t : List ℕ) (i : ℕ) (ss : MeantSelections P) (b : ℕ) → deeper_along b ss ≡ true → Path (Contains (stand h t i ss)) b
    path_along h t i no_meant b e = absurd (true≢false (sym e))
    path_along h t i (meant_then s ss) b e = elim (or_cases (deeper_of b s) (deeper_along b ss) e) [
      | inl a ↦ weaker (λ y. y ≡ record { position = SelectionAt h i; parent = t; it = s }) (Contains (stand h t i (meant_then s ss))) b
          (λ y k. Contains-first (record { position = SelectionAt h i; parent = t; it = s }) (stand h t (suc i) ss) y (sym k)) (path_of h t i s b a)
      | inr c ↦ weaker (Contains (stand h t (suc i) ss)) (Contains (stand h t i (meant_then s ss))) b
          (λ y k. Contains-append_right (record { position = SelectionAt h i; parent = t; it = s } ∷ []) (stand h t (suc i) ss) y k) (path_along h t (suc i) ss b c)
    ]

    path_of : (h : Position) (t : List ℕ) (i : ℕ) (s : MeantSelection P) (b : ℕ) → deeper_of b s ≡ true → Path (λ y. y ≡ record { position = SelectionAt h i; parent = t; it = s }) b
    path_of h t i (MeantField p x g s) b e = elim (zero_or_less b (deeper_in (b - 1) s) e) [
      | inl z ↦ just (record { position = SelectionAt h i; parent = t; it = MeantField p x g s }) b z
      | inr l ↦ onto (record { position = SelectionAt h i; parent = t; it = MeantField p x g s }) (Contains (standing_in (SelectionAt h i) s)) b l.0
          (λ y c. inl (record { position = SelectionAt h i; parent = t; place = p; definition = x; head = g; set = s }, (refl, c))) (path_in (SelectionAt h i) s (b - 1) l.1)
    ]
    path_of h t i (MeantSpread p n ds) b e = just (record { position = SelectionAt h i; parent = t; it = MeantSpread p n ds }) b (eqb-true b 0 e)
    path_of h t i (MeantInline p x ds s) b e = elim (zero_or_less b (deeper_in (b - 1) s) e) [
      | inl z ↦ just (record { position = SelectionAt h i; parent = t; it = MeantInline p x ds s }) b z
      | inr l ↦ onto (record { position = SelectionAt h i; parent = t; it = MeantInline p x ds s }) (Contains (standing_in (SelectionAt h i) s)) b l.0
          (λ y c. inr c) (path_in (SelectionAt h i) s (b - 1) l.1)
    ]

  -- ---- a path: deeper

  abbrev head_at : Position → List ℕ → ℕ → MeantSelection P → Standing P
  head_at h t i s = record { position = SelectionAt h i; parent = t; it = s }

  ahead : (b : ℕ) (deeper : Bool) → (0 < b → deeper ≡ true) → (nat_eq b 0 || deeper) ≡ true
  ahead b deeper e = elim (cases_lt 0 b) [
    | inl l ↦ or_right (nat_eq b 0) deeper (e l)
    | inr z ↦ let none : b ≡ 0 = omega (arith, z) in or_left (nat_eq b 0) deeper (eq-eqb b 0 none)
  ]

  in_field : (at : Position) (t : List ℕ) (s : MeantSelection P) (y : Standing P) → Present (field_there at t s) (λ f. Contains (standing_in f.position f.set) y) ⊎ Contains (in_inline at s) y
      → (b : ℕ) → ((h : Position) (u : MeantSet P) → Contains (standing_in h u) y → deeper_in (b - 1) u ≡ true) → deeper_of b s ≡ true
  in_field at t (MeantField p x g s) y (inl (f, (e, c))) b further = ahead b (deeper_in (b - 1) s) (λ l. further at s (subst (λ (k : StandingField P). Contains (standing_in k.position k.set) y) (sym (same_Some _ _ e)) c))
  in_field at t (MeantField p x g s) y (inr c) b further = not_in_nil y c
  in_field at t (MeantSpread p n ds) y (inl (f, (e, c))) b further = absurd (true≢false (sym (ap is_some e)))
  in_field at t (MeantSpread p n ds) y (inr c) b further = not_in_nil y c
  in_field at t (MeantInline p x ds s) y (inl (f, (e, c))) b further = absurd (true≢false (sym (ap is_some e)))
  in_field at t (MeantInline p x ds s) y (inr c) b further = ahead b (deeper_in (b - 1) s) (λ l. further at s c)

  at_none : (s : MeantSelection P) → deeper_of 0 s ≡ true
  at_none (MeantField p x g s) = refl
  at_none (MeantSpread p n ds) = refl
  at_none (MeantInline p x ds s) = refl

  one_deeper : (h : Position) (t : List ℕ) (i : ℕ) (ss : MeantSelections P) (x : Standing P) (b : ℕ) → Contains (stand h t i ss) x → deeper_of b x.it ≡ true → deeper_along b ss ≡ true
  one_deeper h t i no_meant x b c e = not_in_nil x c
  one_deeper h t i (meant_then s ss) x b c e = elim (Contains-cons (head_at h t i s) (stand h t (suc i) ss) x c) [
    | inl k ↦ or_left (deeper_of b s) (deeper_along b ss) (ap (λ (z : Standing P). deeper_of b z.it) k ∙ e)
    | inr r ↦ or_right (deeper_of b s) (deeper_along b ss) (one_deeper h t (suc i) ss x b r e)
  ]

  set_deeper : (h : Position) (s : MeantSet P) (x : Standing P) (b : ℕ) → Contains (standing_in h s) x → deeper_of b x.it ≡ true → deeper_in b s ≡ true
  set_deeper h (meant_set t ss) x b c e = one_deeper h t 0 ss x b c e

  -- the first of a path
  way_deeper : (x : Standing P) (path : List (Standing P)) (b : ℕ) → IsWay (HasInside d) (x ∷ path) → b < length (x ∷ path) → deeper_of b x.it ≡ true
  way_deeper x [] b w l = subst (λ n. deeper_of n x.it ≡ true) (zero_is b l) (at_none x.it)
    where
      zero_is : (b : ℕ) → b < 1 → 0 ≡ b
      zero_is b l = omega (arith, l)
  way_deeper x (y ∷ path) b ((u, step), w) l =
      let rest = way_deeper y path (b - 1) w (shorter b l) in
      in_field x.position x.parent x.it y step b (λ h s c. set_deeper h s y (b - 1) c rest)
    where
      shorter : (b : ℕ) → b < suc (suc (length path)) → b - 1 < suc (length path)
      shorter b l = omega (arith, l)

  pub path_deeper : (h : Position) (s : MeantSet P) (x : Standing P) (path : List (Standing P)) (b : ℕ) → Contains (standing_in h s) x → IsWay (HasInside d) (x ∷ path) → b < length (x ∷ path) → deeper_in b s ≡ true
  path_deeper h s x path b c w l = set_deeper h s x b c (way_deeper x path b w l)

  -- ---- such a path enters no fragment

  enters : (x y : Standing P) → HasInside d x tt y → Enters d x tt y
  enters x y (inl p) = inl p
  enters x y (inr c) = inr (inl c)

  pub way_enters : (x : Standing P) (path : List (Standing P)) → IsWay (HasInside d) (x ∷ path) → IsWay (Enters d) (x ∷ path)
  way_enters x [] w = tt
  way_enters x (y ∷ path) ((u, step), w) = ((tt, enters x y step), way_enters y path w)

  no_spread : (at : Position) (t : List ℕ) (s : MeantSelection P) (y : Standing P) → Present (field_there at t s) (λ f. Contains (standing_in f.position f.set) y) ⊎ Contains (in_inline at s) y → spread_name s ≡ None
  no_spread at t (MeantField p x g s) y step = refl
  no_spread at t (MeantSpread p n ds) y (inl (f, (e, c))) = absurd (true≢false (sym (ap is_some e)))
  no_spread at t (MeantSpread p n ds) y (inr c) = not_in_nil y c
  no_spread at t (MeantInline p x ds s) y step = refl

  pub enters_none : (x : Standing P) (path : List (Standing P)) → IsWay (HasInside d) (x ∷ path) → entered (x ∷ path) ≡ []
  enters_none x [] w = refl
  enters_none x (y ∷ path) ((u, step), w) = (λ i. option_to_list (no_spread x.position x.parent x.it y step i) ++ enters_none y path w i)

  pub none_again : {X : Type 0} (xs : List X) → xs ≡ [] → HasNoRepeat xs
  none_again xs e i j x h k = absurd (true≢false (sym (ap is_some (ap (λ l. slice_get l i) (sym e) ∙ h))))
