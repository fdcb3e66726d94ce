-- Names of fragments that are reached, with all that what is inside them and the operation spreads: then inside them and the operation
-- stands what the operation reaches.
use Rattle.std.proofs.Common.{◌≡◌, ◌↔◌, ◌++◌, ◌⊎◌, ℕ, Bool, true, false, List, [], ◌∷◌, Option, None, Some, refl, sym, ap, subst, ◌∙◌, inl, inr, true≢false, is_some, Contains}
use Rattle.std.specs.List.{flat_map}
use Rattle.std.specs.Option.{option_map_or}
use Rattle.std.proofs.lemmas.Option.{same_Some}
use Rattle.std.proofs.lemmas.List.Elements.{Contains-append_left, Contains-append_right, Contains-append_cases}
use Rattle.rule_cycle_search.proofs.Lists.{not_in_nil, found_in, given_in}
use Rattle.spec_document.specs.MeantTree.{MeantSelection, MeantField, MeantSpread, MeantInline, MeantOperation, MeantFragment, MeantDocument}
use Rattle.rule_definitions.specs.Words.{Present}
use Rattle.rule_document_definitions.specs.Selected.{Position, InOperation, InFragment, Standing, StandingField, as_field, field_there, standing_in, in_inline, spread_name, operation_name, fragment_named, own, held}
use Rattle.rule_document_definitions.specs.Reached.{Closed, first, next, InField, InFragmentOf}
use Rattle.rule_selection_queries.specs.Inside.{inside, LeadsOn, ReachesBy, inside_fragment, located}
use Rattle.rule_selection_queries.proofs.Inside.{InsideOf, own_in, next_in, sound_in}

module _ {P : Type 0} (nested : Bool) (keep : MeantSelection P → Bool) (d : MeantDocument P) (o : MeantOperation P) where
  abbrev IntoFragment : Standing P → Standing P → Type 0
  IntoFragment x y = Present (spread_name x.it) (λ n. Present (fragment_named d n) (λ f. Contains (held f) y))

  -- what a selection leads to is in it or in the fragment that it spreads
  field_leads : (at : Position) (t : List ℕ) (s : MeantSelection P) (y : Standing P) → nested ≡ true → Present (field_there at t s) (λ f. Contains (standing_in f.position f.set) y) → InsideOf nested keep at s y
  field_leads at t (MeantField p x h s) y n (f, (e, c)) = (n, subst (λ (g : StandingField P). Contains (standing_in g.position g.set) y) (sym (same_Some _ _ e)) c)
  field_leads at t (MeantSpread p n' ds) y n (f, (e, c)) = absurd (true≢false (sym (ap is_some e)))
  field_leads at t (MeantInline p x ds s) y n (f, (e, c)) = absurd (true≢false (sym (ap is_some e)))

  inline_leads : (at : Position) (s : MeantSelection P) (y : Standing P) → Contains (in_inline at s) y → InsideOf nested keep at s y
  inline_leads at (MeantField p x h s) y c = not_in_nil y c
  inline_leads at (MeantSpread p n ds) y c = not_in_nil y c
  inline_leads at (MeantInline p x ds s) y c = c

  leads : (x y : Standing P) → LeadsOn nested keep d o x y → InsideOf nested keep x.position x.it y ⊎ IntoFragment x y
  leads x y (inl (n, p)) = inl (field_leads x.position x.parent x.it y n p)
  leads x y (inr (inl c)) = inl (inline_leads x.position x.it y c)
  leads x y (inr (inr p)) = inr p

  leads_back : (at : Position) (t : List ℕ) (s : MeantSelection P) (y : Standing P) → InsideOf nested keep at s y
      → ((nested ≡ true) × Present (field_there at t s) (λ f. Contains (standing_in f.position f.set) y)) ⊎ Contains (in_inline at s) y
  leads_back at t (MeantField p x h s) y w = inl (w.0, (record { position = at; parent = t; place = p; definition = x; head = h; set = s }, (refl, w.1)))
  leads_back at t (MeantSpread p n ds) y w = absurd w
  leads_back at t (MeantInline p x ds s) y w = inr w

  leads_inside : (x y : Standing P) → InsideOf nested keep x.position x.it y → LeadsOn nested keep d o x y
  leads_inside x y w = elim (leads_back x.position x.parent x.it y w) [
    | inl p ↦ inl p
    | inr c ↦ inr (inl c)
  ]

  abbrev pub Reaches : Standing P → Type 0
  Reaches = ReachesBy nested keep d o

  onward : (x y : Standing P) → Reaches x → InsideOf nested keep x.position x.it y → keep y.it ≡ true → Reaches y
  onward x y r w k = next r (leads_inside x y w, k)

  -- what is inside the operation is reached, and passes
  pub own_reached : (x : Standing P) → Contains (inside nested keep (InOperation (operation_name o)) o.set) x → Reaches x × (keep x.it ≡ true)
  own_reached x c = sound_in nested keep Reaches onward (InOperation (operation_name o)) o.set (λ y b k. first (b, k)) x c

  -- what is inside a fragment that is spread is reached, and passes
  pub held_reached : (z : Standing P) (n : List ℕ) (f : MeantFragment P) → Reaches z → spread_name z.it ≡ Some n → fragment_named d n ≡ Some f
      → (x : Standing P) → Contains (inside nested keep (InFragment f.name.it) f.set) x → Reaches x × (keep x.it ≡ true)
  held_reached z n f r s e x c = sound_in nested keep Reaches onward (InFragment f.name.it) f.set (λ y b k. next r (inr (inr (n, (s, (f, (e, b))))), k)) x c

  abbrev set_of : Option (MeantFragment P) → List (Standing P)
  set_of o = option_map_or (λ f. inside nested keep (InFragment f.name.it) f.set) o []

  fragment_inside : (n : List ℕ) (x : Standing P) → Contains (inside_fragment nested keep d o n) x → (f : MeantFragment P) × ((fragment_named d n ≡ Some f) × Contains (inside nested keep (InFragment f.name.it) f.set) x)
  fragment_inside n x c = by (fragment_named d n) refl c
    where
      by : (q : Option (MeantFragment P)) → fragment_named d n ≡ q → Contains (set_of q) x → (f : MeantFragment P) × ((fragment_named d n ≡ Some f) × Contains (inside nested keep (InFragment f.name.it) f.set) x)
      by None e c = not_in_nil x c
      by (Some f) e c = (f, (e, c))

  inside_named : (n : List ℕ) (f : MeantFragment P) (x : Standing P) → fragment_named d n ≡ Some f → Contains (inside nested keep (InFragment f.name.it) f.set) x → Contains (inside_fragment nested keep d o n) x
  inside_named n f x e c = subst (λ q. Contains (set_of q) x) (sym e) c

  module _ (names : List (List ℕ)) where
    -- each is spread by a selection that is reached
    abbrev pub AreSpread : Type 0
    AreSpread = (n : List ℕ) → Contains names n → (z : Standing P) × (Reaches z × (spread_name z.it ≡ Some n))

    -- what is spread inside is among them
    abbrev pub AreClosed : Type 0
    AreClosed = (x : Standing P) → Contains (located nested keep d o names) x → (n : List ℕ) (f : MeantFragment P) → spread_name x.it ≡ Some n → fragment_named d n ≡ Some f → Contains names n

    abbrev root_part : List (Standing P)
    root_part = inside nested keep (InOperation (operation_name o)) o.set

    pub located_cases : (x : Standing P) → Contains (located nested keep d o names) x
        → Contains root_part x ⊎ ((n : List ℕ) × (Contains names n × ((f : MeantFragment P) × ((fragment_named d n ≡ Some f) × Contains (inside nested keep (InFragment f.name.it) f.set) x))))
    located_cases x c = elim (Contains-append_cases root_part (flat_map (inside_fragment nested keep d o) names) x c) [
      | inl a ↦ inl a
      | inr b ↦ let p = found_in (inside_fragment nested keep d o) x names b in inr (p.0, (p.1.0, fragment_inside p.0 x p.1.1))
    ]

    pub located_own : (x : Standing P) → Contains root_part x → Contains (located nested keep d o names) x
    located_own x c = Contains-append_left root_part (flat_map (inside_fragment nested keep d o) names) x c

    pub located_held : (n : List ℕ) (f : MeantFragment P) (x : Standing P) → Contains names n → fragment_named d n ≡ Some f → Contains (inside nested keep (InFragment f.name.it) f.set) x → Contains (located nested keep d o names) x
    located_held n f x m e c = Contains-append_right root_part (flat_map (inside_fragment nested keep d o) names) x (given_in (inside_fragment nested keep d o) x names n m (inside_named n f x e c))

    pub located_reached : AreSpread → (x : Standing P) → Contains (located nested keep d o names) x → Reaches x × (keep x.it ≡ true)
    located_reached spread x c = elim (located_cases x c) [
      | inl a ↦ own_reached x a
      | inr (n, (m, (f, (e, b)))) ↦ let z = spread n m in held_reached z.0 n f z.1.0 z.1.1 e x b
    ]

    step : AreClosed → (x y : Standing P) → Contains (located nested keep d o names) x → InsideOf nested keep x.position x.it y ⊎ IntoFragment x y → keep y.it ≡ true → Contains (located nested keep d o names) y
    step closed x y c (inl w) k = elim (located_cases x c) [
      | inl a ↦ located_own y (next_in nested keep (InOperation (operation_name o)) o.set x y a w k)
      | inr (n, (m, (f, (e, b)))) ↦ located_held n f y m e (next_in nested keep (InFragment f.name.it) f.set x y b w k)
    ]
    step closed x y c (inr (n, (s, (f, (e, b))))) k = located_held n f y (closed x c n f s e) e (own_in nested keep (InFragment f.name.it) f.set y b k)

    pub reached_located : AreClosed → (x : Standing P) → Reaches x → Contains (located nested keep d o names) x
    reached_located closed x (first (c, k)) = located_own x (own_in nested keep (InOperation (operation_name o)) o.set x c k)
    reached_located closed y (next {x} r (l, k)) = step closed x y (reached_located closed x r) (leads x y l) k
