-- What is reached in a document is reached in each document that it is part of.
use Rattle.std.proofs.Common.{◌≡◌, ℕ, suc, List, [], ◌∷◌, refl, sym, ap, subst, inl, inr, Contains, None, Some, is_some, true≢false}
use Rattle.std.proofs.lemmas.Option.{same_Some}
use Rattle.std.proofs.lemmas.List.Elements.{Contains-append_right}
use Rattle.spec_document.specs.MeantTree.{MeantSelection, MeantField, MeantSpread, MeantInline, MeantSet, meant_set, MeantSelections, no_meant, meant_then, MeantOperation, MeantFragment, MeantDocument}
use Rattle.rule_definitions.specs.Words.{Present}
use Rattle.rule_definitions.proofs.Lists.{not_in_nil, Contains-cons, Contains-first}
use Rattle.rule_document_definitions.specs.Selected.{Position, InOperation, InFragment, SelectionAt, Standing, StandingField, stand, standing_in, all_in, field_there, as_field, in_inline, spread_name, fragment_named, own, operation_name}
use Rattle.rule_document_definitions.specs.Reached.{Closed, first, next, InField, InFragmentOf, LeadsInto, Reached, AtRoot, ReachesFragment, AtReached, AtReachedField, AtReachedFragment}
use Rattle.rule_document_definitions.proofs.Inside.{IsInside, own_in, inside_in, all_so}
use Rattle.graphql_validation.specs.Parts.{AtSomeSelection, IsPartOfSelection, IsPartOfSet, ArePartOf, IsPartOf}

-- ---- least sets

module _ {X : Type 0} (Fit : X → X → Type 0) {First : X → Type 0} {Next : X → X → Type 0} {Start : X → Type 0} {Step : X → X → Type 0} where
  pub closed_fits : ((x : X) → First x → (y : X) × (Start y × Fit x y)) → ((x y z : X) → Fit x z → Next x y → (w : X) × (Step z w × Fit y w))
      → (x : X) → Closed First Next x → (y : X) × (Closed Start Step y × Fit x y)
  closed_fits s t x (first h) = let p = s x h in (p.0, (first p.1.0, p.1.1))
  closed_fits s t y (next {x = w} r l) =
      let p = closed_fits s t w r in
      let q = t w y p.0 p.1.1 l in
      (q.0, (next p.1.0 q.1.0, q.1.1))

module _ {P : Type 0} where
  -- ---- a selection, and where it is more

  -- x is part of y, which is on the same type
  abbrev pub Fits : Standing P → Standing P → Type 0
  Fits x y = (q : Position) × ((m : MeantSelection P) × ((y ≡ record { position = q; parent = x.parent; it = m }) × IsPartOfSelection x.it m))

  -- what does not ask what is inside holds of both
  pub same_head : (Q : MeantSelection P → Type 0) → ((p : _) (d : _) (h : _) (s t : MeantSet P) → Q (MeantField p d h s) → Q (MeantField p d h t))
      → ((p : _) (c : _) (ds : _) (s t : MeantSet P) → Q (MeantInline p c ds s) → Q (MeantInline p c ds t))
      → (x y : MeantSelection P) → IsPartOfSelection x y → Q x → Q y
  same_head Q field inline (MeantField p d h s) y (t, (is, part)) q = subst Q (sym is) (field p d h s t q)
  same_head Q field inline (MeantSpread p n ds) y is q = subst Q (sym is) q
  same_head Q field inline (MeantInline p c ds s) y (t, (is, part)) q = subst Q (sym is) (inline p c ds s t q)

  -- ---- sets

  found : (k : Position) (u : List ℕ) (j : ℕ) (us : MeantSelections P) (Q : MeantSelection P → Type 0) → AtSomeSelection Q us
      → (q : Position) × ((m : MeantSelection P) × (Contains (stand k u j us) (record { position = q; parent = u; it = m }) × Q m))
  found k u j no_meant Q h = absurd h
  found k u j (meant_then s us) Q (inl h) = (SelectionAt k j, (s, (Contains-first _ _ _ refl, h)))
  found k u j (meant_then s us) Q (inr h) =
      let p = found k u (suc j) us Q h in
      (p.0, (p.1.0, (Contains-append_right (record { position = SelectionAt k j; parent = u; it = s } ∷ []) _ _ p.1.1.0, p.1.1.1)))

  among : (h k : Position) (t : List ℕ) (i j : ℕ) (ss us : MeantSelections P) → ArePartOf ss us → (x : Standing P) → Contains (stand h t i ss) x
      → (y : Standing P) × (Contains (stand k t j us) y × Fits x y)
  among h k t i j no_meant us part x c = not_in_nil x c
  among h k t i j (meant_then s ss) us part x c = elim (Contains-cons _ (stand h t (suc i) ss) x c) [
    | inl e ↦ let p = found k t j us (λ u. IsPartOfSelection s u) part.0 in
        subst (λ z. (y : Standing P) × (Contains (stand k t j us) y × Fits z y)) e (_, (p.1.1.0, (p.0, (p.1.0, (refl, p.1.1.1)))))
    | inr r ↦ among h k t (suc i) j ss us part.1 x r
  ]

  pub in_set : (h k : Position) (s t : MeantSet P) → IsPartOfSet s t → (x : Standing P) → Contains (standing_in h s) x
      → (y : Standing P) × (Contains (standing_in k t) y × Fits x y)
  in_set h k (meant_set a ss) (meant_set b us) (is, part) x c =
      subst (λ z. (y : Standing P) × (Contains (stand k z 0 us) y × Fits x y)) (sym is) (among h k a 0 0 ss us part x c)

  -- ---- what is in a field or an inline fragment

  in_field : (p q : Position) (t : List ℕ) (m n : MeantSelection P) → IsPartOfSelection m n → (y : Standing P)
      → Present (field_there p t m) (λ f. Contains (standing_in f.position f.set) y)
      → (z : Standing P) × (Present (field_there q t n) (λ f. Contains (standing_in f.position f.set) z) × Fits y z)
  in_field p q t (MeantField a d h s) n (u, (is, part)) y (f, (e, c)) =
      let here : StandingField P = record { position = p; parent = t; place = a; definition = d; head = h; set = s } in
      let w = in_set p q s u part y (subst (λ (g : StandingField P). Contains (standing_in g.position g.set) y) (sym (same_Some here f e)) c) in
      subst (λ v. (z : Standing P) × (Present (field_there q t v) (λ f. Contains (standing_in f.position f.set) z) × Fits y z)) (sym is)
      (w.0, ((_, (refl, w.1.0)), w.1.1))
  in_field p q t (MeantSpread a l ds) n part y (f, (e, c)) = absurd (true≢false (sym (ap is_some e)))
  in_field p q t (MeantInline a l ds s) n part y (f, (e, c)) = absurd (true≢false (sym (ap is_some e)))

  inline : (p q : Position) (m n : MeantSelection P) → IsPartOfSelection m n → (y : Standing P) → Contains (in_inline p m) y
      → (z : Standing P) × (Contains (in_inline q n) z × Fits y z)
  inline p q (MeantField a d h s) n part y c = not_in_nil y c
  inline p q (MeantSpread a l ds) n part y c = not_in_nil y c
  inline p q (MeantInline a l ds s) n (u, (is, part)) y c =
      subst (λ v. (z : Standing P) × (Contains (in_inline q v) z × Fits y z)) (sym is) (in_set p q s u part y c)

  field_fits : (x y z : Standing P) → Fits x z → Present (as_field x) (λ f. Contains (standing_in f.position f.set) y)
      → (w : Standing P) × (Present (as_field z) (λ f. Contains (standing_in f.position f.set) w) × Fits y w)
  field_fits x y z (q, (m, (is, part))) h =
      subst (λ v. (w : Standing P) × (Present (as_field v) (λ f. Contains (standing_in f.position f.set) w) × Fits y w)) (sym is)
      (in_field x.position q x.parent x.it m part y h)

  inline_fits : (x y z : Standing P) → Fits x z → Contains (in_inline x.position x.it) y
      → (w : Standing P) × (Contains (in_inline z.position z.it) w × Fits y w)
  inline_fits x y z (q, (m, (is, part))) h =
      subst (λ v. (w : Standing P) × (Contains (in_inline v.position v.it) w × Fits y w)) (sym is) (inline x.position q x.it m part y h)

  inside_fits : (x y z : Standing P) → Fits x z → IsInside x y → (w : Standing P) × (IsInside z w × Fits y w)
  inside_fits x y z fits (inl h) = let p = field_fits x y z fits h in (p.0, (inl p.1.0, p.1.1))
  inside_fits x y z fits (inr h) = let p = inline_fits x y z fits h in (p.0, (inr p.1.0, p.1.1))

  -- all that a set has at any depth
  pub all_fits : (h k : Position) (s t : MeantSet P) → IsPartOfSet s t → (x : Standing P) → Contains (all_in h s) x
      → (y : Standing P) × (Contains (all_in k t) y × Fits x y)
  all_fits h k s t part x c = all_so (λ z. (y : Standing P) × (Contains (all_in k t) y × Fits z y))
      (λ z y p i. let w = inside_fits z y p.0 p.1.1 i in (w.0, (inside_in k t p.0 w.0 p.1.0 w.1.0, w.1.1)))
      h s (λ z own. let p = in_set h k s t part z own in (p.0, (own_in k t p.0 p.1.0, p.1.1))) x c

  -- ---- parts of a selection

  -- a spread is the same
  spread_is : (m n : MeantSelection P) (l : List ℕ) → IsPartOfSelection m n → spread_name m ≡ Some l → spread_name n ≡ Some l
  spread_is m n l part e = same_head (λ v. spread_name v ≡ Some l) (λ p d h s t q. q) (λ p c ds s t q. q) m n part e

  pub spread_fits : (x z : Standing P) (l : List ℕ) → Fits x z → spread_name x.it ≡ Some l → spread_name z.it ≡ Some l
  spread_fits x z l (q, (m, (is, part))) e = subst (λ (v : Standing P). spread_name v.it ≡ Some l) (sym is) (spread_is x.it m l part e)

  -- a field is the same, but for where it is and what it selects
  field_is : (p q : Position) (t : List ℕ) (m n : MeantSelection P) → IsPartOfSelection m n → (f : StandingField P) → field_there p t m ≡ Some f
      → (u : MeantSet P) × (field_there q t n ≡ Some (record f { position = q; set = u }))
  field_is p q t (MeantField a d h s) n (u, (is, part)) f e =
      let here : StandingField P = record { position = p; parent = t; place = a; definition = d; head = h; set = s } in (
        u,
        subst (λ v. field_there q t v ≡ Some (record f { position = q; set = u })) (sym is)
            (ap (λ (g : StandingField P). Some (record g { position = q; set = u })) (same_Some here f e)),
      )
  field_is p q t (MeantSpread a l ds) n part f e = absurd (true≢false (sym (ap is_some e)))
  field_is p q t (MeantInline a l ds s) n part f e = absurd (true≢false (sym (ap is_some e)))

  pub as_field_fits : (x z : Standing P) → Fits x z → (f : StandingField P) → as_field x ≡ Some f
      → (q : Position) × ((u : MeantSet P) × (as_field z ≡ Some (record f { position = q; set = u })))
  as_field_fits x z (q, (m, (is, part))) f e =
      let p = field_is x.position q x.parent x.it m part f e in
      (q, (p.0, subst (λ v. as_field v ≡ Some (record f { position = q; set = p.0 })) (sym is) p.1))

  -- what is no field is none
  no_field : (q : Position) (t : List ℕ) (m n : MeantSelection P) → IsPartOfSelection m n → field_there q t m ≡ None → field_there q t n ≡ None
  no_field q t m n part e = same_head (λ v. field_there q t v ≡ None) (λ p d h s u g. absurd (true≢false (ap is_some g))) (λ p c ds s u g. g) m n part e

  no_field_there : (p q : Position) (t : List ℕ) (m : MeantSelection P) → field_there p t m ≡ None → field_there q t m ≡ None
  no_field_there p q t (MeantField a d h s) e = absurd (true≢false (ap is_some e))
  no_field_there p q t (MeantSpread a l ds) e = refl
  no_field_there p q t (MeantInline a l ds s) e = refl

  pub no_field_fits : (x z : Standing P) → Fits x z → as_field x ≡ None → as_field z ≡ None
  no_field_fits x z (q, (m, (is, part))) e =
      subst (λ v. as_field v ≡ None) (sym is) (no_field q x.parent x.it m part (no_field_there x.position q x.parent x.it e))

  -- what does not ask where the selection is, nor what is inside
  pub standing_fits : (Q : List ℕ → MeantSelection P → Type 0)
      → ((l : List ℕ) (p : _) (d : _) (h : _) (s t : MeantSet P) → Q l (MeantField p d h s) → Q l (MeantField p d h t))
      → ((l : List ℕ) (p : _) (c : _) (ds : _) (s t : MeantSet P) → Q l (MeantInline p c ds s) → Q l (MeantInline p c ds t))
      → (x z : Standing P) → Fits x z → Q x.parent x.it → Q z.parent z.it
  standing_fits Q field inline x z (q, (m, (is, part))) h =
      subst (λ (v : Standing P). Q v.parent v.it) (sym is) (same_head (Q x.parent) (field x.parent) (inline x.parent) x.it m part h)

  -- ---- in documents

  module _ (d e : MeantDocument P) (part : IsPartOf d e) where
    pub into_field : (x y z : Standing P) → Fits x z → InField d x y → (w : Standing P) × (InField e z w × Fits y w)
    into_field x y z fits h = field_fits x y z fits h

    pub into_fragment : (x y z : Standing P) → Fits x z → InFragmentOf d x y → (w : Standing P) × (InFragmentOf e z w × Fits y w)
    into_fragment x y z fits (inl h) = let p = inline_fits x y z fits h in (p.0, (inl p.1.0, p.1.1))
    into_fragment x y z fits (inr (n, (is, (f, (named, c))))) =
        let g = part.fragments n f named in
        let w = in_set (InFragment f.name.it) (InFragment f.name.it) f.set g.1.1.0 g.1.1.1.1 y c in
        (w.0, (inr (n, (spread_fits x z n fits is, (record f { set = g.1.1.0 }, (subst (λ v. fragment_named e n ≡ Some v) g.1.1.1.0 g.1.0, w.1.0)))), w.1.1))

    pub leads_into : (x y z : Standing P) → Fits x z → LeadsInto d x y → (w : Standing P) × (LeadsInto e z w × Fits y w)
    leads_into x y z fits (inl h) = let p = into_field x y z fits h in (p.0, (inl p.1.0, p.1.1))
    leads_into x y z fits (inr h) = let p = into_fragment x y z fits h in (p.0, (inr p.1.0, p.1.1))

    -- of an operation, which selects what it did and more
    module _ (o : MeantOperation P) (t : MeantSet P) (more : IsPartOfSet o.set t) where
      abbrev wider : MeantOperation P
      wider = record o { set = t }

      pub own_fits : (x : Standing P) → Contains (own o) x → (y : Standing P) × (Contains (own wider) y × Fits x y)
      own_fits x c = in_set (InOperation (operation_name o)) (InOperation (operation_name o)) o.set t more x c

      pub reached_fits : (x : Standing P) → Reached d o x → (y : Standing P) × (Reached e wider y × Fits x y)
      reached_fits x r = closed_fits Fits own_fits leads_into x r

      pub root_fits : (x : Standing P) → AtRoot d o x → (y : Standing P) × (AtRoot e wider y × Fits x y)
      root_fits x r = closed_fits Fits own_fits into_fragment x r

      -- of what is reached
      pub at_reached : (Q R : Standing P → Type 0) → ((x z : Standing P) → Fits x z → Q x → R z) → AtReached d o Q → AtReached e wider R
      at_reached Q R on (x, (r, q)) = let p = reached_fits x r in (p.0, (p.1.0, on x p.0 p.1.1 q))

      pub at_reached_field : (Q : StandingField P → Type 0) → ((f : StandingField P) (q : Position) (u : MeantSet P) → Q f → Q (record f { position = q; set = u }))
          → AtReachedField d o Q → AtReachedField e wider Q
      at_reached_field Q on h = at_reached (λ x. Present (as_field x) Q) (λ x. Present (as_field x) Q)
          (λ x z fits (f, (is, q)). let p = as_field_fits x z fits f is in (_, (p.1.1, on f p.0 p.1.0 q))) h

      pub reaches : (f : MeantFragment P) → ReachesFragment d o f → (u : MeantSet P) × ReachesFragment e wider (record f { set = u })
      reaches f (x, (r, (n, (is, named)))) =
          let p = reached_fits x r in
          let g = part.fragments n f named in
          (g.1.1.0, (p.0, (p.1.0, (n, (spread_fits x p.0 n p.1.1 is, subst (λ v. fragment_named e n ≡ Some v) g.1.1.1.0 g.1.0)))))

      pub at_reached_fragment : (Q R : MeantFragment P → Type 0) → ((f : MeantFragment P) (u : MeantSet P) → Q f → R (record f { set = u }))
          → AtReachedFragment d o Q → AtReachedFragment e wider R
      at_reached_fragment Q R on (f, (r, q)) = let p = reaches f r in (record f { set = p.0 }, (p.1, on f p.0 q))
