-- What an operation reaches is one where its position is, if fragments stand under their own names.
use Rattle.std.proofs.Common.{◌≡◌, ℕ, ◌<◌, suc, List, refl, sym, ap, subst, ◌∙◌, inl, inr, Option, None, Some, Contains, is_some, true≢false, arith}
use Rattle.std.proofs.lemmas.Option.{same_Some}
use Rattle.spec_document.specs.MeantTree.{MeantSelection, MeantField, MeantSpread, MeantInline, MeantSet, meant_set, MeantSelections, no_meant, meant_then, MeantOperation, MeantFragment, MeantDocument}
use Rattle.rule_definitions.specs.Words.{Present}
use Rattle.rule_definitions.proofs.Lists.{not_in_nil, Contains-cons}
use Rattle.rule_document_definitions.specs.Selected.{Position, InOperation, InFragment, SelectionAt, Standing, StandingField, stand, standing_in, in_inline, field_there, as_field, fragment_named, operation_name}
use Rattle.rule_document_definitions.specs.Reached.{first, next, LeadsInto, Reached, AtRoot, IsFieldOf}
use Rattle.rule_document_definitions.specs.Named.{FragmentsFoundByName}
use Rattle.rule_document_definitions.proofs.UnplacedFragments.{held_if_named}

-- ---- parts of a position

abbrev holder_of : Position → Position
holder_of (SelectionAt h i) = h
holder_of p = p

abbrev index_of : Position → ℕ
index_of (SelectionAt h i) = i
index_of p = 0

module _ {P : Type 0} where
  -- ---- in one set

  -- the selections that stand there have this holder, and an index that is not below the first
  at_or_after : (h : Position) (t : List ℕ) (i : ℕ) (ss : MeantSelections P) (x : Standing P) → Contains (stand h t i ss) x → (k : ℕ) × ((x.position ≡ SelectionAt h k) × (k < i → ⊥))
  at_or_after h t i no_meant x c = not_in_nil x c
  at_or_after h t i (meant_then s ss) x c = elim (Contains-cons (record { position = SelectionAt h i; parent = t; it = s }) (stand h t (suc i) ss) x c) [
    | inl e ↦ (i, (ap (λ (v : Standing P). v.position) (sym e), λ l. omega (arith, l)))
    | inr r ↦ let p = at_or_after h t (suc i) ss x r in (p.0, (p.1.0, λ l. p.1.1 (omega (arith, l))))
  ]

  -- one that stands later is elsewhere
  not_later : {R : Type 0} (h : Position) (t : List ℕ) (i : ℕ) (ss : MeantSelections P) (x : Standing P) → Contains (stand h t (suc i) ss) x → x.position ≡ SelectionAt h i → R
  not_later h t i ss x c e =
      let p = at_or_after h t (suc i) ss x c in
      let same : p.0 ≡ i = ap index_of (sym p.1.0 ∙ e) in
      absurd (p.1.1 (omega (arith, same)))

  one_stands : (h : Position) (t : List ℕ) (i : ℕ) (ss : MeantSelections P) (x y : Standing P) → Contains (stand h t i ss) x → Contains (stand h t i ss) y → x.position ≡ y.position → x ≡ y
  one_stands h t i no_meant x y c k e = not_in_nil x c
  one_stands h t i (meant_then s ss) x y c k e = elim (Contains-cons (record { position = SelectionAt h i; parent = t; it = s }) (stand h t (suc i) ss) x c) [
    | inl a ↦ elim (Contains-cons (record { position = SelectionAt h i; parent = t; it = s }) (stand h t (suc i) ss) y k) [
      | inl b ↦ sym a ∙ b
      | inr b ↦ not_later h t i ss y b (sym e ∙ ap (λ (v : Standing P). v.position) (sym a))
    ]
    | inr a ↦ elim (Contains-cons (record { position = SelectionAt h i; parent = t; it = s }) (stand h t (suc i) ss) y k) [
      | inl b ↦ not_later h t i ss x a (e ∙ ap (λ (v : Standing P). v.position) (sym b))
      | inr b ↦ one_stands h t (suc i) ss x y a b e
    ]
  ]

  one_in_set : (h : Position) (s : MeantSet P) (x y : Standing P) → Contains (standing_in h s) x → Contains (standing_in h s) y → x.position ≡ y.position → x ≡ y
  one_in_set h (meant_set t ss) x y c k e = one_stands h t 0 ss x y c k e

  held_at : (h : Position) (s : MeantSet P) (x : Standing P) → Contains (standing_in h s) x → (k : ℕ) × (x.position ≡ SelectionAt h k)
  held_at h (meant_set t ss) x c = let p = at_or_after h t 0 ss x c in (p.0, p.1.0)

  -- the set of a field, of an inline fragment
  abbrev set_of : MeantSelection P → Option (MeantSet P)
  set_of (MeantInline p c ds s) = Some s
  set_of (MeantField p d h s) = Some s
  set_of _ = None

  inline_holds : (at : Position) (m : MeantSelection P) (y : Standing P) → Contains (in_inline at m) y → (s : MeantSet P) × ((set_of m ≡ Some s) × Contains (standing_in at s) y)
  inline_holds at (MeantField p d h s) y c = not_in_nil y c
  inline_holds at (MeantSpread p n ds) y c = not_in_nil y c
  inline_holds at (MeantInline p n ds s) y c = (s, (refl, c))

  field_holds : (x : Standing P) (f : StandingField P) → as_field x ≡ Some f → (f.position ≡ x.position) × (set_of x.it ≡ Some f.set)
  field_holds x f e = by x.position x.parent x.it f e
    where
      by : (at : Position) (t : List ℕ) (m : MeantSelection P) (f : StandingField P) → field_there at t m ≡ Some f → (f.position ≡ at) × (set_of m ≡ Some f.set)
      by at t (MeantField p d h s) f e = (ap (λ (v : StandingField P). v.position) (sym (same_Some _ _ e)), ap (λ (v : StandingField P). Some v.set) (same_Some _ _ e))
      by at t (MeantSpread p n ds) f e = absurd (true≢false (sym (ap is_some e)))
      by at t (MeantInline p n ds s) f e = absurd (true≢false (sym (ap is_some e)))

  field_at_position : (at : Position) (t : List ℕ) (m : MeantSelection P) (f : StandingField P) → field_there at t m ≡ Some f → f.position ≡ at
  field_at_position at t (MeantField p d h s) f e = ap (λ (v : StandingField P). v.position) (sym (same_Some _ _ e))
  field_at_position at t (MeantSpread p n ds) f e = absurd (true≢false (sym (ap is_some e)))
  field_at_position at t (MeantInline p n ds s) f e = absurd (true≢false (sym (ap is_some e)))

-- ---- in an operation and what it reaches

module _ {P : Type 0} (d : MeantDocument P) (o : MeantOperation P) where
  -- the set that is at the position
  abbrev HoldsSet : Position → MeantSet P → Type 0
  HoldsSet (InOperation n) s = s ≡ o.set
  HoldsSet (InFragment n) s = Present (fragment_named d n) (λ f. s ≡ f.set)
  HoldsSet (SelectionAt h i) s = (t : MeantSet P) × (HoldsSet h t × ((x : Standing P) × (Contains (standing_in h t) x × ((x.position ≡ SelectionAt h i) × (set_of x.it ≡ Some s)))))

  one_set : (p : Position) (s t : MeantSet P) → HoldsSet p s → HoldsSet p t → s ≡ t
  one_set (InOperation n) s t a b = a ∙ sym b
  one_set (InFragment n) s t (f, (e, a)) (g, (k, b)) = a ∙ ap (λ (v : MeantFragment P). v.set) (same_Some _ _ (sym e ∙ k)) ∙ sym b
  one_set (SelectionAt h i) s t (u, (hu, (x, (c, (e, a))))) (v, (hv, (y, (k, (g, b))))) =
      let same : u ≡ v = one_set h u v hu hv in
      let one : x ≡ y = one_in_set h v x y (subst (λ (w : MeantSet P). Contains (standing_in h w) x) same c) k (e ∙ sym g) in
      same_Some _ _ (sym a ∙ ap (λ (w : Standing P). set_of w.it) one ∙ b)

  -- it is in a set there
  abbrev StandsThere : Standing P → Type 0
  StandsThere x = (h : Position) × ((s : MeantSet P) × (HoldsSet h s × Contains (standing_in h s) x))

  reached_stands : FragmentsFoundByName d → (x : Standing P) → Reached d o x → StandsThere x
  reached_stands named x (first c) = (InOperation (operation_name o), (o.set, (refl, c)))
  reached_stands named y (next {x = x} r l) = further (reached_stands named x r) l
    where
      further : StandsThere x → LeadsInto d x y → StandsThere y
      further (h, (s, (holds, c))) (inl (f, (is, i))) =
          let p = held_at h s x c in
          let t = field_holds x f is in
          (f.position, (f.set, (subst (λ q. HoldsSet q f.set) (sym (t.0 ∙ p.1)) (s, (holds, (x, (c, (p.1, t.1))))), i)))
      further (h, (s, (holds, c))) (inr (inl i)) =
          let p = held_at h s x c in
          let t = inline_holds x.position x.it y i in
          (x.position, (t.0, (subst (λ q. HoldsSet q t.0) (sym p.1) (s, (holds, (x, (c, (p.1, t.1.0))))), t.1.1)))
      further there (inr (inr (n, (e, (f, (k, i)))))) = (InFragment f.name.it, (f.set, ((f, (named f (held_if_named d n f k), refl)), i)))

  -- one that is reached is where its position says
  pub one_at_position : FragmentsFoundByName d → (x y : Standing P) → Reached d o x → Reached d o y → x.position ≡ y.position → x ≡ y
  one_at_position named x y r q e = by (reached_stands named x r) (reached_stands named y q)
    where
      by : StandsThere x → StandsThere y → x ≡ y
      by (h, (s, (holds, c))) (k, (t, (keeps, m))) =
          let a = held_at h s x c in
          let b = held_at k t y m in
          let here : h ≡ k = ap holder_of (sym a.1 ∙ e ∙ b.1) in
          let one : s ≡ t = one_set k s t (subst (λ p. HoldsSet p s) here holds) keeps in
          one_in_set k t x y (subst (λ (w : MeantSet P). Contains (standing_in k w) x) one (subst (λ p. Contains (standing_in p s) x) here c)) m e

  -- and so are fields
  pub one_reached_field : FragmentsFoundByName d → (x y : Standing P) (f g : StandingField P) → Reached d o x → Reached d o y → as_field x ≡ Some f → as_field y ≡ Some g → f.position ≡ g.position → f ≡ g
  one_reached_field named x y f g r q e k same =
      let a = field_at_position x.position x.parent x.it f e in
      let b = field_at_position y.position y.parent y.it g k in
      let one : x ≡ y = one_at_position named x y r q (sym a ∙ same ∙ b) in
      same_Some _ _ (sym e ∙ ap as_field one ∙ k)

  -- ---- at the root

  from_root : (x : Standing P) → AtRoot d o x → Reached d o x
  from_root x (first c) = first c
  from_root y (next {x = x} r l) = next (from_root x r) (inr l)

  pub one_field : FragmentsFoundByName d → (f g : StandingField P) → IsFieldOf d (InOperation (operation_name o)) o.set f → IsFieldOf d (InOperation (operation_name o)) o.set g → f.position ≡ g.position → f ≡ g
  one_field named f g (x, (r, e)) (y, (q, k)) same = one_reached_field named x y f g (from_root x r) (from_root y q) e k same
