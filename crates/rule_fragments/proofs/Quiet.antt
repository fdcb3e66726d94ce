-- Where fragments replace those of a document, rules on `@defer`, or those on the root of a subscription, break in the same way.
use Rattle.std.proofs.Common.{◌≡◌, ◌⊎◌, ℕ, suc, Bool, true, false, not, List, [], ◌∷◌, map, codes, bytes_eq, Option, None, Some, slice_get, refl, sym, ap, subst, ◌∙◌, inl, inr, true≢false, is_some, Contains}
use Rattle.std.specs.List.{list_any, filter}
use Rattle.std.proofs.lemmas.Option.{same_Some}
use Rattle.std.proofs.lemmas.Slice.Eq.{bytes_eq-Decides}
use Rattle.graphql_names.specs.Placed.{Placed}
use Rattle.tree_directives.specs.DirectiveTree.{DirectiveTree, Directives}
use Rattle.rule_cycle_search.proofs.Lists.{not_in_nil, Contains-cons, only, index_found, index_given}
use Rattle.fault_document_errors.specs.DocumentBreaches.{SubscriptionUsesConditionalSelection, DeferOnRootMutationOrSubscriptionField, DeferInSubscriptionMustBeConditional}
use Rattle.rule_definitions.specs.Words.{AtSomeIndex, Present}
use Rattle.rule_definitions.specs.Names.{directive_name}
use Rattle.spec_document.specs.MeantTree.{MeantSelection, MeantField, MeantSpread, MeantInline, MeantSet, meant_set, MeantSelections, no_meant, meant_then, MeantOperation, MeantFragment, MeantDocument}
use Rattle.rule_document_definitions.specs.DocumentFaults.{Broken, broken}
use Rattle.rule_document_definitions.specs.Selected.{Position, InFragment, Standing, StandingField, stand, standing_in, field_there, in_inline, spread_name, selection_directives, fragment_named, field_name, own, held, operation_name}
use Rattle.rule_document_definitions.specs.Reached.{Closed, first, next, InField, InFragmentOf, LeadsInto, AtRoot}
use Rattle.rule_document_definitions.specs.RootFields.{meta_field_names}
use Rattle.rule_document_definitions.specs.Subscriptions.{SubscriptionUsesIntrospectionAt, SubscriptionUsesConditionalSelectionAt}
use Rattle.rule_document_definitions.specs.DeferUses.{MayBeLeftOut, ReachedAlways, IsConditional}
use Rattle.rule_document_definitions.specs.Defer.{DeferBreaks}
use Rattle.rule_selection_queries.specs.Stays.{is_directive}
use Rattle.rule_fragments.specs.Thinned.{listed, set_listed, has_noted, is_quiet, are_quiet, all_quiet, MayReplace}
use Rattle.rule_selection_queries.proofs.Staying.{and_both, or_left, or_right, not_true, index_any, so_named}
use Rattle.rule_fragments.proofs.Listing.{filtered}
use Rattle.rule_selection_queries.proofs.Mapped.{mapped_in, in_mapped}

pub name_back : (n : List ℕ) (names : List (List ℕ)) → Contains names n → list_any (bytes_eq n) names ≡ true
name_back n [] c = not_in_nil n c
name_back n (m ∷ names) c = elim (Contains-cons m names n c) [
  | inl e ↦ or_left (bytes_eq n m) (list_any (bytes_eq n) names) ((bytes_eq-Decides n m).1 (sym e))
  | inr r ↦ or_right (bytes_eq n m) (list_any (bytes_eq n) names) (name_back n names r)
]

-- ---- least sets

module _ {X : Type 0} (Same : X → X → Type 0) (Quiet : X → Type 0) {First : X → Type 0} {Next : X → X → Type 0} {Start : X → Type 0} {Step : X → X → Type 0} where
  closed_or : ((x : X) → First x → (y : X) × (Start y × Same x y)) → ((x y z : X) → Same x z → Next x y → ((w : X) × (Step z w × Same y w)) ⊎ Quiet y) → ((x y : X) → Quiet x → Next x y → Quiet y)
      → (x : X) → Closed First Next x → ((y : X) × (Closed Start Step y × Same x y)) ⊎ Quiet x
  closed_or s t q x (first h) = let p = s x h in inl (p.0, (first p.1.0, p.1.1))
  closed_or s t q y (next {x = w} r l) = elim (closed_or s t q w r) [
    | inl p ↦ elim (t w y p.0 p.1.1 l) [
      | inl v ↦ inl (v.0, (next p.1.0 v.1.0, v.1.1))
      | inr k ↦ inr k
    ]
    | inr k ↦ inr (q w y k l)
  ]

module _ {P : Type 0} where
  -- ---- selections of sets

  abbrev Alike : Standing P → Standing P → Type 0
  Alike x y = x.it ≡ y.it

  stand_its : (h : Position) (t : List ℕ) (i : ℕ) (ss : MeantSelections P) → map (λ x. x.it) (stand h t i ss) ≡ listed ss
  stand_its h t i no_meant = refl
  stand_its h t i (meant_then s ss) = ap (λ l. s ∷ l) (stand_its h t (suc i) ss)

  its : (h : Position) (s : MeantSet P) → map (λ x. x.it) (standing_in h s) ≡ set_listed s
  its h (meant_set t ss) = stand_its h t 0 ss

  there : (h : Position) (s : MeantSet P) (x : Standing P) → Contains (standing_in h s) x → Contains (set_listed s) x.it
  there h s x c = subst (λ l. Contains l x.it) (its h s) (in_mapped (λ (x : Standing P). x.it) (standing_in h s) x c)

  stands : (h : Position) (s : MeantSet P) (x : Standing P) → Contains (set_listed s) x.it → (y : Standing P) × (Contains (standing_in h s) y × Alike x y)
  stands h s x c =
      let y = mapped_in (λ (x : Standing P). x.it) (standing_in h s) x.it (subst (λ l. Contains l x.it) (sym (its h s)) c) in
      (y.0, (y.1.0, sym y.1.1))

  -- ---- what a selection leads to, wherever it stands

  moved : (p q : Position) (t u : List ℕ) (s : MeantSelection P) (f : StandingField P) → field_there p t s ≡ Some f → field_there q u s ≡ Some (record f { position = q; parent = u })
  moved p q t u (MeantField a d h s) f e =
      let here : StandingField P = record { position = p; parent = t; place = a; definition = d; head = h; set = s } in
      ap (λ (g : StandingField P). Some (record g { position = q; parent = u })) (same_Some here f e)
  moved p q t u (MeantSpread a n ds) f e = absurd (true≢false (sym (ap is_some e)))
  moved p q t u (MeantInline a c ds s) f e = absurd (true≢false (sym (ap is_some e)))

  no_field : (p q : Position) (t u : List ℕ) (s : MeantSelection P) → field_there p t s ≡ None → field_there q u s ≡ None
  no_field p q t u (MeantField a d h s) e = absurd (true≢false (ap is_some e))
  no_field p q t u (MeantSpread a n ds) e = refl
  no_field p q t u (MeantInline a c ds s) e = refl

  field_leads : (p q : Position) (t u : List ℕ) (s : MeantSelection P) (y : Standing P) → Present (field_there p t s) (λ f. Contains (standing_in f.position f.set) y)
      → (z : Standing P) × (Present (field_there q u s) (λ f. Contains (standing_in f.position f.set) z) × Alike y z)
  field_leads p q t u s y (f, (e, c)) =
      let z = stands q f.set y (there f.position f.set y c) in
      (z.0, ((record f { position = q; parent = u }, (moved p q t u s f e, z.1.0)), z.1.1))

  inline_leads : (p q : Position) (s : MeantSelection P) (y : Standing P) → Contains (in_inline p s) y → (z : Standing P) × (Contains (in_inline q s) z × Alike y z)
  inline_leads p q (MeantField a d h s) y c = not_in_nil y c
  inline_leads p q (MeantSpread a n ds) y c = not_in_nil y c
  inline_leads p q (MeantInline a k ds s) y c = stands q s y (there p s y c)

  -- of a selection that is the same
  abbrev Into : MeantDocument P → MeantSelection P → Standing P → Type 0
  Into d s y = Present (spread_name s) (λ n. Present (fragment_named d n) (λ f. Contains (held f) y))

  module _ (deferred : Bool) where
    abbrev Quiet : Standing P → Type 0
    Quiet x = is_quiet deferred x.it ≡ true

    -- ---- what is quiet leads to what is quiet

    all_so : (ss : MeantSelections P) (s : MeantSelection P) → all_quiet deferred ss ≡ true → Contains (listed ss) s → is_quiet deferred s ≡ true
    all_so no_meant s q c = not_in_nil s c
    all_so (meant_then x ss) s q c =
        let both = and_both (is_quiet deferred x) (all_quiet deferred ss) q in
        elim (Contains-cons x (listed ss) s c) [
          | inl e ↦ subst (λ z. is_quiet deferred z ≡ true) e both.0
          | inr r ↦ all_so ss s both.1 r
        ]

    set_so : (h : Position) (s : MeantSet P) (y : Standing P) → are_quiet deferred s ≡ true → Contains (standing_in h s) y → Quiet y
    set_so h (meant_set t ss) y q c = all_so ss y.it q (there h (meant_set t ss) y c)

    inline_so : (p : Position) (s : MeantSelection P) (y : Standing P) → is_quiet deferred s ≡ true → Contains (in_inline p s) y → Quiet y
    inline_so p (MeantField a d h s) y q c = not_in_nil y c
    inline_so p (MeantSpread a n ds) y q c = not_in_nil y c
    inline_so p (MeantInline a k ds s) y q c = set_so p s y (and_both (not (has_noted deferred ds)) (are_quiet deferred s) q).1 c

    into_so : (d : MeantDocument P) (s : MeantSelection P) (y : Standing P) → is_quiet deferred s ≡ true → Into d s y → Quiet y
    into_so d (MeantField a x h s) y q (n, (e, i)) = absurd (true≢false (sym (ap is_some e)))
    into_so d (MeantSpread a n ds) y q i = absurd (true≢false (sym q))
    into_so d (MeantInline a k ds s) y q (n, (e, i)) = absurd (true≢false (sym (ap is_some e)))

    fragment_so : (d : MeantDocument P) (x y : Standing P) → Quiet x → InFragmentOf d x y → Quiet y
    fragment_so d x y q (inl c) = inline_so x.position x.it y q c
    fragment_so d x y q (inr i) = into_so d x.it y q i

    -- it has no directive at which rules look
    bare : (s : MeantSelection P) → is_quiet deferred s ≡ true → has_noted deferred (selection_directives s) ≡ false
    bare (MeantField p d h s) q = not_true _ (and_both (not (has_noted deferred h.directives)) _ q).0
    bare (MeantSpread p n ds) q = absurd (true≢false (sym q))
    bare (MeantInline p c ds s) q = not_true _ (and_both (not (has_noted deferred ds)) _ q).0

    noted : {R : Type 0} (s : MeantSelection P) → is_quiet deferred s ≡ true → has_noted deferred (selection_directives s) ≡ true → R
    noted s q n = absurd (true≢false (sym n ∙ bare s q))

    -- ---- with fragments that replace others

    module _ (d w : MeantDocument P) (in' : MayReplace deferred d.fragments w.fragments) where
      less : (s : MeantSelection P) (y : Standing P) → Into d s y → ((z : Standing P) × (Into w s z × Alike y z)) ⊎ Quiet y
      less s y (n, (e, (f, (named, c)))) =
          let g = in'.there n f named in
          elim (g.1.1.1 y.it (there (InFragment f.name.it) f.set y c)) [
            | inl l ↦ let z = stands (InFragment g.0.name.it) g.0.set y l in inl (z.0, ((n, (e, (g.0, (g.1.0, z.1.0)))), z.1.1))
            | inr q ↦ inr q
          ]

      more : (s : MeantSelection P) (y : Standing P) → Into w s y → (z : Standing P) × (Into d s z × Alike y z)
      more s y (n, (e, (g, (named, c)))) = by (fragment_named d n) refl
        where
          by : (o : Option (MeantFragment P)) → fragment_named d n ≡ o → (z : Standing P) × (Into d s z × Alike y z)
          by None is = absurd (true≢false (sym (ap is_some (sym (in'.absent n is) ∙ named))))
          by (Some f) is =
              let h = in'.there n f is in
              let same : h.0 ≡ g = same_Some h.0 g (sym h.1.0 ∙ named) in
              let l = h.1.1.0 y.it (subst (λ (k : MeantFragment P). Contains (set_listed k.set) y.it) (sym same) (there (InFragment g.name.it) g.set y c)) in
              let z = stands (InFragment f.name.it) f.set y l in
              (z.0, ((n, (e, (f, (is, z.1.0)))), z.1.1))

      -- a step at the root
      less_fragment : (x y z : Standing P) → Alike x z → InFragmentOf d x y → ((v : Standing P) × (InFragmentOf w z v × Alike y v)) ⊎ Quiet y
      less_fragment x y z same (inl c) =
          let v = inline_leads x.position z.position x.it y c in
          inl (v.0, (inl (subst (λ s. Contains (in_inline z.position s) v.0) same v.1.0), v.1.1))
      less_fragment x y z same (inr i) = elim (less x.it y i) [
        | inl v ↦ inl (v.0, (inr (subst (λ s. Into w s v.0) same v.1.0), v.1.1))
        | inr q ↦ inr q
      ]

      more_fragment : (x y z : Standing P) → Alike x z → InFragmentOf w x y → ((v : Standing P) × (InFragmentOf d z v × Alike y v)) ⊎ ⊥
      more_fragment x y z same (inl c) =
          let v = inline_leads x.position z.position x.it y c in
          inl (v.0, (inl (subst (λ s. Contains (in_inline z.position s) v.0) same v.1.0), v.1.1))
      more_fragment x y z same (inr i) =
          let v = more x.it y i in
          inl (v.0, (inr (subst (λ s. Into d s v.0) same v.1.0), v.1.1))

      into_field : (x y z : Standing P) → Alike x z → InField d x y → (v : Standing P) × (InField w z v × Alike y v)
      into_field x y z same i =
          let v = field_leads x.position z.position x.parent z.parent x.it y i in
          (v.0, (subst (λ s. Present (field_there z.position z.parent s) (λ f. Contains (standing_in f.position f.set) v.0)) same v.1.0, v.1.1))

      -- ---- at the root of an operation

      module _ (o : MeantOperation P) where
        pub root_less : (x : Standing P) → AtRoot d o x → ((z : Standing P) × (AtRoot w o z × Alike x z)) ⊎ Quiet x
        root_less = closed_or Alike Quiet (λ x c. (x, (c, refl))) less_fragment (fragment_so d)

        pub root_more : (x : Standing P) → AtRoot w o x → (z : Standing P) × (AtRoot d o z × Alike x z)
        root_more x r = elim (closed_or Alike (λ x. ⊥) {Start = Contains (own o)} {Step = InFragmentOf d} (λ x c. (x, (c, refl))) more_fragment (λ x y never l. never) x r) [
          | inl z ↦ z
          | inr never ↦ absurd never
        ]

-- ---- on ways on which nothing may be left out

module _ {P : Type 0} where
  abbrev LeftOut : MeantSelection P → Type 0
  LeftOut s = MayBeLeftOut (record { position = InFragment []; parent = []; it = s })

  stays_alike : (x z : Standing P) → Alike x z → (MayBeLeftOut x → ⊥) → MayBeLeftOut z → ⊥
  stays_alike x z same never out = never (subst LeftOut (sym same) out)

  -- rules on `@defer` enter fields
  field_so : (p : Position) (t : List ℕ) (s : MeantSelection P) (y : Standing P) → is_quiet true s ≡ true → Present (field_there p t s) (λ f. Contains (standing_in f.position f.set) y) → Quiet true y
  field_so p t (MeantField a d h s) y q (f, (e, c)) =
      let here : StandingField P = record { position = p; parent = t; place = a; definition = d; head = h; set = s } in
      set_so true p s y (and_both (not (has_noted true h.directives)) (are_quiet true s) q).1
      (subst (λ (g : StandingField P). Contains (standing_in g.position g.set) y) (sym (same_Some here f e)) c)
  field_so p t (MeantSpread a n ds) y q (f, (e, c)) = absurd (true≢false (sym (ap is_some e)))
  field_so p t (MeantInline a k ds s) y q (f, (e, c)) = absurd (true≢false (sym (ap is_some e)))

  leads_so : (d : MeantDocument P) (x y : Standing P) → Quiet true x → LeadsInto d x y → Quiet true y
  leads_so d x y q (inl i) = field_so x.position x.parent x.it y q i
  leads_so d x y q (inr i) = fragment_so true d x y q i

  module _ (d w : MeantDocument P) (in' : MayReplace true d.fragments w.fragments) where
    less_leads : (x y z : Standing P) → Alike x z → LeadsInto d x y × (MayBeLeftOut y → ⊥) → ((v : Standing P) × ((LeadsInto w z v × (MayBeLeftOut v → ⊥)) × Alike y v)) ⊎ Quiet true y
    less_leads x y z same (inl i, k) =
        let v = into_field true d w in' x y z same i in
        inl (v.0, ((inl v.1.0, stays_alike y v.0 v.1.1 k), v.1.1))
    less_leads x y z same (inr i, k) = elim (less_fragment true d w in' x y z same i) [
      | inl v ↦ inl (v.0, ((inr v.1.0, stays_alike y v.0 v.1.1 k), v.1.1))
      | inr q ↦ inr q
    ]

    more_leads : (x y z : Standing P) → Alike x z → LeadsInto w x y × (MayBeLeftOut y → ⊥) → ((v : Standing P) × ((LeadsInto d z v × (MayBeLeftOut v → ⊥)) × Alike y v)) ⊎ ⊥
    more_leads x y z same (inl i, k) =
        let v = into_field true d w in' x y z same i in
        inl (v.0, ((inl v.1.0, stays_alike y v.0 v.1.1 k), v.1.1))
    more_leads x y z same (inr i, k) = elim (more_fragment true d w in' x y z same i) [
      | inl v ↦ inl (v.0, ((inr v.1.0, stays_alike y v.0 v.1.1 k), v.1.1))
      | inr never ↦ absurd never
    ]

    module _ (o : MeantOperation P) where
      abbrev FromOwn : Standing P → Type 0
      FromOwn x = Contains (own o) x × (MayBeLeftOut x → ⊥)

      always_less : (x : Standing P) → ReachedAlways d o x → ((z : Standing P) × (ReachedAlways w o z × Alike x z)) ⊎ Quiet true x
      always_less = closed_or Alike (Quiet true) {Start = FromOwn} {Step = λ x y. LeadsInto w x y × (MayBeLeftOut y → ⊥)} (λ x c. (x, (c, refl))) less_leads (λ x y q l. leads_so d x y q l.0)

      always_more : (x : Standing P) → ReachedAlways w o x → (z : Standing P) × (ReachedAlways d o z × Alike x z)
      always_more x r = elim (closed_or Alike (λ x. ⊥) {Start = FromOwn} {Step = λ x y. LeadsInto d x y × (MayBeLeftOut y → ⊥)} (λ x c. (x, (c, refl))) more_leads (λ x y never l. never) x r) [
        | inl z ↦ z
        | inr never ↦ absurd never
      ]

      -- ---- the rules on `@defer`

      module _ (fault : Broken P) where
        abbrev is_defer : Placed P (DirectiveTree P) → Bool
        is_defer = is_directive (codes "defer")

        -- what is quiet has no `@defer`
        none_deferred : {R : Type 0} (Q : Placed P (DirectiveTree P) → Type 0) (s : MeantSelection P) → is_quiet true s ≡ true → AtSomeIndex (filter is_defer (selection_directives s)) (λ i e. Q e) → R
        none_deferred Q s q (i, (e, (at, h))) =
            let p = filtered is_defer (selection_directives s) e (index_given (filter is_defer (selection_directives s)) i e at) in
            let j = index_found (selection_directives s) e p.0 in
            noted true s q (index_any is_defer (selection_directives s) j.0 e j.1 p.1)

        abbrev AtRootDirective : MeantSelection P → Type 0
        AtRootDirective s = AtSomeIndex (filter is_defer (selection_directives s)) (λ i e. fault ≡ broken e.place (DeferOnRootMutationOrSubscriptionField o.operation_type))

        abbrev AtAlwaysDirective : MeantSelection P → Type 0
        AtAlwaysDirective s = AtSomeIndex (filter is_defer (selection_directives s)) (λ i e. (IsConditional e → ⊥) × (fault ≡ broken e.place DeferInSubscriptionMustBeConditional))

        pub defers_less : DeferBreaks d o fault → DeferBreaks w o fault
        defers_less (inl (other, (x, (r, (none, at))))) = elim (root_less true d w in' o x r) [
          | inl z ↦ inl (other, (z.0, (z.1.0, (subst (λ s. field_there z.0.position z.0.parent s ≡ None) z.1.1 (no_field x.position z.0.position x.parent z.0.parent x.it none), subst AtRootDirective z.1.1 at))))
          | inr q ↦ none_deferred (λ e. fault ≡ broken e.place (DeferOnRootMutationOrSubscriptionField o.operation_type)) x.it q at
        ]
        defers_less (inr (kind, (x, (r, at)))) = elim (always_less x r) [
          | inl z ↦ inr (kind, (z.0, (z.1.0, subst AtAlwaysDirective z.1.1 at)))
          | inr q ↦ none_deferred (λ e. (IsConditional e → ⊥) × (fault ≡ broken e.place DeferInSubscriptionMustBeConditional)) x.it q at
        ]

        pub defers_more : DeferBreaks w o fault → DeferBreaks d o fault
        defers_more (inl (other, (x, (r, (none, at))))) =
            let z = root_more true d w in' o x r in
            inl (other, (z.0, (z.1.0, (subst (λ s. field_there z.0.position z.0.parent s ≡ None) z.1.1 (no_field x.position z.0.position x.parent z.0.parent x.it none), subst AtRootDirective z.1.1 at))))
        defers_more (inr (kind, (x, (r, at)))) =
            let z = always_more x r in
            inr (kind, (z.0, (z.1.0, subst AtAlwaysDirective z.1.1 at)))

-- ---- the rules on the root of a subscription, but that on its count

module _ {P : Type 0} (d w : MeantDocument P) (in' : MayReplace false d.fragments w.fragments) (o : MeantOperation P) (fault : Broken P) where
  abbrev told_condition : Placed P (DirectiveTree P) → Type 0
  told_condition e = Contains (codes "skip" ∷ codes "include" ∷ []) (directive_name e) × (fault ≡ broken e.place (SubscriptionUsesConditionalSelection (operation_name o)))

  condition_noted : (ds : Directives P) (i : ℕ) (e : Placed P (DirectiveTree P)) → slice_get ds i ≡ Some e → Contains (codes "skip" ∷ codes "include" ∷ []) (directive_name e) → has_noted false ds ≡ true
  condition_noted ds i e at c = elim (Contains-cons (codes "skip") (codes "include" ∷ []) (directive_name e) c) [
    | inl a ↦ or_left (list_any (is_directive (codes "skip")) ds) (list_any (is_directive (codes "include")) ds) (index_any (is_directive (codes "skip")) ds i e at (so_named (codes "skip") e (sym a)))
    | inr b ↦ or_right (list_any (is_directive (codes "skip")) ds) (list_any (is_directive (codes "include")) ds) (index_any (is_directive (codes "include")) ds i e at (so_named (codes "include") e (only (codes "include") (directive_name e) b)))
  ]

  -- what is quiet is no meta-field
  no_meta : {R : Type 0} (p : Position) (t : List ℕ) (s : MeantSelection P) (f : StandingField P) → is_quiet false s ≡ true → field_there p t s ≡ Some f → Contains meta_field_names (field_name f) → R
  no_meta p t (MeantField a x h s) f q e m =
      let here : StandingField P = record { position = p; parent = t; place = a; definition = x; head = h; set = s } in
      let none = not_true (list_any (bytes_eq h.name.it) meta_field_names) (and_both (not (has_noted false h.directives)) _ q).1 in
      let some = name_back h.name.it meta_field_names (subst (λ (g : StandingField P). Contains meta_field_names (field_name g)) (sym (same_Some here f e)) m) in
      absurd (true≢false (sym some ∙ none))
  no_meta p t (MeantSpread a n ds) f q e m = absurd (true≢false (sym (ap is_some e)))
  no_meta p t (MeantInline a k ds s) f q e m = absurd (true≢false (sym (ap is_some e)))

  abbrev BreakThere : MeantDocument P → Type 0
  BreakThere v = SubscriptionUsesIntrospectionAt v o fault ⊎ SubscriptionUsesConditionalSelectionAt v o fault

  pub roots_less : BreakThere d → BreakThere w
  roots_less (inl (f, ((x, (r, e)), (meta, told)))) = elim (root_less false d w in' o x r) [
    | inl z ↦ inl (
      record f { position = z.0.position; parent = z.0.parent },
      (
        (z.0, (z.1.0, subst (λ s. field_there z.0.position z.0.parent s ≡ Some (record f { position = z.0.position; parent = z.0.parent })) z.1.1 (moved x.position z.0.position x.parent z.0.parent x.it f e))),
        (meta, told),
      ),
    )
    | inr q ↦ no_meta x.position x.parent x.it f q e meta
  ]
  roots_less (inr (x, (r, (i, (e, (at, (c, told))))))) = elim (root_less false d w in' o x r) [
    | inl z ↦ inr (z.0, (z.1.0, subst (λ s. AtSomeIndex (selection_directives s) (λ i e. told_condition e)) z.1.1 (i, (e, (at, (c, told))))))
    | inr q ↦ noted false x.it q (condition_noted (selection_directives x.it) i e at c)
  ]

  pub roots_more : BreakThere w → BreakThere d
  roots_more (inl (f, ((x, (r, e)), (meta, told)))) =
      let z = root_more false d w in' o x r in
      inl (
        record f { position = z.0.position; parent = z.0.parent },
        (
          (z.0, (z.1.0, subst (λ s. field_there z.0.position z.0.parent s ≡ Some (record f { position = z.0.position; parent = z.0.parent })) z.1.1 (moved x.position z.0.position x.parent z.0.parent x.it f e))),
          (meta, told),
        ),
      )
  roots_more (inr (x, (r, at))) =
      let z = root_more false d w in' o x r in
      inr (z.0, (z.1.0, subst (λ s. AtSomeIndex (selection_directives s) (λ i e. told_condition e)) z.1.1 at))
