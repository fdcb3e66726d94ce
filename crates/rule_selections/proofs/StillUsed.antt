-- Where others replace the fragments of a document, operations still use the same variables.
use Rattle.std.proofs.Common.{◌≡◌, ◌⊎◌, ◌∙◌, ℕ, suc, List, refl, sym, ap, subst, inl, inr, Option, None, Some, Contains, true≢false, is_some}
use Rattle.graphql_names.specs.Placed.{Place}
use Rattle.schema_components.specs.Names.{Entries}
use Rattle.schema_components.proofs.Places.{not_in_nil, Contains-cons, Contains-first, Contains-rest}
use Rattle.schema_types.specs.Addresses.{under}
use Rattle.spec_document.specs.MeantTree.{MeantSelection, MeantField, MeantSpread, MeantInline, MeantSet, meant_set, MeantSelections, no_meant, meant_then, MeantOperation, MeantFragment, MeantDocument}
use Rattle.rule_definitions.specs.Words.{Present}
use Rattle.rule_document_definitions.specs.Selected.{Position, SelectionAt, InFragment, Standing, StandingField, spread_name, stand, standing_in, own}
use Rattle.rule_document_definitions.specs.Reached.{first, next, Reached, LeadsInto, AtReached}
use Rattle.rule_document_definitions.specs.UsedVariables.{IsInArguments, IsInDirectives}
use Rattle.rule_reach.specs.Reach.{Member}
use Rattle.rule_selections.specs.Settled.{Terms, UsesWithin, UsesInSet, UsesAlong, MayReplace}
use Rattle.rule_selections.proofs.FieldPlaces.{some_is}
use Rattle.rule_selections.proofs.Elsewhere.{member, at, along, own_members, to_members, of_members, Look, look}
use Rattle.rule_selections.proofs.Leaving.{look_stays}
use Rattle.rule_selections.proofs.Instead.{Other, reached_less, spreads_none}

-- the variable is in a selection itself, wherever the selection is
abbrev pub Stands : List ℕ → Look → Type 0
Stands n l = IsInDirectives n l.directives ⊎ Present l.field (λ f. IsInArguments n f.head.arguments)

module _ (n : List ℕ) where
  stands_within : (t : List ℕ) (x : MeantSelection Place) → Stands n (look (t, x)) → UsesWithin n x
  stands_within t (MeantField p d h v) (inl u) = inl (inl u)
  stands_within t (MeantField p d h v) (inr (f, (is, u))) = inl (inr (subst (λ (f : StandingField Place). IsInArguments n f.head.arguments) (sym (some_is _ f is)) u))
  stands_within t (MeantSpread p m ds) (inl u) = u
  stands_within t (MeantSpread p m ds) (inr (f, (is, u))) = absurd (true≢false (sym (ap is_some is)))
  stands_within t (MeantInline p c ds v) (inl u) = inl u
  stands_within t (MeantInline p c ds v) (inr (f, (is, u))) = absurd (true≢false (sym (ap is_some is)))

  -- what is in a member of a set is in the set
  stands_along : (t : List ℕ) (ss : MeantSelections Place) (e : Member Place) → Contains (along t ss) e → UsesWithin n e.1 → UsesAlong n ss
  stands_along t no_meant e c u = absurd (not_in_nil e c)
  stands_along t (meant_then x xs) e c u = elim (Contains-cons (t, x) (along t xs) e c) [
    | inl same ↦ inl (subst (λ (e : Member Place). UsesWithin n e.1) (sym same) u)
    | inr more ↦ inr (stands_along t xs e more u)
  ]

  is_in_set : (v : MeantSet Place) (e : Member Place) → Contains (own_members v) e → UsesWithin n e.1 → UsesInSet n v
  is_in_set (meant_set t ss) e c u = stands_along t ss e c u

module _ (s : Terms) (d : MeantDocument Place) (instead : Entries (MeantFragment Place)) (in' : MayReplace s d.fragments instead) (o : MeantOperation Place) where
  abbrev Else : MeantDocument Place
  Else = Other s d instead in'

  -- ---- where what is reached stands: in the operation, or in a fragment that is spread with the others too

  -- z is in the fragment that x spreads
  abbrev IsSpread : MeantSelection Place → Standing Place → Type 0
  IsSpread x z = (m : List ℕ) × ((g : MeantFragment Place) × ((spread_name x ≡ Some m) × ((under m d.fragments ≡ Some g) × Contains (own_members g.set) (member z))))

  module _ (p : Position) (t : List ℕ) where
    -- what is the same leads to the same, but for a spread
    same_leads : (q : Position) (x : MeantSelection Place) (z : Standing Place) → LeadsInto d (at p (t, x)) z → ((w : Standing Place) × (LeadsInto Else (at q (t, x)) w × (member w ≡ member z))) ⊎ IsSpread x z
    same_leads q (MeantField pl df h v) z (inl (f, (same, c))) =
        let old : StandingField Place = record { position = p; parent = t; place = pl; definition = df; head = h; set = v } in
        let new : StandingField Place = record { position = q; parent = t; place = pl; definition = df; head = h; set = v } in
        let u = of_members q v (member z) (to_members p v z (subst (λ (f : StandingField Place). Contains (standing_in f.position f.set) z) (sym (some_is old f same)) c)) in
        inl (u.0, (inl (new, (refl, u.1.0)), u.1.1))
    same_leads q (MeantField pl df h v) z (inr (inl c)) = absurd (not_in_nil z c)
    same_leads q (MeantField pl df h v) z (inr (inr (m, (named, rest)))) = absurd (true≢false (sym (ap is_some named)))
    same_leads q (MeantSpread pl k ds) z (inl (f, (same, c))) = absurd (true≢false (sym (ap is_some same)))
    same_leads q (MeantSpread pl k ds) z (inr (inl c)) = absurd (not_in_nil z c)
    same_leads q (MeantSpread pl k ds) z (inr (inr (m, (named, (g, (there, c)))))) = inr (m, (g, (named, (there, to_members (InFragment g.name.it) g.set z c))))
    same_leads q (MeantInline pl k ds v) z (inl (f, (same, c))) = absurd (true≢false (sym (ap is_some same)))
    same_leads q (MeantInline pl k ds v) z (inr (inl c)) = let u = of_members q v (member z) (to_members p v z c) in inl (u.0, (inr (inl u.1.0), u.1.1))
    same_leads q (MeantInline pl k ds v) z (inr (inr (m, (named, rest)))) = absurd (true≢false (sym (ap is_some named)))

    -- where x leads to z, what is in z is in x, or x spreads the fragment that z is in
    stands_above : (n : List ℕ) (x : MeantSelection Place) (z : Standing Place) → LeadsInto d (at p (t, x)) z → (UsesWithin n z.it → UsesWithin n x) ⊎ IsSpread x z
    stands_above n (MeantField pl df h v) z (inl (f, (same, c))) =
        let old : StandingField Place = record { position = p; parent = t; place = pl; definition = df; head = h; set = v } in
        inl (λ u. inr (is_in_set n v (member z) (to_members p v z (subst (λ (f : StandingField Place). Contains (standing_in f.position f.set) z) (sym (some_is old f same)) c)) u))
    stands_above n (MeantField pl df h v) z (inr (inl c)) = absurd (not_in_nil z c)
    stands_above n (MeantField pl df h v) z (inr (inr (m, (named, rest)))) = absurd (true≢false (sym (ap is_some named)))
    stands_above n (MeantSpread pl k ds) z (inl (f, (same, c))) = absurd (true≢false (sym (ap is_some same)))
    stands_above n (MeantSpread pl k ds) z (inr (inl c)) = absurd (not_in_nil z c)
    stands_above n (MeantSpread pl k ds) z (inr (inr (m, (named, (g, (there, c)))))) = inr (m, (g, (named, (there, to_members (InFragment g.name.it) g.set z c))))
    stands_above n (MeantInline pl k ds v) z (inl (f, (same, c))) = absurd (true≢false (sym (ap is_some same)))
    stands_above n (MeantInline pl k ds v) z (inr (inl c)) = inl (λ u. inr (is_in_set n v (member z) (to_members p v z c) u))
    stands_above n (MeantInline pl k ds v) z (inr (inr (m, (named, rest)))) = absurd (true≢false (sym (ap is_some named)))

  module _ (n : List ℕ) where
    -- the same selection is reached with the others
    abbrev IsOwn : Standing Place → Type 0
    IsOwn x = (y : Standing Place) × (Reached Else o y × (member y ≡ member x))

    -- a selection reached with the other fragments spreads a fragment that has what is in x
    abbrev IsWithin : Standing Place → Type 0
    IsWithin x = (m : List ℕ) × ((g : MeantFragment Place) × ((under m d.fragments ≡ Some g) × ((y : Standing Place) × (Reached Else o y × ((spread_name y.it ≡ Some m) × (UsesWithin n x.it → UsesInSet n g.set))))))

    found_in : (x : Standing Place) → Reached d o x → IsOwn x ⊎ IsWithin x
    found_in x (first c) = inl (x, (first c, refl))
    found_in z (next {x} r leads) = elim (found_in x r) [
      | inl (y, (reached, same)) ↦ elim (same_leads x.position x.parent y.position x.it z leads) [
        | inl (w, (into, is)) ↦ inl (w, (next reached (subst (λ (e : Member Place). LeadsInto Else (at y.position e) w) (sym same) into), is))
        | inr (m, (g, (named, (there, c)))) ↦ inr (m, (g, (there, (y, (reached, (ap (λ (e : Member Place). spread_name e.1) same ∙ named, λ u. is_in_set n g.set (member z) c u))))))
      ]
      | inr (m, (g, (there, (y, (reached, (named, up)))))) ↦ elim (stands_above x.position x.parent n x.it z leads) [
        | inl above ↦ inr (m, (g, (there, (y, (reached, (named, λ u. up (above u)))))))
        | inr (k, (h, (spread, (is, c)))) ↦ elim (reached_less s d instead in' (own o) x r) [
          | inl w ↦ inr (k, (h, (is, (w.0, (w.1.0, (ap (λ (l : Look). l.spread) (look_stays s (member x) (member w.0) w.1.1) ∙ spread, λ u. is_in_set n h.set (member z) c u))))))
          | inr settled ↦ absurd (true≢false (sym (ap is_some (sym (spreads_none s d instead in' o x (r, settled)) ∙ spread))))
        ]
      ]
    ]

    -- ---- what is in a fragment that is reached is used

    abbrev IsUsed : Type 0
    IsUsed = AtReached Else o (λ x. Stands n (look (member x)))

    mutual
      one_used : (q : Position) (t : List ℕ) (x : MeantSelection Place) → Reached Else o (at q (t, x)) → UsesWithin n x → IsUsed
      one_used q t (MeantField p df h v) r (inl (inl u)) = (at q (t, MeantField p df h v), (r, inl u))
      one_used q t (MeantField p df h v) r (inl (inr u)) = (at q (t, MeantField p df h v), (r, inr (_, (refl, u))))
      one_used q t (MeantField p df h v) r (inr u) =
          let f : StandingField Place = record { position = q; parent = t; place = p; definition = df; head = h; set = v } in
          set_used q v (λ z c. next r (inl (f, (refl, c)))) u
      one_used q t (MeantSpread p m ds) r u = (at q (t, MeantSpread p m ds), (r, inl u))
      one_used q t (MeantInline p c ds v) r (inl u) = (at q (t, MeantInline p c ds v), (r, inl u))
      one_used q t (MeantInline p c ds v) r (inr u) = set_used q v (λ z k. next r (inr (inl k))) u

      set_used : (q : Position) (v : MeantSet Place) → ((z : Standing Place) → Contains (standing_in q v) z → Reached Else o z) → UsesInSet n v → IsUsed
      set_used q (meant_set t ss) reached u = along_used q t 0 ss reached u

      along_used : (q : Position) (t : List ℕ) (i : ℕ) (ss : MeantSelections Place) → ((z : Standing Place) → Contains (stand q t i ss) z → Reached Else o z) → UsesAlong n ss → IsUsed
      along_used q t i no_meant reached u = absurd u
      along_used q t i (meant_then x xs) reached (inl u) = let e = at (SelectionAt q i) (t, x) in one_used (SelectionAt q i) t x (reached e (Contains-first e (stand q t (suc i) xs) e refl)) u
      along_used q t i (meant_then x xs) reached (inr u) = along_used q t (suc i) xs (λ z c. reached z (Contains-rest (at (SelectionAt q i) (t, x)) (stand q t (suc i) xs) z c)) u

    -- what is used is used with the others
    pub still_used : AtReached d o (λ x. Stands n (look (member x))) → IsUsed
    still_used (x, (r, h)) = elim (found_in x r) [
      | inl (y, (reached, same)) ↦ (y, (reached, subst (λ (e : Member Place). Stands n (look e)) (sym same) h))
      | inr (m, (g, (there, (y, (reached, (named, up)))))) ↦
          let i = in'.there m g there in
          set_used (InFragment i.0.name.it) i.0.set (λ z c. next reached (inr (inr (m, (named, (i.0, (i.1.0, c))))))) (i.1.1.1.1 n (up (stands_within n x.parent x.it h)))
    ]
