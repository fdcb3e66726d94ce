-- Where others replace the fragments of a document, operations reach what is left of the same, but for selections that are settled.
use Rattle.std.proofs.Common.{◌≡◌, ◌↔◌, ◌⊎◌, ◌∙◌, ℕ, true, List, [], refl, sym, ap, subst, inl, inr, Option, None, Some, Contains, true≢false, is_some}
use Rattle.graphql_names.specs.Placed.{Place}
use Rattle.schema_components.specs.Names.{Entries}
use Rattle.schema_components.proofs.Places.{not_in_nil}
use Rattle.schema_types.specs.Plain.{plain}
use Rattle.schema_types.specs.Addresses.{under}
use Rattle.rule_selections.proofs.FieldPlaces.{some_is}
use Rattle.spec_document.specs.MeantTree.{MeantSelection, MeantField, MeantSpread, MeantInline, MeantOperation, MeantFragment, MeantDocument}
use Rattle.document_typing.specs.Meanings.{meanings}
use Rattle.rule_definitions.specs.Words.{Present}
use Rattle.rule_definitions.specs.Judged.{judged}
use Rattle.rule_definitions.specs.GivenValues.{Variables}
use Rattle.rule_definitions.specs.PlacedFaults.{PlacedFault}
use Rattle.rule_definitions.specs.Uses.{GivenBreaks, UsesBreak}
use Rattle.rule_document_definitions.specs.Selected.{Position, InOperation, InFragment, Standing, StandingField, spread_name, inline_condition, selection_location, selection_directives, standing_in, own}
use Rattle.rule_document_definitions.specs.Reached.{Closed, first, next, LeadsInto, AtReached, AtReachedField, AtReachedFragment}
use Rattle.rule_document_definitions.specs.Selections.{field_taker}
use Rattle.rule_document_definitions.specs.PlacedDocumentFaults.{place_or_built_in, places_in}
use Rattle.rule_reach.specs.Reach.{Member, field_of}
use Rattle.rule_selections.specs.SelectionFaults.{MissesSubselection, ArgumentsOfBreak, SelectionBreaks}
use Rattle.rule_selections.specs.Typed.{ReachesTyped}
use Rattle.rule_selections.specs.Settled.{Terms, AreDefinedIn, filler, filled, emptied, EntersOnly, AppliesIn, IsQuiet, IsSettled, Thins, IsReplacementOf, MayReplace}
use Rattle.rule_selections.proofs.Elsewhere.{member, at, to_members, of_members, Look, look, outline, outline_of, bare, placed}
use Rattle.rule_selections.proofs.Leaving.{IsFiller, StaysAs, stays_same, set_left_of, set_stays_in, filled_of, stays_filled, look_stays, stays_typed, filler_typed, settled_quiet, set_settled}
use Rattle.rule_selections.proofs.SameUses.{same_uses}
use Rattle.rule_selections.proofs.CommonVariables.{gives_known, given_well, taken_well, used_well}

-- a member that enters a fragment only so
module _ (R : List ℕ → List ℕ → Type 0) where
  no_name : (e : Member Place) → EntersOnly R e → spread_name e.1 ≡ None
  no_name (t, MeantField p d h v) enters = refl
  no_name (t, MeantSpread p n ds) enters = absurd enters
  no_name (t, MeantInline p c ds v) enters = refl

  its_condition : (e : Member Place) → EntersOnly R e → (c : List ℕ) → inline_condition e.1 ≡ Some c → R e.0 c
  its_condition (t, MeantField p d h v) enters c is = absurd (true≢false (sym (ap is_some is)))
  its_condition (t, MeantSpread p n ds) enters c is = absurd enters
  its_condition (t, MeantInline p None ds v) enters c is = absurd (true≢false (sym (ap is_some is)))
  its_condition (t, MeantInline p (Some k) ds v) enters c is = subst (R t) (some_is k.it c is) enters

module _ (s : Terms) (d : MeantDocument Place) (instead : Entries (MeantFragment Place)) (in' : MayReplace s d.fragments instead) where
  -- the document with the others
  abbrev pub Other : MeantDocument Place
  Other = record { anonymous = d.anonymous; named = d.named; fragments = instead }

  -- what is under a name there replaces what is under it in the document
  pub stood_for : (n : List ℕ) (h : MeantFragment Place) → under n instead ≡ Some h → (g : MeantFragment Place) × ((under n d.fragments ≡ Some g) × IsReplacementOf s h g)
  stood_for n h is = by (under n d.fragments) refl
    where
      by : (o : Option (MeantFragment Place)) → under n d.fragments ≡ o → (g : MeantFragment Place) × ((under n d.fragments ≡ Some g) × IsReplacementOf s h g)
      by None e = absurd (true≢false (sym (ap is_some (sym (in'.absent n e) ∙ is))))
      by (Some g) e =
          let i = in'.there n g e in
          (g, (e, subst (λ x. IsReplacementOf s x g) (some_is i.0 h (sym i.1.0 ∙ is)) i.1.1))

  -- ---- what a selection leads to

  -- in the document x leads to one of which z is left; or z is a filler
  abbrev LeadsMore : Standing Place → Standing Place → Type 0
  LeadsMore x z = ((w : Standing Place) × (LeadsInto d x w × StaysAs s (member w) (member z))) ⊎ IsFiller (member z)

  -- with the others y leads to what is left of z; or z is settled
  abbrev LeadsLess : Standing Place → Standing Place → Type 0
  LeadsLess y z = ((w : Standing Place) × (LeadsInto Other y w × StaysAs s (member z) (member w))) ⊎ IsSettled s z.parent z.it

  module _ (p q : Position) (t : List ℕ) where
    leads_more : (x y : MeantSelection Place) → Thins s x y → (z : Standing Place) → LeadsInto Other (at q (t, y)) z → LeadsMore (at p (t, x)) z
    leads_more (MeantField pl df h v) y (w, (l, is)) z leads = by (subst (λ (y : MeantSelection Place). LeadsInto Other (at q (t, y)) z) is leads)
      where
        by : LeadsInto Other (at q (t, MeantField pl df h (filled v w))) z → LeadsMore (at p (t, MeantField pl df h v)) z
        by (inl (f, (same, c))) =
            let new : StandingField Place = record { position = q; parent = t; place = pl; definition = df; head = h; set = filled v w } in
            let old : StandingField Place = record { position = p; parent = t; place = pl; definition = df; head = h; set = v } in
            elim (filled_of s v w l (member z) (to_members q (filled v w) z (subst (λ (f : StandingField Place). Contains (standing_in f.position f.set) z) (sym (some_is new f same)) c))) [
              | inl r ↦ let u = of_members p v r.0 r.1.0 in inl (u.0, (inl (old, (refl, u.1.0)), subst (λ (e : Member Place). StaysAs s e (member z)) (sym u.1.1) r.1.1))
              | inr k ↦ inr k
            ]
        by (inr (inl c)) = absurd (not_in_nil z c)
        by (inr (inr (m, (named, rest)))) = absurd (true≢false (sym (ap is_some named)))
    leads_more (MeantSpread pl n ds) y is z leads = by (subst (λ (y : MeantSelection Place). LeadsInto Other (at q (t, y)) z) is leads)
      where
        by : LeadsInto Other (at q (t, MeantSpread pl n ds)) z → LeadsMore (at p (t, MeantSpread pl n ds)) z
        by (inl (f, (same, c))) = absurd (true≢false (sym (ap is_some same)))
        by (inr (inl c)) = absurd (not_in_nil z c)
        by (inr (inr (m, (named, (h, (there, c)))))) =
            let g = stood_for m h there in
            let r = set_left_of s g.0.set h.set g.1.1.1.0 (member z) (to_members (InFragment h.name.it) h.set z c) in
            let u = of_members (InFragment g.0.name.it) g.0.set r.0 r.1.0 in
            inl (u.0, (inr (inr (m, (named, (g.0, (g.1.0, u.1.0))))), subst (λ (e : Member Place). StaysAs s e (member z)) (sym u.1.1) r.1.1))
    leads_more (MeantInline pl k ds v) y (w, (l, is)) z leads = by (subst (λ (y : MeantSelection Place). LeadsInto Other (at q (t, y)) z) is leads)
      where
        by : LeadsInto Other (at q (t, MeantInline pl k ds w)) z → LeadsMore (at p (t, MeantInline pl k ds v)) z
        by (inl (f, (same, c))) = absurd (true≢false (sym (ap is_some same)))
        by (inr (inl c)) =
            let r = set_left_of s v w l (member z) (to_members q w z c) in
            let u = of_members p v r.0 r.1.0 in
            inl (u.0, (inr (inl u.1.0), subst (λ (e : Member Place). StaysAs s e (member z)) (sym u.1.1) r.1.1))
        by (inr (inr (m, (named, rest)))) = absurd (true≢false (sym (ap is_some named)))

    leads_less : (x y : MeantSelection Place) → Thins s x y → (z : Standing Place) → LeadsInto d (at p (t, x)) z → LeadsLess (at q (t, y)) z
    leads_less (MeantField pl df h v) y (w, (l, is)) z leads = subst (λ (y : MeantSelection Place). LeadsLess (at q (t, y)) z) (sym is) (by leads)
      where
        by : LeadsInto d (at p (t, MeantField pl df h v)) z → LeadsLess (at q (t, MeantField pl df h (filled v w))) z
        by (inl (f, (same, c))) =
            let new : StandingField Place = record { position = q; parent = t; place = pl; definition = df; head = h; set = filled v w } in
            let old : StandingField Place = record { position = p; parent = t; place = pl; definition = df; head = h; set = v } in
            elim (stays_filled s v w l (member z) (to_members p v z (subst (λ (f : StandingField Place). Contains (standing_in f.position f.set) z) (sym (some_is old f same)) c))) [
              | inl r ↦ let u = of_members q (filled v w) r.0 r.1.0 in inl (u.0, (inl (new, (refl, u.1.0)), subst (StaysAs s (member z)) (sym u.1.1) r.1.1))
              | inr k ↦ inr k
            ]
        by (inr (inl c)) = absurd (not_in_nil z c)
        by (inr (inr (m, (named, rest)))) = absurd (true≢false (sym (ap is_some named)))
    leads_less (MeantSpread pl n ds) y is z leads = subst (λ (y : MeantSelection Place). LeadsLess (at q (t, y)) z) (sym is) (by leads)
      where
        by : LeadsInto d (at p (t, MeantSpread pl n ds)) z → LeadsLess (at q (t, MeantSpread pl n ds)) z
        by (inl (f, (same, c))) = absurd (true≢false (sym (ap is_some same)))
        by (inr (inl c)) = absurd (not_in_nil z c)
        by (inr (inr (m, (named, (g, (there, c)))))) =
            let i = in'.there m g there in
            elim (set_stays_in s g.set i.0.set i.1.1.1.0 (member z) (to_members (InFragment g.name.it) g.set z c)) [
              | inl r ↦ let u = of_members (InFragment i.0.name.it) i.0.set r.0 r.1.0 in inl (u.0, (inr (inr (m, (named, (i.0, (i.1.0, u.1.0))))), subst (StaysAs s (member z)) (sym u.1.1) r.1.1))
              | inr k ↦ inr k
            ]
    leads_less (MeantInline pl k ds v) y (w, (l, is)) z leads = subst (λ (y : MeantSelection Place). LeadsLess (at q (t, y)) z) (sym is) (by leads)
      where
        by : LeadsInto d (at p (t, MeantInline pl k ds v)) z → LeadsLess (at q (t, MeantInline pl k ds w)) z
        by (inl (f, (same, c))) = absurd (true≢false (sym (ap is_some same)))
        by (inr (inl c)) =
            elim (set_stays_in s v w l (member z) (to_members p v z c)) [
              | inl r ↦ let u = of_members q w r.0 r.1.0 in inl (u.0, (inr (inl u.1.0), subst (StaysAs s (member z)) (sym u.1.1) r.1.1))
              | inr k ↦ inr k
            ]
        by (inr (inr (m, (named, rest)))) = absurd (true≢false (sym (ap is_some named)))

    -- what is settled leads to what is settled
    settled_leads : (x : MeantSelection Place) → IsSettled s t x → (z : Standing Place) → LeadsInto d (at p (t, x)) z → IsSettled s z.parent z.it
    settled_leads (MeantField pl df h v) k z (inl (f, (same, c))) =
        let old : StandingField Place = record { position = p; parent = t; place = pl; definition = df; head = h; set = v } in
        set_settled s v k.1 (member z) (to_members p v z (subst (λ (f : StandingField Place). Contains (standing_in f.position f.set) z) (sym (some_is old f same)) c))
    settled_leads (MeantField pl df h v) k z (inr (inl c)) = absurd (not_in_nil z c)
    settled_leads (MeantField pl df h v) k z (inr (inr (m, (named, rest)))) = absurd (true≢false (sym (ap is_some named)))
    settled_leads (MeantSpread pl n ds) k z leads = absurd k.enters
    settled_leads (MeantInline pl c ds v) k z (inl (f, (same, h))) = absurd (true≢false (sym (ap is_some same)))
    settled_leads (MeantInline pl c ds v) k z (inr (inl h)) = set_settled s v k.1 (member z) (to_members p v z h)
    settled_leads (MeantInline pl c ds v) k z (inr (inr (m, (named, rest)))) = absurd (true≢false (sym (ap is_some named)))

    -- a filler leads to nothing
    filler_leads : (z : Standing Place) → LeadsInto Other (at q (t, filler t)) z → ⊥
    filler_leads z (inl (f, (same, c))) = true≢false (sym (ap is_some same))
    filler_leads z (inr (inl c)) = not_in_nil z c
    filler_leads z (inr (inr (m, (named, rest)))) = true≢false (sym (ap is_some named))

  more_from : (x y z : Standing Place) → StaysAs s (member x) (member y) → LeadsInto Other y z → LeadsMore x z
  more_from x y z st leads = leads_more x.position y.position x.parent x.it y.it st.1 z (subst (λ (t : List ℕ). LeadsInto Other (at y.position (t, y.it)) z) st.0 leads)

  less_from : (x y z : Standing Place) → StaysAs s (member x) (member y) → LeadsInto d x z → LeadsLess y z
  less_from x y z st leads = subst (λ (t : List ℕ). LeadsLess (at y.position (t, y.it)) z) (sym st.0) (leads_less x.position y.position x.parent x.it y.it st.1 z leads)

  none_from : (y z : Standing Place) → IsFiller (member y) → LeadsInto Other y z → ⊥
  none_from y z (t, is) leads = filler_leads y.position y.position t z (subst (λ (e : Member Place). LeadsInto Other (at y.position e) z) (sym is) leads)

  -- ---- what is reached

  module _ (start : List (Standing Place)) where
    -- one is reached of which this is left; with the others, what is left of this is reached
    abbrev pub MeetsMore : Standing Place → Type 0
    MeetsMore y = (x : Standing Place) × (Closed (Contains start) (LeadsInto d) x × StaysAs s (member x) (member y))

    abbrev pub MeetsLess : Standing Place → Type 0
    MeetsLess x = (y : Standing Place) × (Closed (Contains start) (LeadsInto Other) y × StaysAs s (member x) (member y))

    -- what is reached with the others is left of what is reached, or a filler
    pub reached_more : (y : Standing Place) → Closed (Contains start) (LeadsInto Other) y → MeetsMore y ⊎ IsFiller (member y)
    reached_more y (first c) = inl (y, (first c, stays_same s (member y)))
    reached_more z (next {x} r leads) = elim (reached_more x r) [
      | inl m ↦ elim (more_from m.0 x z m.1.1 leads) [
        | inl w ↦ inl (w.0, (next m.1.0 w.1.0, w.1.1))
        | inr k ↦ inr k
      ]
      | inr k ↦ absurd (none_from x z k leads)
    ]

    -- it is reached, and settled: so it may be left out
    abbrev pub IsLeftOut : Standing Place → Type 0
    IsLeftOut x = Closed (Contains start) (LeadsInto d) x × IsSettled s x.parent x.it

    -- of what is reached something is left that is reached with the others, or it is settled
    pub reached_less : (x : Standing Place) → Closed (Contains start) (LeadsInto d) x → MeetsLess x ⊎ IsSettled s x.parent x.it
    reached_less x (first c) = inl (x, (first c, stays_same s (member x)))
    reached_less z (next {x} r leads) = elim (reached_less x r) [
      | inl m ↦ elim (less_from x m.0 z m.1.1 leads) [
        | inl w ↦ inl (w.0, (next m.1.0 w.1.0, w.1.1))
        | inr k ↦ inr k
      ]
      | inr k ↦ inr (settled_leads x.position x.position x.parent x.it k z leads)
    ]

  -- ---- what is told of what is left out

  module _ (o : MeantOperation Place) where
    quiet : (x : Standing Place) → IsLeftOut (own o) x → IsQuiet s (member x)
    quiet x l = settled_quiet s x.parent x.it l.1

    pub spreads_none : (x : Standing Place) → IsLeftOut (own o) x → spread_name x.it ≡ None
    spreads_none x l = no_name (AppliesIn s.schema) (member x) (quiet x l).enters

    pub condition_applies : (x : Standing Place) → IsLeftOut (own o) x → (c : List ℕ) → inline_condition x.it ≡ Some c → AppliesIn s.schema x.parent c
    condition_applies x l = its_condition (AppliesIn s.schema) (member x) (quiet x l).enters

    module _ (typed : ReachesTyped (meanings (plain s.schema)) d o) where
      -- what is reached with the others is typed too
      pub reaches_typed : ReachesTyped (meanings (plain s.schema)) Other o
      reaches_typed y r = elim (reached_more (own o) y r) [
        | inl m ↦ stays_typed s (meanings (plain s.schema)) (member m.0) (member y) m.1.1 (typed m.0 m.1.0)
        | inr k ↦ filler_typed s (meanings (plain s.schema)) (member y) k
      ]

      keeps : (x : Standing Place) → IsLeftOut (own o) x → (f : PlacedFault) → SelectionBreaks s.schema s.variables (member x) f → ⊥
      keeps x l f h = (quiet x l).keeps (typed x l.0) f h

      given : (x : Standing Place) → IsLeftOut (own o) x → (t : StandingField Place) → field_of (member x) ≡ Some t → (f : PlacedFault) → GivenBreaks (place_or_built_in s.schema) (judged s.schema) s.variables t.head.arguments f → ⊥
      given x l t is f h = keeps x l f (inr (t, (is, inr (inl h))))

      used : (x : Standing Place) → IsLeftOut (own o) x → (f : PlacedFault) → UsesBreak (place_or_built_in s.schema) (judged s.schema) s.variables (selection_location x.it) (selection_directives x.it) f → ⊥
      used x l f h = keeps x l f (inl (subst (λ X. X) (same_uses s.schema s.variables (selection_location x.it) (selection_directives x.it) f) h))

      pub misses_none : (x : Standing Place) → IsLeftOut (own o) x → (f : PlacedFault) → Present (field_of (member x)) (λ t. MissesSubselection s.schema t f) → ⊥
      misses_none x l f (t, (is, h)) = keeps x l f (inr (t, (is, inl h)))

      -- with the variables of an operation that defines these so
      module _ (variables : Variables Place) (defined : AreDefinedIn s.variables variables) where
        pub takes_well : (x : Standing Place) → IsLeftOut (own o) x → (f : PlacedFault) → Present (field_of (member x)) (λ t. ArgumentsOfBreak s.schema variables t f) → ⊥
        takes_well x l f (t, (is, inl h)) = given_well s.variables variables defined (place_or_built_in s.schema) (judged s.schema) t.head.arguments (given x l t is) f h
        takes_well x l f (t, (is, inr h)) =
            taken_well s.variables variables defined (place_or_built_in s.schema) (judged s.schema) (field_taker (places_in s.schema) t)
            (gives_known s.variables variables defined (place_or_built_in s.schema) (judged s.schema) t.head.arguments (given x l t is))
            (λ g u. keeps x l g (inr (t, (is, inr (inr u))))) f h

        pub uses_well : (x : Standing Place) → IsLeftOut (own o) x → (f : PlacedFault) → UsesBreak (place_or_built_in s.schema) (judged s.schema) variables (selection_location x.it) (selection_directives x.it) f → ⊥
        uses_well x l f h = used_well s.variables variables defined (place_or_built_in s.schema) (judged s.schema) (selection_location x.it) (selection_directives x.it) (used x l) f h

    -- ---- what is said of all that is reached

    -- that is said of no filler
    abbrev pub FillsUnsaid : (Look → Type 0) → Type 0
    FillsUnsaid R = (t : List ℕ) → R (look (t, filler t)) → ⊥

    pub at_more : (R : Look → Type 0) → FillsUnsaid R → AtReached Other o (λ x. R (look (member x))) → AtReached d o (λ x. R (look (member x)))
    at_more R fills (y, (r, h)) = elim (reached_more (own o) y r) [
      | inl m ↦ (m.0, (m.1.0, subst R (look_stays s (member m.0) (member y) m.1.1) h))
      | inr k ↦ absurd (fills k.0 (subst (λ (e : Member Place). R (look e)) (sym k.1) h))
    ]

    pub at_all : (R : Look → Type 0) → FillsUnsaid R → ((x : Standing Place) → IsLeftOut (own o) x → R (look (member x)) → ⊥) → AtReached Other o (λ x. R (look (member x))) ↔ AtReached d o (λ x. R (look (member x)))
    at_all R fills never = (at_more R fills, here)
      where
        here : AtReached d o (λ x. R (look (member x))) → AtReached Other o (λ x. R (look (member x)))
        here (x, (r, h)) = elim (reached_less (own o) x r) [
          | inl m ↦ (m.0, (m.1.0, subst R (sym (look_stays s (member x) (member m.0) m.1.1)) h))
          | inr k ↦ absurd (never x (r, k) h)
        ]

    pub at_all_fields : (Q : StandingField Place → Type 0) → ((f : StandingField Place) → Q f ≡ Q (outline f)) → ((x : Standing Place) → IsLeftOut (own o) x → Present (field_of (member x)) Q → ⊥)
        → AtReachedField Other o Q ↔ AtReachedField d o Q
    at_all_fields Q blind never = (λ h. out d (all.0 (into Other h)), λ h. out Other (all.1 (into d h)))
      where
        all : AtReached Other o (λ x. Present (outline_of (member x)) Q) ↔ AtReached d o (λ x. Present (outline_of (member x)) Q)
        all = at_all (λ l. Present l.field Q) (λ t h. true≢false (sym (ap is_some h.1.0))) (λ x l h. never x l (placed Q blind (InOperation None) x.parent x.it h))

        into : (e : MeantDocument Place) → AtReachedField e o Q → AtReached e o (λ x. Present (outline_of (member x)) Q)
        into e h = (h.0, (h.1.0, bare Q blind h.0.position h.0.parent h.0.it h.1.1))

        out : (e : MeantDocument Place) → AtReached e o (λ x. Present (outline_of (member x)) Q) → AtReachedField e o Q
        out e h = (h.0, (h.1.0, placed Q blind h.0.position h.0.parent h.0.it h.1.1))

    pub at_all_fragments : (Q : MeantFragment Place → Type 0) → ((g : MeantFragment Place) → Q (emptied g) ≡ Q g) → AtReachedFragment Other o Q ↔ AtReachedFragment d o Q
    at_all_fragments Q blind = (there, here)
      where
        to : (h g : MeantFragment Place) → emptied h ≡ emptied g → Q h → Q g
        to h g e q = subst (λ X. X) (blind g) (subst Q e (subst (λ X. X) (sym (blind h)) q))

        there : AtReachedFragment Other o Q → AtReachedFragment d o Q
        there (h, ((x, (r, (n, (is, named)))), q)) = elim (reached_more (own o) x r) [
          | inl m ↦ let g = stood_for n h named in
              (g.0, ((m.0, (m.1.0, (n, (sym (ap (λ (l : Look). l.spread) (look_stays s (member m.0) (member x) m.1.1)) ∙ is, g.1.0)))), to h g.0 g.1.1.0 q))
          | inr k ↦ absurd (true≢false (sym (ap is_some (ap (λ (e : Member Place). spread_name e.1) k.1 ∙ is))))
        ]

        here : AtReachedFragment d o Q → AtReachedFragment Other o Q
        here (g, ((x, (r, (n, (is, named)))), q)) = elim (reached_less (own o) x r) [
          | inl m ↦ let i = in'.there n g named in
              (i.0, ((m.0, (m.1.0, (n, (ap (λ (l : Look). l.spread) (look_stays s (member x) (member m.0) m.1.1) ∙ is, i.1.0)))), to g i.0 (sym i.1.1.0) q))
          | inr k ↦ absurd (true≢false (sym (ap is_some (sym (spreads_none x (r, k)) ∙ is))))
        ]
