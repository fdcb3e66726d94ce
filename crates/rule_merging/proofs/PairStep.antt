-- A pair of sets is looked at: the fields of the one are compared with those of the other, and what each spreads is looked at with the other.
use Rattle.std.proofs.Common.{◌≡◌, ◌⊎◌, ◌∙◌, ◌+◌, List, [], ◌∷◌, ◌++◌, length, Contains, refl, sym, ap, subst, append_assoc, append-nil, inl, inr}
use Rattle.std.specs.Prelude.{option_map}
use Rattle.std.proofs.lemmas.List.{map-append}
use Rattle.std.proofs.lemmas.List.Elements.{Contains-append_left, Contains-append_right, Contains-append_cases}
use Rattle.graphql_names.specs.Placed.{Place}
use Rattle.rule_field_groups.proofs.in_components.Places.{Contains-rest}
use Rattle.rule_field_groups.proofs.in_definitions.Lists.{not_in_nil, only, Contains-cons, Contains-first, mapped_some}
use Rattle.rule_field_groups.specs.in_spec_document.MeantTree.{MeantSet, meant_set, no_meant, meant_then, MeantFragment, MeantOperation, MeantDocument}
use Rattle.rule_field_groups.specs.in_definitions.Judged.{Judged}
use Rattle.rule_field_groups.specs.in_definitions.in_schema_types.Addresses.{under}
use Rattle.rule_field_groups.specs.in_document_definitions.DocumentFaults.{Broken}
use Rattle.rule_field_groups.specs.in_document_definitions.Selected.{StandingField}
use Rattle.rule_field_groups.specs.in_document_definitions.Reached.{first as starts_here, next as leads_on}
use Rattle.rule_field_groups.specs.in_document_definitions.ReadFields.{ReadField, ReadSet, fields_in, spreads_in, set_read, list_read, fragments_read, IsReadFrom, SelectsRead, ReadBelow, ReadStarts}
use Rattle.rule_field_groups.specs.in_document_definitions.PlainFields.{IsSelected}
use Rattle.rule_field_groups.specs.in_document_definitions.Settled.{AreInOne, IsUnderWay}
use Rattle.rule_field_groups.proofs.in_document_definitions.Unplaced.{contains_map, contains_unmap, under_same}
use Rattle.list_interner.specs.NumberLists.{HaveSame}
use Rattle.list_interner.proofs.Standing.{same_trans, same_sym}
use Rattle.rule_field_groups.specs.in_sets.declared.member.Member.{Member}
use Rattle.rule_field_groups.specs.declared.pass.Pass.{Pass}
use Rattle.rule_field_groups.specs.declared.pass.Pass.TheVariants.{Shapes, Selections}
use Rattle.rule_field_groups.specs.Members.{field_of, content_of, read_sets}
use Rattle.rule_merging.specs.Paired.{LeadsTo, Selects}
use Rattle.rule_field_groups.specs.Passes.{ReadTogether, ReadAgree}
use Rattle.rule_field_groups.specs.MergeState.{Kept}
use Rattle.rule_field_groups.specs.Pairs.{with_each, AreTwosOf, Looks, each_with}
use Rattle.rule_merging.specs.Examined.{Sets, all_read, StandTogether, ReadOwn, ReadSelected, ReadSpreads, AreLookedAt, IsLeft, PairsAreDone, AreUnderWay, TellsIn, ComeFrom, SelectsAsMuch, SetsExamined, PairExamined, PairsExamined, TwosExamined}
use Rattle.rule_merging.specs.Counted.{IsLast, AreListed}
use Rattle.rule_merging.specs.Twos.{are_of, both_of, FieldsPaired}
use Rattle.rule_merging.proofs.Passing.{together_read}
use Rattle.rule_merging.proofs.PairedFacts.{pairs_stand}
use Rattle.rule_merging.proofs.Examining.{left_empty, right_empty, together_more, moved_lists, left_wider, dropped, all_of_one, looked_more, HasMore, DoneIn, SetsStand, done_more, swapped, same_read}

-- lists of two with the same members
pub two_same : {X : Type 0} (a b c e : X) → HaveSame (a ∷ b ∷ []) (c ∷ e ∷ []) → ((a ≡ c) × (b ≡ e)) ⊎ ((a ≡ e) × (b ≡ c))
two_same {X} a b c e same = by (members a b c e (λ x. (same x).0)) (members c e a b (λ x. (same x).1))
  where
    member : (x y z : X) → Contains (x ∷ y ∷ []) z → (z ≡ x) ⊎ (z ≡ y)
    member x y z h = elim (Contains-cons x (y ∷ []) z h) [ inl i ↦ inl (sym i) | inr r ↦ inr (only y z r) ]

    members : (x y z w : X) → ((v : X) → Contains (x ∷ y ∷ []) v → Contains (z ∷ w ∷ []) v) → ((x ≡ z) ⊎ (x ≡ w)) × ((y ≡ z) ⊎ (y ≡ w))
    members x y z w h = (member z w x (h x (Contains-first x (y ∷ []) x refl)), member z w y (h y (Contains-rest x (y ∷ []) y (Contains-first y [] y refl))))

    by : ((a ≡ c) ⊎ (a ≡ e)) × ((b ≡ c) ⊎ (b ≡ e)) → ((c ≡ a) ⊎ (c ≡ b)) × ((e ≡ a) ⊎ (e ≡ b)) → ((a ≡ c) × (b ≡ e)) ⊎ ((a ≡ e) × (b ≡ c))
    by (inl p, inr q) h = inl (p, q)
    by (inr p, inl q) h = inr (p, q)
    by (inl p, inl q) (h, inl i) = inl (p, q ∙ sym p ∙ sym i)
    by (inl p, inl q) (h, inr i) = inl (p, sym i)
    by (inr p, inr q) (inl i, h) = inr (p, q ∙ sym p ∙ sym i)
    by (inr p, inr q) (inr i, h) = inr (p, sym i)

-- ---- the passes

pub together_turned : (pass : Pass) (s : Judged) (x y : ReadField) → ReadTogether pass s x y → ReadTogether pass s y x
together_turned Shapes s x y t = sym t
together_turned Selections s x y (t, inl e) = (sym t, inl (sym e))
together_turned Selections s x y (t, inr (inl e)) = (sym t, inr (inr e))
together_turned Selections s x y (t, inr (inr e)) = (sym t, inr (inl e))

-- ---- what is read through spreads

-- two with the same fields and spreads
abbrev AreAlike : ReadSet → ReadSet → Type 0
AreAlike a b = (fields_in a ≡ fields_in b) × (spreads_in a ≡ spreads_in b)

alike_read : {P : Type 0} (s : MeantSet P) → AreAlike (set_read s) (list_read s)
alike_read (meant_set t no_meant) = (refl, refl)
alike_read (meant_set t (meant_then s ss)) = (refl, refl)

module _ (d : MeantDocument Place) where
  leads_read : (a t : ReadSet) → IsReadFrom (fragments_read d) a t → (v : ReadSet) × (LeadsTo (ReadOwn d) (ReadSpreads d) a v × AreAlike t v)
  leads_read a t (starts_here e) = (a, (starts_here refl, (ap fields_in e, ap spreads_in e)))
  leads_read a t (leads_on {x} r (n, (c, is))) =
      let v = leads_read a x r in
      let f = mapped_some (λ (g : MeantFragment Place). set_read g.set) (under n d.fragments) t (sym (under_same (λ (g : MeantFragment Place). set_read g.set) n d.fragments) ∙ is) in (
        list_read f.0.set,
        (
          leads_on v.1.0 (n, (subst (λ l. Contains l n) v.1.1.1 c, ap (option_map (λ (g : MeantFragment Place). list_read g.set)) f.1.0)),
          subst (λ u. AreAlike u (list_read f.0.set)) (sym f.1.1) (alike_read f.0.set),
        ),
      )

  -- what is selected through fragments
  pub selected_through : (a : ReadSet) (x : ReadField) → SelectsRead (fragments_read d) a x → Selects (ReadOwn d) (ReadSpreads d) a x
  selected_through a x (t, (r, c)) = let v = leads_read a t r in (v.0, (v.1.0, subst (λ l. Contains l x) v.1.1.0 c))

  -- ---- a set with its fields and what it spreads

  -- these are fields of the set, and sets of fragments that it spreads, all of them by what is read
  pub record IsOpened (a : MeantSet Place) (members : List Member) (spread : Sets) : Type 0 where
    pub within : (p : Member) → Contains members p → IsSelected d (a ∷ []) (field_of p)
    pub covers : (x : ReadField) → ReadOwn d (list_read a) x → (p : Member) × (Contains members p × (content_of p ≡ x))
    pub leads : (v : MeantSet Place) → Contains spread v → SelectsAsMuch d (a ∷ []) (v ∷ [])
    pub reaches : (v : ReadSet) → ReadSpreads d (list_read a) v → (u : MeantSet Place) × (Contains spread u × (list_read u ≡ v))

module _ (pass : Pass) (s : Judged) (d : MeantDocument Place) where
  -- ---- fields of the two

  -- what the one selects, and the other
  first_selects : (p q : MeantSet Place) (x : StandingField Place) → IsSelected d (p ∷ []) x → IsSelected d (p ∷ q ∷ []) x
  first_selects p q x (w, (k, sel)) = (w, (Contains-first p (q ∷ []) w (sym (only p w k)), sel))

  last_selects : (p q : MeantSet Place) (x : StandingField Place) → IsSelected d (q ∷ []) x → IsSelected d (p ∷ q ∷ []) x
  last_selects p q x (w, (k, sel)) = (w, (Contains-rest p (q ∷ []) w k, sel))

  -- own fields of the two are last fields of chains, if what the two select is
  pub pair_listed : (a b : MeantSet Place) (ones others : List Member) → ((p : Member) → Contains ones p → IsSelected d (a ∷ []) (field_of p)) → ((q : Member) → Contains others q → IsSelected d (b ∷ []) (field_of q))
      → (os : List (MeantOperation Place)) → AreListed d os ((a ∷ b ∷ []) ∷ []) → (p q : Member) → are_of ones others p q → IsLast d os (content_of p) × IsLast d os (content_of q)
  pair_listed a b ones others in_one in_other os listed p q (c, e) = (
    listed (a ∷ b ∷ []) (Contains-first (a ∷ b ∷ []) [] (a ∷ b ∷ []) refl) (field_of p) (first_selects a b (field_of p) (in_one p c)),
    listed (a ∷ b ∷ []) (Contains-first (a ∷ b ∷ []) [] (a ∷ b ∷ []) refl) (field_of q) (last_selects a b (field_of q) (in_other q e)),
  )

  module _ (a b : MeantSet Place) (ones others : List Member) (vs ws : Sets) (open_one : IsOpened d a ones vs) (open_other : IsOpened d b others ws) where
    abbrev two : Sets
    two = a ∷ b ∷ []

    from_one : (p : Member) → Contains ones p → IsSelected d two (field_of p)
    from_one p c = first_selects a b (field_of p) (open_one.within p c)

    from_other : (q : Member) → Contains others q → IsSelected d two (field_of q)
    from_other q c = last_selects a b (field_of q) (open_other.within q c)

    -- two fields that go together, of the one set and of the other
    both_selected : (p q : Member) → are_of ones others p q → (f : StandingField Place) → Contains (both_of p q) f → IsSelected d two f
    both_selected p q (c, e) f k = elim (Contains-cons (field_of p) (field_of q ∷ []) f k) [
      | inl i ↦ subst (IsSelected d two) i (from_one p c)
      | inr r ↦ subst (IsSelected d two) (sym (only (field_of q) f r)) (from_other q e)
    ]

    of_two : (p q v : MeantSet Place) → SelectsAsMuch d (p ∷ []) (v ∷ []) → (x : StandingField Place) → IsSelected d (v ∷ q ∷ []) x → IsSelected d (p ∷ q ∷ []) x
    of_two p q v spread x (w, (k, sel)) = elim (Contains-cons v (q ∷ []) w k) [
      | inl e ↦ first_selects p q x (spread x (w, (Contains-first v [] w e, sel)))
      | inr r ↦ last_selects p q x (w, (r, sel))
    ]

    module _ (old mid new : Kept) (added : List (Broken Place)) (next : List Sets) (paired : FieldsPaired pass s d (are_of ones others) old mid added next)
        (looks : Looks (each_with vs b ++ with_each a ws) mid new) where
      stand_own : added ≡ [] → (x y : ReadField) → ReadOwn d (list_read a) x → ReadOwn d (list_read b) y → ReadTogether pass s x y → AreInOne new.lists x y
      stand_own none x y p q t =
          let m = open_one.covers x p in
          let n = open_other.covers y q in
          let go : ReadTogether pass s (content_of m.0) (content_of n.0) = subst (λ v. ReadTogether pass s v (content_of n.0)) (sym m.1.1) (subst (ReadTogether pass s x) (sym n.1.1) t) in
          let stand = paired.stand none m.0 n.0 ((m.1.0, n.1.0), (together_read pass s (field_of m.0) (field_of n.0)).1 go) in
          subst (λ (ls : List (List ReadField)). AreInOne ls x y) (sym looks.lists) (subst (λ v. AreInOne mid.lists v y) m.1.1 (subst (AreInOne mid.lists (content_of m.0)) n.1.1 stand))

      looked_one : (v : ReadSet) → ReadSpreads d (list_read a) v → AreLookedAt new.looked v (list_read b)
      looked_one v h =
          let w = open_one.reaches v h in
          let part = w.0 ∷ b ∷ [] in
          subst (λ u. AreLookedAt new.looked u (list_read b)) w.1.1
          (looks.has part (Contains-append_left (each_with vs b) (with_each a ws) part (contains_map (λ (u : MeantSet Place). u ∷ b ∷ []) vs w.0 w.1.0)))

      looked_other : (v : ReadSet) → ReadSpreads d (list_read b) v → AreLookedAt new.looked (list_read a) v
      looked_other v h =
          let w = open_other.reaches v h in
          let part = a ∷ w.0 ∷ [] in
          subst (AreLookedAt new.looked (list_read a)) w.1.1
          (looks.has part (Contains-append_right (each_with vs b) (with_each a ws) part (contains_map (λ (u : MeantSet Place). a ∷ u ∷ []) ws w.0 w.1.0)))

      turned : (u v : ReadSet) → AreLookedAt new.looked u v → AreLookedAt new.looked v u
      turned u v (known, (there, same)) = (known, (there, same_trans known (u ∷ v ∷ []) (v ∷ u ∷ []) same (swapped u v)))

      done : added ≡ [] → DoneIn pass s d new (list_read a) (list_read b)
      done none = record { own = stand_own none; one = looked_one; other = looked_other }

      done_turned : added ≡ [] → DoneIn pass s d new (list_read b) (list_read a)
      done_turned none = record {
        own = λ x y p q t. let h = stand_own none y x q p (together_turned pass s x y t) in (h.0, (h.1.0, (h.1.1.1, h.1.1.0)));
        one = λ v h. turned (list_read a) v (looked_other v h);
        other = λ v h. turned v (list_read b) (looked_one v h);
      }

      lists_more : HasMore old.lists new.lists
      lists_more l c = subst (λ (ls : List (List ReadField)). Contains ls l) (sym looks.lists) (paired.more l c)

      looked_same : mid.looked ≡ old.looked
      looked_same = ap (λ (k : Kept). k.looked) paired.same

      looked_on : HasMore old.looked new.looked
      looked_on k c = looks.keeps k (subst (λ (ls : List (List ReadSet)). Contains ls k) (sym looked_same) c)

      -- the pair that was left is done
      pair_on : added ≡ [] → (twos : List (List ReadSet)) → (u v : ReadSet) → AreLookedAt (read_sets two ∷ twos) u v → AreLookedAt (twos ++ all_read looks.pairs) u v ⊎ DoneIn pass s d new u v
      pair_on none twos u v (known, (there, same)) = elim (Contains-cons (read_sets two) twos known there) [
        | inl e ↦ inr (elim (two_same (list_read a) (list_read b) u v (subst (λ (l : List ReadSet). HaveSame l (u ∷ v ∷ [])) (sym e) same)) [
          | inl (p, q) ↦ subst (λ x. DoneIn pass s d new x v) p (subst (DoneIn pass s d new (list_read a)) q (done none))
          | inr (p, q) ↦ subst (λ x. DoneIn pass s d new x v) q (subst (DoneIn pass s d new (list_read b)) p (done_turned none))
        ])
        | inr r ↦ inl (known, (Contains-append_left twos (all_read looks.pairs) known r, same))
      ]

      -- each pair that was looked at is done, or it is left
      pairs_on : added ≡ [] → (twos : List (List ReadSet)) → PairsAreDone d pass s (read_sets two ∷ twos) old → PairsAreDone d pass s (twos ++ all_read looks.pairs) new
      pairs_on none twos ok u v (known, (there, same)) = elim (looks.fresh known there) [
        | inl was ↦ elim (ok u v (known, (subst (λ (ls : List (List ReadSet)). Contains ls known) looked_same was, same))) [
          | inl left ↦ pair_on none twos u v left
          | inr is ↦ inr (done_more pass s d old new lists_more looked_on u v is)
        ]
        | inr (t, (c, alike)) ↦ inl (read_sets t, (Contains-append_right twos (all_read looks.pairs) (read_sets t) (contains_map read_sets looks.pairs t c), same_trans (read_sets t) known (u ∷ v ∷ []) (same_sym known (read_sets t) alike) same))
      ]

      within_part : (part : Sets) → Contains (each_with vs b ++ with_each a ws) part → (x : StandingField Place) → IsSelected d part x → IsSelected d two x
      within_part part c x h = elim (Contains-append_cases (each_with vs b) (with_each a ws) part c) [
        | inl i ↦ let v = contains_unmap (λ (u : MeantSet Place). u ∷ b ∷ []) vs part i in of_two a b v.0 (open_one.leads v.0 v.1.0) x (subst (λ (l : Sets). IsSelected d l x) (sym v.1.1) h)
        | inr i ↦ let v = contains_unmap (λ (u : MeantSet Place). a ∷ u ∷ []) ws part i in
            let turn = subst (λ (l : Sets). IsSelected d l x) (sym v.1.1) h in
            let k = of_two b a v.0 (open_other.leads v.0 v.1.0) x (turn.0, ((swapped a v.0 turn.0).0 turn.1.0, turn.1.1)) in
            (k.0, ((swapped b a k.0).0 k.1.0, k.1.1))
      ]

      pub pair_examined : PairExamined pass s d two old new added next
      pair_examined = record {
        right = λ fault c.
            let t = paired.right fault c in
            let f = t.1.1.1.0 in
            let g = t.1.1.1.1.0 in
            (two, (Contains-first two [] two refl, (f, (g, (both_selected t.0 t.1.0 t.1.1.0 f t.1.1.1.1.1.0, (both_selected t.0 t.1.0 t.1.1.0 g t.1.1.1.1.1.1.0, t.1.1.1.1.1.1.1))))));
        under = λ sets c.
            let u = paired.under sets c in
            (two, (Contains-first two [] two refl, (u.1.1.1.0, ((λ f g i j. let w = u.1.1.1.1.0 f g i j in (both_selected u.0 u.1.0 u.1.1.0 f w.0, w.1)), u.1.1.1.1.1))));
        more = lists_more;
        looks = looked_on;
        pairs = looks.pairs;
        is_pairs = looks.is_pairs ∙ ap (λ l. l ++ looks.pairs) (ap (λ (k : Kept). k.pairs) paired.same);
        count = looks.count ∙ ap (λ (l : List (List ReadSet)). length l + length looks.pairs) looked_same;
        within = λ part c x h. within_part part (looks.within part c) x h;
        settled = λ e o twos left under. record {
          fields = moved_lists pass s d o (IsLeft d left) (IsLeft d (left ++ all_read next)) old.lists new.lists lists_more
              (λ f g h. inr (left_wider pass s d left (left ++ all_read next) (λ l c. Contains-append_left left (all_read next) l c) f g h))
              (λ f g h. elim (paired.fresh e h.0 (subst (λ (ls : List (List ReadField)). Contains ls h.0) looks.lists h.1.0)) [
                | inl was ↦ inl (h.0, (was, h.1.1))
                | inr now ↦ inr (λ t.
                    let r = now f g h.1.1.0 h.1.1.1 t in
                    (r.0, λ x y p q. left_wider pass s d (all_read next) (left ++ all_read next) (λ l c. Contains-append_right left (all_read next) l c) x y (r.1 x y p q)))
              ])
              under.fields;
          sets = λ vs c x y p q. together_more pass s d old.lists new.lists lists_more x y (under.sets vs (subst (λ (k : List (List ReadSet)). Contains k vs) (looks.expanded ∙ ap (λ (k : Kept). k.expanded) paired.same) c) x y p q);
          pairs = pairs_on e twos under.pairs;
        };
      }

  -- ---- several pairs

  tells_wider : (sets part : Sets) (lists : List Sets) → Contains lists sets → SelectsAsMuch d sets part → (fault : Broken Place) → TellsIn pass s d (part ∷ []) fault → TellsIn pass s d lists fault
  tells_wider sets part lists there wide fault t =
      let at = only part t.0 t.1.0 in
      (sets, (there, (t.1.1.0, (t.1.1.1.0, (wide t.1.1.0 (subst (λ (l : Sets). IsSelected d l t.1.1.0) at t.1.1.1.1.0), (wide t.1.1.1.0 (subst (λ (l : Sets). IsSelected d l t.1.1.1.0) at t.1.1.1.1.1.0), t.1.1.1.1.1.1))))))

  come_wider : (sets part : Sets) (lists : List Sets) → Contains lists sets → SelectsAsMuch d sets part → (next : Sets) → ComeFrom pass s d (part ∷ []) next → ComeFrom pass s d lists next
  come_wider sets part lists there wide next u =
      let at = only part u.0 u.1.0 in
      (sets, (there, (u.1.1.0, ((λ f g a b. let w = u.1.1.1.0 f g a b in (wide f (subst (λ (l : Sets). IsSelected d l f) at w.0), w.1)), u.1.1.1.1))))

  -- of one list of them
  one_tells : (lists : List Sets) (fault : Broken Place) (t : TellsIn pass s d lists fault) → TellsIn pass s d (t.0 ∷ []) fault
  one_tells lists fault t = (t.0, (Contains-first t.0 [] t.0 refl, t.1.1))

  one_comes : (lists : List Sets) (next : Sets) (u : ComeFrom pass s d lists next) → ComeFrom pass s d (u.0 ∷ []) next
  one_comes lists next u = (u.0, (Contains-first u.0 [] u.0 refl, u.1.1))

  -- whichever order pairs are left in
  under_as : (o : MeantOperation Place) (twos twos' : List (List ReadSet)) (left : List (List ReadSet)) (kept : Kept) (pairs : List Sets) → HasMore twos twos' → AreUnderWay d pass s o twos left kept
      → AreUnderWay d pass s o twos' left (record kept { pairs = pairs })
  under_as o twos twos' left kept pairs on under = record {
    fields = under.fields;
    sets = under.sets;
    pairs = λ a b h. elim (under.pairs a b h) [ inl is ↦ inl (looked_more pass s d twos twos' on a b is) | inr is ↦ inr is ];
  }

  pub no_pairs : (old : Kept) → PairsExamined pass s d old old [] []
  no_pairs old = record {
    right = λ fault c. not_in_nil fault c;
    under = λ sets c. not_in_nil sets c;
    more = λ l c. c;
    looks = λ l c. c;
    within = λ part c. (part, (c, λ x h. h));
    settled = λ e o left under. subst (λ l. AreUnderWay d pass s o (all_read old.pairs) l old) (sym (append-nil left)) under;
  }

  -- lists of sets that are left, and what comes to them twice
  left_twice : (o : MeantOperation Place) (twos left : List (List ReadSet)) (next below : List Sets) (kept : Kept) → AreUnderWay d pass s o twos ((left ++ all_read next) ++ all_read below) kept
      → AreUnderWay d pass s o twos (left ++ all_read (next ++ below)) kept
  left_twice o twos left next below kept =
      subst (λ l. AreUnderWay d pass s o twos l kept) (append_assoc left (all_read next) (all_read below) ∙ ap (λ l. left ++ l) (sym (map-append read_sets next below)))

  -- one more of them: the last one that waits
  module _ (old mid new : Kept) (added more : List (Broken Place)) (next below rest : List Sets) (two : Sets) (is : mid.pairs ≡ rest ++ two ∷ [])
      (so_far : PairsExamined pass s d old mid added next) (one : PairExamined pass s d two (record mid { pairs = rest }) new more below) where
    among : (part : Sets) → Contains (rest ++ two ∷ []) part → Contains mid.pairs part
    among part c = subst (λ (l : List Sets). Contains l part) (sym is) c

    from : (part : Sets) → SelectsAsMuch d two part → (sets : Sets) × (Contains old.pairs sets × SelectsAsMuch d sets part)
    from part wide =
        let f = so_far.within two (among two (Contains-append_right rest (two ∷ []) two (Contains-first two [] two refl))) in
        (f.0, (f.1.0, λ x h. f.1.1 x (wide x h)))

    last_first : HasMore (all_read mid.pairs) (read_sets two ∷ all_read rest)
    last_first l c = elim (Contains-append_cases (all_read rest) (read_sets two ∷ []) l (subst (λ (k : List (List ReadSet)). Contains k l) (ap all_read is ∙ map-append read_sets rest (two ∷ [])) c)) [
      | inl a ↦ Contains-rest (read_sets two) (all_read rest) l a
      | inr b ↦ Contains-first (read_sets two) (all_read rest) l (sym (only (read_sets two) l b))
    ]

    pub one_more : PairsExamined pass s d old new (added ++ more) (next ++ below)
    one_more = record {
      right = λ fault c. elim (Contains-append_cases added more fault c) [
        | inl a ↦ so_far.right fault a
        | inr b ↦ let f = from two (λ x h. h) in tells_wider f.0 two old.pairs f.1.0 f.1.1 fault (one.right fault b)
      ];
      under = λ sets c. elim (Contains-append_cases next below sets c) [
        | inl a ↦ so_far.under sets a
        | inr b ↦ let f = from two (λ x h. h) in come_wider f.0 two old.pairs f.1.0 f.1.1 sets (one.under sets b)
      ];
      more = λ l c. one.more l (so_far.more l c);
      looks = λ l c. one.looks l (so_far.looks l c);
      within = λ part c. elim (Contains-append_cases rest one.pairs part (subst (λ (l : List Sets). Contains l part) one.is_pairs c)) [
        | inl a ↦ so_far.within part (among part (Contains-append_left rest (two ∷ []) part a))
        | inr b ↦ from part (one.within part b)
      ];
      settled = λ e o left under.
          let half = so_far.settled (left_empty added more e) o left under in
          let taken = under_as o (all_read mid.pairs) (read_sets two ∷ all_read rest) (left ++ all_read next) mid rest last_first half in
          let last = one.settled (right_empty added more e) o (all_read rest) (left ++ all_read next) taken in
          left_twice o (all_read new.pairs) left next below new
          (subst (λ t. AreUnderWay d pass s o t ((left ++ all_read next) ++ all_read below) new) (sym (ap all_read one.is_pairs ∙ map-append read_sets rest one.pairs)) last);
    }

  -- the same of breaches and lists as they stand before and after
  pub pairs_step : (old mid new : Kept) (told half last : List (Broken Place)) (next between later rest : List Sets) (two : Sets) → mid.pairs ≡ rest ++ two ∷ []
      → ((added : List (Broken Place)) × ((below : List Sets) × ((half ≡ told ++ added) × ((between ≡ next ++ below) × PairsExamined pass s d old mid added below))))
      → ((added : List (Broken Place)) × ((below : List Sets) × ((last ≡ half ++ added) × ((later ≡ between ++ below) × PairExamined pass s d two (record mid { pairs = rest }) new added below))))
      → (added : List (Broken Place)) × ((below : List Sets) × ((last ≡ told ++ added) × ((later ≡ next ++ below) × PairsExamined pass s d old new added below)))
  pairs_step old mid new told half last next between later rest two is (a, (k, (e, (lies, so_far)))) (b, (m, (f, (lies_too, one)))) = (
    a ++ b,
    (
      k ++ m,
      (
        f ∙ ap (λ l. l ++ b) e ∙ append_assoc told a b,
        (lies_too ∙ ap (λ l. l ++ m) lies ∙ append_assoc next k m, one_more old mid new a b k m rest two is so_far one),
      ),
    ),
  )

  -- ---- sets by their pairs

  -- where pairs are done, fields that go together stand, of which two sets that were looked at select the one each
  looked_stand : (kept : Kept) → PairsAreDone d pass s [] kept → (a b : ReadSet) → AreLookedAt kept.looked a b → (x y : ReadField) → SelectsRead (fragments_read d) a x → SelectsRead (fragments_read d) b y
      → StandTogether pass s kept.lists x y
  looked_stand kept done a b looked x y p q t =
      let stands = pairs_stand (ReadOwn d) (ReadSpreads d) (ReadTogether pass s) (AreInOne kept.lists) (AreLookedAt kept.looked) (AreLookedAt []) done a b x y looked
      (selected_through d a x p) (selected_through d b y q) t in
      elim stands [ inl stand ↦ stand | inr (u, (v, (none, both))) ↦ not_in_nil none.0 none.1.0 ]

  -- pairs that are looked at while no other waits, and are examined until none does
  module _ (twos : List Sets) (old mid new : Kept) (looks : Looks twos (record old { pairs = [] }) mid) (added : List (Broken Place)) (next : List Sets)
      (none : added ≡ [] → new.pairs ≡ []) (pairs : PairsExamined pass s d mid new added next) where
    of_twos : (part : Sets) → Contains mid.pairs part → Contains twos part
    of_twos part c = looks.within part (subst (λ (l : List Sets). Contains l part) looks.is_pairs c)

    -- with the pairs that are left
    with_pairs : (o : MeantOperation Place) (left : List (List ReadSet)) → AreUnderWay d pass s o [] left old → AreUnderWay d pass s o (all_read mid.pairs) left mid
    with_pairs o left under = record {
      fields = subst (λ (ls : List (List ReadField)). IsUnderWay (ReadBelow d) (ReadTogether pass s) (ReadAgree pass s) (ReadStarts d o) (IsLeft d left) (StandTogether pass s ls)) (sym looks.lists) under.fields;
      sets = λ vs c. subst (λ (ls : List (List ReadField)). (x y : ReadField) → ReadSelected d vs x → ReadSelected d vs y → StandTogether pass s ls x y) (sym looks.lists)
          (under.sets vs (subst (λ (k : List (List ReadSet)). Contains k vs) looks.expanded c));
      pairs = λ a b h. elim (looks.fresh h.0 h.1.0) [
        | inl was ↦ elim (under.pairs a b (h.0, (was, h.1.1))) [
          | inl none ↦ not_in_nil none.0 none.1.0
          | inr is ↦ inr (done_more pass s d old mid (λ l c. subst (λ (ls : List (List ReadField)). Contains ls l) (sym looks.lists) c) looks.keeps a b is)
        ]
        | inr (t, (c, alike)) ↦ inl (read_sets t, (contains_map read_sets mid.pairs t (subst (λ (l : List Sets). Contains l t) (sym looks.is_pairs) c), same_trans (read_sets t) h.0 (a ∷ b ∷ []) (same_sym h.0 (read_sets t) alike) h.1.1))
      ];
    }

    pub twos_examined : TwosExamined pass s d twos old new added next
    twos_examined = record {
      right = λ fault c. let t = pairs.right fault c in (t.0, (of_twos t.0 t.1.0, t.1.1));
      under = λ sets c. let u = pairs.under sets c in (u.0, (of_twos u.0 u.1.0, u.1.1));
      more = λ l c. pairs.more l (subst (λ (ls : List (List ReadField)). Contains ls l) (sym looks.lists) c);
      looks = λ k c. pairs.looks k (looks.keeps k c);
      has = λ two c. let known = looks.has two c in (known.0, (pairs.looks known.0 known.1.0, known.1.1));
      settled = λ e o left under. subst (λ (l : List Sets). AreUnderWay d pass s o (all_read l) (left ++ all_read next) new) (none e) (pairs.settled e o left (with_pairs o left under));
    }

  -- the same of breaches and lists as they stand before and after
  abbrev pub TwosTold : List Sets → Kept → Kept → List (Broken Place) → List (Broken Place) → List Sets → List Sets → Type 0
  TwosTold twos old new told later next last = (added : List (Broken Place)) × ((below : List Sets) × ((later ≡ told ++ added) × ((last ≡ next ++ below) × TwosExamined pass s d twos old new added below)))

  pub twos_looked : (twos : List Sets) (old mid new : Kept) (told later : List (Broken Place)) (next last : List Sets) → Looks twos (record old { pairs = [] }) mid
      → ((later ≡ told → new.pairs ≡ []) × ((added : List (Broken Place)) × ((below : List Sets) × ((later ≡ told ++ added) × ((last ≡ next ++ below) × PairsExamined pass s d mid new added below)))))
      → TwosTold twos old new told later next last
  twos_looked twos old mid new told later next last looks (none, (a, (k, (is, (lies, h))))) =
      (a, (k, (is, (lies, twos_examined twos old mid new looks a k (λ e. none (is ∙ ap (λ l. told ++ l) e ∙ append-nil told)) h))))

  pub twos_none : (old : Kept) (told : List (Broken Place)) (next : List Sets) → TwosTold [] old old told told next next
  twos_none old told next = (
    [],
    (
      [],
      (
        sym (append-nil told),
        (
          sym (append-nil next),
          record {
            right = λ fault c. not_in_nil fault c;
            under = λ sets c. not_in_nil sets c;
            more = λ l c. c;
            looks = λ l c. c;
            has = λ two c. not_in_nil two c;
            settled = λ e o left under. subst (λ l. AreUnderWay d pass s o [] l old) (sym (append-nil left)) under;
          },
        ),
      ),
    ),
  )

  -- some and then others
  twos_both : (twos others : List Sets) (old mid new : Kept) (added more : List (Broken Place)) (next below : List Sets) → TwosExamined pass s d twos old mid added next
      → TwosExamined pass s d others mid new more below → TwosExamined pass s d (twos ++ others) old new (added ++ more) (next ++ below)
  twos_both twos others old mid new added more next below first then' = record {
    right = λ fault c. elim (Contains-append_cases added more fault c) [
      | inl a ↦ let t = first.right fault a in (t.0, (Contains-append_left twos others t.0 t.1.0, t.1.1))
      | inr b ↦ let t = then'.right fault b in (t.0, (Contains-append_right twos others t.0 t.1.0, t.1.1))
    ];
    under = λ sets c. elim (Contains-append_cases next below sets c) [
      | inl a ↦ let u = first.under sets a in (u.0, (Contains-append_left twos others u.0 u.1.0, u.1.1))
      | inr b ↦ let u = then'.under sets b in (u.0, (Contains-append_right twos others u.0 u.1.0, u.1.1))
    ];
    more = λ l c. then'.more l (first.more l c);
    looks = λ k c. then'.looks k (first.looks k c);
    has = λ two c. elim (Contains-append_cases twos others two c) [
      | inl a ↦ let known = first.has two a in (known.0, (then'.looks known.0 known.1.0, known.1.1))
      | inr b ↦ then'.has two b
    ];
    settled = λ e o left under. left_twice o [] left next below new (then'.settled (right_empty added more e) o (left ++ all_read next) (first.settled (left_empty added more e) o left under));
  }

  pub twos_step : (twos others : List Sets) (old mid new : Kept) (told half last : List (Broken Place)) (next between later : List Sets)
      → TwosTold twos old mid told half next between → TwosTold others mid new half last between later → TwosTold (twos ++ others) old new told last next later
  twos_step twos others old mid new told half last next between later (a, (k, (e, (lies, first)))) (b, (m, (f, (lies_too, then')))) = (
    a ++ b,
    (
      k ++ m,
      (f ∙ ap (λ l. l ++ b) e ∙ append_assoc told a b, (lies_too ∙ ap (λ l. l ++ m) lies ∙ append_assoc next k m, twos_both twos others old mid new a b k m first then')),
    ),
  )

  -- each two of some sets; where something is told, perhaps not of all
  module _ (sets : Sets) (twos : List Sets) (old new : Kept) (added : List (Broken Place)) (next : List Sets)
      (within : (two : Sets) → Contains twos two → (v : MeantSet Place) → Contains two v → Contains sets v) (are : added ≡ [] → AreTwosOf sets twos) (h : TwosExamined pass s d twos old new added next) where
    of_all : (part : Sets) → Contains twos part → SelectsAsMuch d sets part
    of_all part c x i = (i.0, (within part c i.0 i.1.0, i.1.1))

    -- any two of the sets were looked at together
    looked_two : added ≡ [] → (v w : MeantSet Place) → Contains sets v → Contains sets w → AreLookedAt new.looked (list_read v) (list_read w)
    looked_two e v w a b =
        let two = (are e).covers v w a b in
        let known = h.has two.0 two.1.0 in
        (known.0, (known.1.0, same_trans known.0 (read_sets two.0) (read_sets (v ∷ w ∷ [])) known.1.1 (same_read two.0 (v ∷ w ∷ []) two.1.1)))

    sets_stand : added ≡ [] → PairsAreDone d pass s [] new → SetsStand pass s d sets new.lists
    sets_stand e done x y (p, (a, i)) (q, (b, j)) =
        let v = contains_unmap list_read sets p a in
        let w = contains_unmap list_read sets q b in
        looked_stand new done p q
        (subst (λ (k : ReadSet). AreLookedAt new.looked k q) v.1.1 (subst (λ (k : ReadSet). AreLookedAt new.looked (list_read v.0) k) w.1.1 (looked_two e v.0 w.0 v.1.0 w.1.0))) x y i j

    sets_by_twos : SetsExamined pass s d (sets ∷ []) old new added next
    sets_by_twos = record {
      right = λ fault c. let t = h.right fault c in tells_wider sets t.0 (sets ∷ []) (Contains-first sets [] sets refl) (of_all t.0 t.1.0) fault (one_tells twos fault t);
      under = λ vs c. let u = h.under vs c in come_wider sets u.0 (sets ∷ []) (Contains-first sets [] sets refl) (of_all u.0 u.1.0) vs (one_comes twos vs u);
      more = h.more;
      settled = λ e o left under.
          let whole : AreUnderWay d pass s o [] (read_sets sets ∷ (left ++ all_read next)) new = h.settled e o (read_sets sets ∷ left) under in
          let stand = sets_stand e whole.pairs in
          (dropped pass s d sets new stand o (left ++ all_read next) whole, all_of_one pass s d sets new.lists stand);
    }

  -- each two of the first of some sets; of all of them, if nothing is told
  pub sets_told : (sets front : Sets) (old new : Kept) (told later : List (Broken Place)) (next last : List Sets) → ((v : MeantSet Place) → Contains front v → Contains sets v)
      → (later ≡ told → front ≡ sets) → (twos : List Sets) × (AreTwosOf front twos × TwosTold twos old new told later next last)
      → (added : List (Broken Place)) × ((below : List Sets) × ((later ≡ told ++ added) × ((last ≡ next ++ below) × SetsExamined pass s d (sets ∷ []) old new added below)))
  sets_told sets front old new told later next last part whole (twos, (are, (a, (k, (is, (lies, h)))))) = (
    a,
    (
      k,
      (
        is,
        (
          lies,
          sets_by_twos sets twos old new a k (λ two c v i. part v (are.within two c v i))
              (λ e. subst (λ (l : Sets). AreTwosOf l twos) (whole (is ∙ ap (λ l. told ++ l) e ∙ append-nil told)) are) h,
        ),
      ),
    ),
  )
