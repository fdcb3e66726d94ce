-- What fragments refer to by number is what the rules read.
use Rattle.std.proofs.Common.{◌≡◌, ℕ, suc, List, [], ◌∷◌, ◌++◌, slice_get, Option, None, Some, refl, sym, ap, subst, ◌∙◌, inl, inr, Contains}
use Rattle.std.specs.Prelude.{bytes_eq}
use Rattle.std.specs.List.{IsDistinct}
use Rattle.std.specs.Map.{keys_of}
use Rattle.std.specs.Option.{option_map, option_map_or}
use Rattle.std.proofs.lemmas.Option.{same_Some}
use Rattle.std.proofs.lemmas.List.Elements.{Contains-append_left, Contains-append_right, Contains-append_cases}
use Rattle.graphql_names.specs.Placed.{Place}
use Rattle.schema_components.specs.Names.{Entries}
use Rattle.spec_document.specs.MeantTree.{MeantSelection, MeantField, MeantSpread, MeantInline, MeantSet, meant_set, MeantSelections, no_meant, meant_then, MeantFragment, MeantDocument}
use Rattle.rule_cycle_search.proofs.Lists.{not_in_nil, only, Contains-cons, Contains-first, index_given, mapped_some}
use Rattle.rule_document_definitions.specs.Selected.{Position, SelectionAt, InFragment, Standing, all_in, all_from, all_below}
use Rattle.rule_document_definitions.specs.Fragments.{as_spread, RefersBySpread}
use Rattle.rule_cycles.specs.Labels.{targets}
use Rattle.rule_cycles.specs.Numbers.{number_of}
use Rattle.rule_cycles.proofs.Transport.{IsSoundView, target_there}
use Rattle.rule_cycles.proofs.Entries.{number_given, number_there, under_at, under_given, one_number}
use Rattle.rule_fragments.specs.SpreadNumbers.{Spread, spread_of, referred, spread_references, references_in, references_along, references_of, references_at}

module _ (es : Entries (MeantFragment Place)) where
  -- among these stands the spread, which refers to that number
  abbrev pub StandsBy : List (Standing Place) → ℕ → Spread → Type 0
  StandsBy xs j l = (x : Standing Place) × (Contains xs x × ((as_spread x.it ≡ Some l) × (number_of l.it.fragment_name es ≡ Some j)))

  stands_left : (xs ys : List (Standing Place)) (j : ℕ) (l : Spread) → StandsBy xs j l → StandsBy (xs ++ ys) j l
  stands_left xs ys j l s = (s.0, (Contains-append_left xs ys s.0 s.1.0, s.1.1))

  stands_right : (xs ys : List (Standing Place)) (j : ℕ) (l : Spread) → StandsBy ys j l → StandsBy (xs ++ ys) j l
  stands_right xs ys j l s = (s.0, (Contains-append_right xs ys s.0 s.1.0, s.1.1))

  abbrev head : Position → List ℕ → ℕ → MeantSelection Place → Standing Place
  head h t i s = record { position = SelectionAt h i; parent = t; it = s }

  -- ---- what is referred to stands there

  refers_so : (by l : Spread) (o : Option ℕ) (j : ℕ) → number_of by.it.fragment_name es ≡ o → Contains (referred o by) (j, l) → (by ≡ l) × (number_of l.it.fragment_name es ≡ Some j)
  refers_so by l None j e c = not_in_nil (j, l) c
  refers_so by l (Some i) j e c =
      let same : (j, l) ≡ (i, by) = only (i, by) (j, l) c in
      let it : by ≡ l = sym (ap (λ x. x.1) same) in
      (it, ap (λ (m : Spread). number_of m.it.fragment_name es) (sym it) ∙ e ∙ ap (λ x. Some x.0) (sym same))

  mutual
    pub spread_stands : (h : Position) (s : MeantSet Place) (j : ℕ) (l : Spread) → Contains (references_in es s) (j, l) → StandsBy (all_in h s) j l
    spread_stands h (meant_set t ss) j l c = stands_from h t 0 ss j l c

    stands_from : (h : Position) (t : List ℕ) (i : ℕ) (ss : MeantSelections Place) (j : ℕ) (l : Spread) → Contains (references_along es ss) (j, l) → StandsBy (all_from h t i ss) j l
    stands_from h t i no_meant j l c = not_in_nil (j, l) c
    stands_from h t i (meant_then s ss) j l c = elim (Contains-append_cases (references_of es s) (references_along es ss) (j, l) c) [
      | inl a ↦ stands_left (head h t i s ∷ all_below (SelectionAt h i) s) (all_from h t (suc i) ss) j l (stands_of h t i s j l a)
      | inr r ↦ stands_right (head h t i s ∷ all_below (SelectionAt h i) s) (all_from h t (suc i) ss) j l (stands_from h t (suc i) ss j l r)
    ]

    stands_of : (h : Position) (t : List ℕ) (i : ℕ) (s : MeantSelection Place) (j : ℕ) (l : Spread) → Contains (references_of es s) (j, l) → StandsBy (head h t i s ∷ all_below (SelectionAt h i) s) j l
    stands_of h t i (MeantField p d hd s) j l c = stands_right (head h t i (MeantField p d hd s) ∷ []) (all_in (SelectionAt h i) s) j l (spread_stands (SelectionAt h i) s j l c)
    stands_of h t i (MeantSpread p n ds) j l c =
        let so : (spread_of p n ds ≡ l) × (number_of l.it.fragment_name es ≡ Some j) = refers_so (spread_of p n ds) l (number_of n.it es) j refl c in
        (head h t i (MeantSpread p n ds), (Contains-first (head h t i (MeantSpread p n ds)) [] (head h t i (MeantSpread p n ds)) refl, (ap (λ m. Some m) so.0, so.1)))
    stands_of h t i (MeantInline p cd ds s) j l c = stands_right (head h t i (MeantInline p cd ds s) ∷ []) (all_in (SelectionAt h i) s) j l (spread_stands (SelectionAt h i) s j l c)

  -- ---- and what stands there is referred to

  itself_refers : (s : MeantSelection Place) (j : ℕ) (l : Spread) → as_spread s ≡ Some l → number_of l.it.fragment_name es ≡ Some j → Contains (references_of es s) (j, l)
  itself_refers (MeantField p d hd s) j l e n = cc
  itself_refers (MeantSpread p m ds) j l e n =
      subst (λ (k : Spread). Contains (spread_references es k) (j, l)) (sym (same_Some (spread_of p m ds) l e))
      (subst (λ o. Contains (referred o l) (j, l)) (sym n) (Contains-first (j, l) [] (j, l) refl))
  itself_refers (MeantInline p cd ds s) j l e n = cc

  mutual
    pub stands_spread : (h : Position) (s : MeantSet Place) (x : Standing Place) (j : ℕ) (l : Spread) → Contains (all_in h s) x → as_spread x.it ≡ Some l → number_of l.it.fragment_name es ≡ Some j → Contains (references_in es s) (j, l)
    stands_spread h (meant_set t ss) x j l c e n = along h t 0 ss x j l c e n

    along : (h : Position) (t : List ℕ) (i : ℕ) (ss : MeantSelections Place) (x : Standing Place) (j : ℕ) (l : Spread) → Contains (all_from h t i ss) x → as_spread x.it ≡ Some l → number_of l.it.fragment_name es ≡ Some j → Contains (references_along es ss) (j, l)
    along h t i no_meant x j l c e n = not_in_nil x c
    along h t i (meant_then s ss) x j l c e n = elim (Contains-cons (head h t i s) (all_below (SelectionAt h i) s ++ all_from h t (suc i) ss) x c) [
      | inl same ↦ Contains-append_left (references_of es s) (references_along es ss) (j, l) (itself_refers s j l (ap (λ (y : Standing Place). as_spread y.it) same ∙ e) n)
      | inr r ↦ elim (Contains-append_cases (all_below (SelectionAt h i) s) (all_from h t (suc i) ss) x r) [
        | inl a ↦ Contains-append_left (references_of es s) (references_along es ss) (j, l) (below (SelectionAt h i) s x j l a e n)
        | inr m ↦ Contains-append_right (references_of es s) (references_along es ss) (j, l) (along h t (suc i) ss x j l m e n)
      ]
    ]

    below : (at : Position) (s : MeantSelection Place) (x : Standing Place) (j : ℕ) (l : Spread) → Contains (all_below at s) x → as_spread x.it ≡ Some l → number_of l.it.fragment_name es ≡ Some j → Contains (references_of es s) (j, l)
    below at (MeantField p d hd s) x j l c e n = stands_spread at s x j l c e n
    below at (MeantSpread p m ds) x j l c e n = not_in_nil x c
    below at (MeantInline p cd ds s) x j l c e n = stands_spread at s x j l c e n

module _ (d : MeantDocument Place) (distinct : IsDistinct bytes_eq (keys_of d.fragments)) where
  abbrev pub name_at : ℕ → Option (List ℕ)
  name_at i = option_map (λ e. e.0) (slice_get d.fragments i)

  abbrev pub number_at : List ℕ → Option ℕ
  number_at n = number_of n d.fragments

  abbrev pub said : Spread → Spread
  said l = l

  -- the fragment of a number refers so
  refers : (i j : ℕ) (n : List ℕ) (f : MeantFragment Place) (l : Spread) → slice_get d.fragments i ≡ Some (n, f) → Contains (references_in d.fragments f.set) (j, l)
      → (to : List ℕ) × ((by : Spread) × ((name_at j ≡ Some to) × (RefersBySpread d n by to × (said by ≡ said l))))
  refers i j n f l h c =
      let st : StandsBy d.fragments (all_in (InFragment n) f.set) j l = spread_stands d.fragments (InFragment n) f.set j l c in
      let g : (v : MeantFragment Place) × (slice_get d.fragments j ≡ Some (l.it.fragment_name, v)) = number_given l.it.fragment_name d.fragments j st.1.1.1 in (
        l.it.fragment_name,
        (
          l,
          (
            ap (option_map (λ (e : List ℕ × MeantFragment Place). e.0)) g.1,
            (
              (f, (under_at d.fragments distinct i n f h, (st.0, (st.1.0, (st.1.1.0, (refl, (g.0, (under_at d.fragments distinct j l.it.fragment_name g.0 g.1, tt)))))))),
              refl,
            ),
          ),
        ),
      )

  pub spread_sound : IsSoundView (references_at d.fragments) name_at number_at (RefersBySpread d) said said
  spread_sound i j l x h c = by (slice_get d.fragments i) refl h c
    where
      by : (o : Option (List ℕ × MeantFragment Place)) → slice_get d.fragments i ≡ o → option_map (λ (e : List ℕ × MeantFragment Place). e.0) o ≡ Some x
          → Contains (option_map_or (λ (e : List ℕ × MeantFragment Place). references_in d.fragments e.1.set) o []) (j, l)
          → (to : List ℕ) × ((by : Spread) × ((name_at j ≡ Some to) × (RefersBySpread d x by to × (said by ≡ said l))))
      by None e q m = cc
      by (Some y) e q m = refers i j x y.1 l (e ∙ (λ z. Some (same_Some y.0 x q z, y.1))) m

  pub spread_full : (i j : ℕ) (x y : List ℕ) (by : Spread) → number_at x ≡ Some i → RefersBySpread d x by y → number_at y ≡ Some j → Contains (targets (references_at d.fragments i)) j
  spread_full i j x y by h r k =
      let v : (v : MeantFragment Place) × (slice_get d.fragments i ≡ Some (x, v)) = number_given x d.fragments i h in
      let same : r.0 ≡ v.0 = same_Some r.0 v.0 (sym r.1.0 ∙ under_at d.fragments distinct i x v.0 v.1) in
      let goes : number_of by.it.fragment_name d.fragments ≡ Some j = ap number_at r.1.1.1.1.1.0 ∙ k in
      let there : Contains (references_in d.fragments r.0.set) (j, by) = stands_spread d.fragments (InFragment x) r.0.set r.1.1.0 j by r.1.1.1.0 r.1.1.1.1.0 goes in
      let of_it : Contains (references_in d.fragments v.0.set) (j, by) = subst (λ (g : MeantFragment Place). Contains (references_in d.fragments g.set) (j, by)) same there in
      subst (λ o. Contains (targets (option_map_or (λ (e : List ℕ × MeantFragment Place). references_in d.fragments e.1.set) o [])) j) (sym v.1) (target_there (references_in d.fragments v.0.set) j by of_it)

  pub spread_defined : (x y : List ℕ) (by : Spread) → RefersBySpread d x by y → (i : ℕ) × (number_at x ≡ Some i)
  spread_defined x y by r =
      let i : (i : ℕ) × (slice_get d.fragments i ≡ Some (x, r.0)) = under_given x d.fragments r.0 r.1.0 in
      number_there d.fragments (x, r.0) (index_given d.fragments i.0 (x, r.0) i.1)

  -- one number has one name
  pub spread_one : (a b : ℕ) (x : List ℕ) → name_at a ≡ Some x → name_at b ≡ Some x → a ≡ b
  spread_one a b x h k =
      let e : (e : List ℕ × MeantFragment Place) × ((slice_get d.fragments a ≡ Some e) × (x ≡ e.0)) = mapped_some (λ (z : List ℕ × MeantFragment Place). z.0) (slice_get d.fragments a) x h in
      let f : (f : List ℕ × MeantFragment Place) × ((slice_get d.fragments b ≡ Some f) × (x ≡ f.0)) = mapped_some (λ (z : List ℕ × MeantFragment Place). z.0) (slice_get d.fragments b) x k in
      one_number d.fragments distinct a b x e.0.1 f.0.1 (e.1.0 ∙ (λ i. Some (sym e.1.1 i, e.0.1))) (f.1.0 ∙ (λ i. Some (sym f.1.1 i, f.0.1)))
