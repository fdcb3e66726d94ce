-- What a walk lends of the root of an operation are the selections at its root, each once.
use Rattle.std.proofs.Common.{◌≡◌, ◌++◌, ℕ, Bool, true, false, List, [], ◌∷◌, Option, None, Some, map, find, refl, sym, ap, subst, ◌∙◌, inl, inr, true≢false, is_some, Contains}
use Rattle.std.specs.Prelude.{if◌then◌else◌}
use Rattle.std.specs.List.{flat_map, IsDistinct, AllByRecursion}
use Rattle.std.specs.Option.{option_map_or}
use Rattle.std.specs.Str.{bytes_eq}
use Rattle.std.proofs.lemmas.Option.{same_Some}
use Rattle.std.proofs.lemmas.List.{map-append}
use Rattle.std.proofs.lemmas.List.Elements.{Contains-append_right}
use Rattle.std.proofs.lemmas.Slice.Eq.{bytes_eq-Decides}
use Rattle.std.proofs.lemmas.Map.Keys.{IsDistinct-head, IsDistinct-tail}
use Rattle.rule_cycle_search.proofs.Lists.{not_in_nil, Contains-cons, only, found_in, given_in, Contains-first, mapped_some}
use Rattle.document_typed_selections.specs.TypedTree.{TypedSelection, TypedField, TypedSpread, TypedInline, TypedSet, typed_set, TypedSelections, no_typed, typed_then}
use Rattle.document_typed_operations.specs.TypedDocument.{TypedDocumentTree}
use Rattle.spec_document.specs.MeantTree.{MeantSelection, MeantSet, MeantOperation, MeantFragment, MeantDocument, meant, meant_of_set, meant_of_all}
use Rattle.rule_selection_queries.specs.in_reach.in_typed_operations.DocumentView.{meant_document}
use Rattle.document_typed_operations.specs.Reached.{NamedSet, Member, document_fragments, selections_of, selections_in, selections_along, members_in, spread_names, ReachedFragment, by_start, by_fragment, IsMemberWalk, fragment_named as named_set_of}
use Rattle.document_typed_operations.proofs.Passing.{bare_in}
use Rattle.rule_document_definitions.specs.Selected.{Position, InOperation, InFragment, Standing, spread_name, operation_name, fragment_named, own}
use Rattle.rule_document_definitions.specs.Reached.{first, next, AtRoot}
use Rattle.rule_fragments.specs.Used.{AreUnderOwnNames}
use Rattle.rule_selection_queries.specs.Inside.{contents_in, contents_along, contents_of, inside, inside_fragment, located, ReachesBy}
use Rattle.rule_selection_queries.specs.Stays.{all_stay}
use Rattle.rule_fragments.specs.Rooted.{Apart, AreRoots}
use Rattle.rule_selection_queries.proofs.Inside.{contents_inside}
use Rattle.rule_selection_queries.proofs.Mapped.{mapped_in, in_mapped}
use Rattle.rule_fragments.proofs.Positions.{apart_append, apart_in, top, top_in}
use Rattle.rule_selection_queries.proofs.Lookups.{found_name, find_passes, find_in, walk_finds, rules_find, is_name}
use Rattle.rule_selection_queries.proofs.Closing.{own_reached, held_reached, located_cases, located_reached, reached_located}

-- a fragment that stands under its own name
pub own_name : {P : Type 0} (d : MeantDocument P) (n : List ℕ) (f : MeantFragment P) → AreUnderOwnNames d → fragment_named d n ≡ Some f → n ≡ f.name.it
own_name {P} d n f own h =
    let e = mapped_some (λ (e : List ℕ × MeantFragment P). e.1) (find (λ (e : List ℕ × MeantFragment P). bytes_eq n e.0) d.fragments) f h in
    is_name n e.0.0 (find_passes (λ (x : List ℕ × MeantFragment P). bytes_eq n x.0) d.fragments e.0 e.1.0)
    ∙ own e.0 (find_in (λ (x : List ℕ × MeantFragment P). bytes_eq n x.0) d.fragments e.0 e.1.0)
    ∙ sym (ap (λ (f : MeantFragment P). f.name.it) e.1.1)

map-map : {A B C : Type 0} (f : B → C) (g : A → B) (xs : List A) → map f (map g xs) ≡ map (λ x. f (g x)) xs
map-map f g [] = refl
map-map f g (x ∷ xs) = ap (λ l. f (g x) ∷ l) (map-map f g xs)

each_of : {X : Type 0} (Q : X → Type 0) (xs : List X) → AllByRecursion Q xs → (x : X) → Contains xs x → Q x
each_of Q [] all x c = not_in_nil x c
each_of Q (y ∷ xs) all x c = elim (Contains-cons y xs x c) [
  | inl e ↦ subst Q e all.0
  | inr r ↦ each_of Q xs all.1 x r
]

-- ---- the selections of a set, as walks have them

module _ {P : Type 0} (nested : Bool) where
  with_inner : (b : Bool) (s : TypedSet P) → map meant (selections_in nested s) ≡ contents_in nested all_stay (meant_of_set s) → map meant (if b then selections_in nested s else []) ≡ (if b then contents_in nested all_stay (meant_of_set s) else [])
  with_inner true s e = e
  with_inner false s e = refl

  mutual
    pub selections_contents : (s : TypedSet P) → map meant (selections_in nested s) ≡ contents_in nested all_stay (meant_of_set s)
    selections_contents (typed_set ty ss) = along_contents ss

    along_contents : (ss : TypedSelections P) → map meant (selections_along nested ss) ≡ contents_along nested all_stay (meant_of_all ss)
    along_contents no_typed = refl
    along_contents (typed_then s ss) = map-append meant (selections_of nested s) (selections_along nested ss) ∙ (λ k. one_contents s k ++ along_contents ss k)

    one_contents : (s : TypedSelection P) → map meant (selections_of nested s) ≡ contents_of nested all_stay (meant s)
    one_contents (TypedField p d h s) = ap (λ l. meant (TypedField p d h s) ∷ l) (with_inner nested s (selections_contents s))
    one_contents (TypedSpread p n ds) = refl
    one_contents (TypedInline p c ds s) = ap (λ l. meant (TypedInline p c ds s) ∷ l) (selections_contents s)

  pub members_contents : (s : TypedSet P) → map (λ (e : Member P). meant e.1) (members_in nested s) ≡ contents_in nested all_stay (meant_of_set s)
  members_contents s = sym (map-map meant (λ (e : Member P). e.1) (members_in nested s)) ∙ ap (map meant) (bare_in nested s) ∙ selections_contents s

-- the name that a spread has
pub spreads_name : {P : Type 0} (s : TypedSelection P) (n : List ℕ) → Contains (spread_names s) n → spread_name (meant s) ≡ Some n
spreads_name (TypedField p d h s) n c = not_in_nil n c
spreads_name (TypedSpread p m ds) n c = ap Some (sym (only m.it n c))
spreads_name (TypedInline p c' ds s) n c = not_in_nil n c

pub name_spread : {P : Type 0} (s : TypedSelection P) (n : List ℕ) → spread_name (meant s) ≡ Some n → Contains (spread_names s) n
name_spread (TypedField p d h s) n e = absurd (true≢false (sym (ap is_some e)))
name_spread (TypedSpread p m ds) n e = Contains-first m.it [] n (same_Some _ _ e)
name_spread (TypedInline p c' ds s) n e = absurd (true≢false (sym (ap is_some e)))

-- ---- a walk

module _ {P : Type 0} (t : TypedDocumentTree P) (o : MeantOperation P) (start : TypedSet P) (is : o.set ≡ meant_of_set start)
    (given : List (Member P)) (walk : IsMemberWalk false (document_fragments t) start given) where
  abbrev d : MeantDocument P
  d = meant_document t

  abbrev names : List (List ℕ)
  names = map (λ f. f.0) walk.order

  abbrev Reaches : Standing P → Type 0
  Reaches = ReachesBy false all_stay d o

  root_is : (x : Standing P) → Contains (inside false all_stay (InOperation (operation_name o)) o.set) x → (s : TypedSelection P) × (Contains (selections_in false start) s × (meant s ≡ x.it))
  root_is x c = mapped_in meant (selections_in false start) x.it
      (subst (λ l. Contains l x.it) (contents_inside false all_stay (InOperation (operation_name o)) o.set ∙ ap (contents_in false all_stay) is ∙ sym (selections_contents false start))
      (in_mapped (λ (x : Standing P). x.it) (inside false all_stay (InOperation (operation_name o)) o.set) x c))

  -- what a typed set selects is in the set that it means
  stands : (h : Position) (m : MeantSet P) (u : TypedSet P) → m ≡ meant_of_set u → (s : TypedSelection P) → Contains (selections_in false u) s → (x : Standing P) × (Contains (inside false all_stay h m) x × (x.it ≡ meant s))
  stands h m u e s c = mapped_in (λ (x : Standing P). x.it) (inside false all_stay h m) (meant s)
      (subst (λ l. Contains l (meant s)) (selections_contents false u ∙ ap (contents_in false all_stay) (sym e) ∙ sym (contents_inside false all_stay h m)) (in_mapped meant (selections_in false u) s c))

  stands_for : (h : Position) (m : MeantSet P) (u : TypedSet P) → m ≡ meant_of_set u → (x : Standing P) → Contains (inside false all_stay h m) x → (s : TypedSelection P) × (Contains (selections_in false u) s × (meant s ≡ x.it))
  stands_for h m u e x c = mapped_in meant (selections_in false u) x.it
      (subst (λ l. Contains l x.it) (contents_inside false all_stay h m ∙ ap (contents_in false all_stay) e ∙ sym (selections_contents false u)) (in_mapped (λ (x : Standing P). x.it) (inside false all_stay h m) x c))

  -- a fragment that is reached is found under its name
  found : (g : NamedSet P) → ReachedFragment false (document_fragments t) start g → named_set_of (document_fragments t) g.0 ≡ Some g
  found g (by_start n sp e) = subst (λ m. named_set_of (document_fragments t) m ≡ Some g) (found_name (document_fragments t) n g e) e
  found g (by_fragment h n r sp e) = subst (λ m. named_set_of (document_fragments t) m ≡ Some g) (found_name (document_fragments t) n g e) e

  spread_by : (g : NamedSet P) → ReachedFragment false (document_fragments t) start g → (z : Standing P) × (Reaches z × (spread_name z.it ≡ Some g.0))
  spread_by g (by_start n sp e) =
      let s = found_in spread_names n (selections_in false start) sp in
      let x = stands (InOperation (operation_name o)) o.set start is s.0 s.1.0 in
      (x.0, ((own_reached false all_stay d o x.0 x.1.0).0, ap spread_name x.1.1 ∙ spreads_name s.0 n s.1.1 ∙ ap Some (found_name (document_fragments t) n g e)))
  spread_by g (by_fragment h n r sp e) =
      let z = spread_by h r in
      let f = rules_find t h.0 h (found h r) in
      let s = found_in spread_names n (selections_in false h.1) sp in
      let x = stands (InFragment f.0.name.it) f.0.set h.1 f.1.1 s.0 s.1.0 in
      (x.0, ((held_reached false all_stay d o z.0 h.0 f.0 z.1.0 z.1.1 f.1.0 x.0 x.1.0).0, ap spread_name x.1.1 ∙ spreads_name s.0 n s.1.1 ∙ ap Some (found_name (document_fragments t) n g e)))

  in_order : (n : List ℕ) → Contains names n → (g : NamedSet P) × (ReachedFragment false (document_fragments t) start g × (g.0 ≡ n))
  in_order n c = let p = mapped_in (λ (f : NamedSet P). f.0) walk.order n c in (p.0, ((walk.reached p.0).0 p.1.0, p.1.1))

  are_spread : (n : List ℕ) → Contains names n → (z : Standing P) × (Reaches z × (spread_name z.it ≡ Some n))
  are_spread n c =
      let g = in_order n c in
      let z = spread_by g.0 g.1.0 in
      (z.0, (z.1.0, z.1.1 ∙ ap Some g.1.1))

  named : (g : NamedSet P) (n : List ℕ) → g.0 ≡ n → ReachedFragment false (document_fragments t) start g → Contains names n
  named g n e r = subst (Contains names) e (in_mapped (λ (f : NamedSet P). f.0) walk.order g ((walk.reached g).1 r))

  are_closed : (x : Standing P) → Contains (located false all_stay d o names) x → (n : List ℕ) (f : MeantFragment P) → spread_name x.it ≡ Some n → fragment_named d n ≡ Some f → Contains names n
  are_closed x c n f sp e =
      let g = walk_finds t n f e in
      elim (located_cases false all_stay d o names x c) [
        | inl a ↦
            let s = stands_for (InOperation (operation_name o)) o.set start is x a in
            named g.0 n g.1.1.0 (by_start n (given_in spread_names n (selections_in false start) s.0 s.1.0 (name_spread s.0 n (ap spread_name s.1.1 ∙ sp))) g.1.0)
        | inr (m, (cm, (f', (e', b)))) ↦
            let h = in_order m cm in
            let k = walk_finds t m f' e' in
            let same : k.0 ≡ h.0 = same_Some _ _ (sym k.1.0 ∙ ap (named_set_of (document_fragments t)) (sym h.1.1) ∙ found h.0 h.1.0) in
            let s = stands_for (InFragment f'.name.it) f'.set h.0.1 (k.1.1.1 ∙ ap (λ (g : NamedSet P). meant_of_set g.1) same) x b in
            named g.0 n g.1.1.0 (by_fragment h.0 n h.1.0 (given_in spread_names n (selections_in false h.0.1) s.0 s.1.0 (name_spread s.0 n (ap spread_name s.1.1 ∙ sp))) g.1.0)
      ]

  -- ---- the same selections

  abbrev its : List (Standing P) → List (MeantSelection P)
  its xs = map (λ x. x.it) xs

  abbrev meant_all : List (Member P) → List (MeantSelection P)
  meant_all es = map (λ e. meant e.1) es

  fragment_same : (g : NamedSet P) → ReachedFragment false (document_fragments t) start g → its (inside_fragment false all_stay d o g.0) ≡ meant_all (members_in false g.1)
  fragment_same g r =
      let f = rules_find t g.0 g (found g r) in
      ap (λ q. its (option_map_or (λ (f : MeantFragment P). inside false all_stay (InFragment f.name.it) f.set) q [])) f.1.0
      ∙ contents_inside false all_stay (InFragment f.0.name.it) f.0.set
      ∙ ap (contents_in false all_stay) f.1.1
      ∙ sym (members_contents false g.1)

  fragments_same : (gs : List (NamedSet P)) → ((g : NamedSet P) → Contains gs g → ReachedFragment false (document_fragments t) start g)
      → its (flat_map (inside_fragment false all_stay d o) (map (λ g. g.0) gs)) ≡ meant_all (flat_map (λ (g : NamedSet P). members_in false g.1) gs)
  fragments_same [] reached = refl
  fragments_same (g ∷ gs) reached =
      map-append (λ (x : Standing P). x.it) (inside_fragment false all_stay d o g.0) (flat_map (inside_fragment false all_stay d o) (map (λ (g : NamedSet P). g.0) gs))
      ∙ (λ k. fragment_same g (reached g (Contains-first g gs g refl)) k ++ fragments_same gs (λ h c. reached h (Contains-append_right (g ∷ []) gs h c)) k)
      ∙ sym (map-append (λ (e : Member P). meant e.1) (members_in false g.1) (flat_map (λ (g : NamedSet P). members_in false g.1) gs))

  same : its (located false all_stay d o names) ≡ meant_all given
  same =
      map-append (λ (x : Standing P). x.it) (inside false all_stay (InOperation (operation_name o)) o.set) (flat_map (inside_fragment false all_stay d o) names)
      ∙ (λ k. (contents_inside false all_stay (InOperation (operation_name o)) o.set ∙ ap (contents_in false all_stay) is ∙ sym (members_contents false start)) k
      ++ fragments_same walk.order (λ g c. (walk.reached g).0 c) k)
      ∙ sym (map-append (λ (e : Member P). meant e.1) (members_in false start) (flat_map (λ (g : NamedSet P). members_in false g.1) walk.order))
      ∙ ap meant_all (sym walk.members)

  -- ---- at the root

  at_root : (x : Standing P) → Reaches x → AtRoot d o x
  at_root x (first c) = first c.0
  at_root y (next {x} r (inl p, k)) = absurd (true≢false (sym p.0))
  at_root y (next {x} r (inr p, k)) = next (at_root x r) p

  from_root : (x : Standing P) → AtRoot d o x → Reaches x
  from_root x (first c) = first (c, refl)
  from_root y (next {x} r p) = next (from_root x r) (inr p, refl)

  -- ---- each once

  abbrev places : List (Standing P) → List Position
  places xs = map (λ x. x.position) xs

  module _ (own : AreUnderOwnNames d) where
    top_named : (n : List ℕ) (x : Standing P) → Contains (inside_fragment false all_stay d o n) x → top x.position ≡ InFragment n
    top_named n x c = by (fragment_named d n) refl c
      where
        by : (q : Option (MeantFragment P)) → fragment_named d n ≡ q → Contains (option_map_or (λ (f : MeantFragment P). inside false all_stay (InFragment f.name.it) f.set) q []) x → top x.position ≡ InFragment n
        by None e c = not_in_nil x c
        by (Some f) e c = top_in false all_stay (InFragment f.name.it) f.set x c ∙ ap InFragment (sym (own_name d n f own e))

    apart_named : (n : List ℕ) → Apart (places (inside_fragment false all_stay d o n))
    apart_named n = by (fragment_named d n)
      where
        by : (q : Option (MeantFragment P)) → Apart (places (option_map_or (λ (f : MeantFragment P). inside false all_stay (InFragment f.name.it) f.set) q []))
        by None = tt
        by (Some f) = apart_in false all_stay (InFragment f.name.it) f.set

    top_among : (ns : List (List ℕ)) (z : Position) → Contains (places (flat_map (inside_fragment false all_stay d o) ns)) z → (m : List ℕ) × (Contains ns m × (top z ≡ InFragment m))
    top_among ns z c =
        let x = mapped_in (λ (x : Standing P). x.position) (flat_map (inside_fragment false all_stay d o) ns) z c in
        let m = found_in (inside_fragment false all_stay d o) x.0 ns x.1.0 in
        (m.0, (m.1.0, sym (ap top x.1.1) ∙ top_named m.0 x.0 m.1.1))

    apart_fragments : (ns : List (List ℕ)) → IsDistinct bytes_eq ns → Apart (places (flat_map (inside_fragment false all_stay d o) ns))
    apart_fragments [] once = tt
    apart_fragments (n ∷ ns) once =
        subst Apart (sym (map-append (λ (x : Standing P). x.position) (inside_fragment false all_stay d o n) (flat_map (inside_fragment false all_stay d o) ns)))
        (apart_append (places (inside_fragment false all_stay d o n)) (places (flat_map (inside_fragment false all_stay d o) ns)) (apart_named n) (apart_fragments ns (IsDistinct-tail bytes_eq n ns once))
        (λ z c e.
        let x = mapped_in (λ (x : Standing P). x.position) (inside_fragment false all_stay d o n) z c in
        let m = top_among ns z e in
        let both : InFragment n ≡ InFragment m.0 = sym (top_named n x.0 x.1.0) ∙ ap top x.1.1 ∙ m.1.1 in
        let one : n ≡ m.0 = cc in
        not_again n ns once (subst (Contains ns) (sym one) m.1.0)))
      where
        not_again : (n : List ℕ) (ns : List (List ℕ)) → IsDistinct bytes_eq (n ∷ ns) → Contains ns n → ⊥
        not_again n ns once c = true≢false (sym ((bytes_eq-Decides n n).1 refl) ∙ each_of (λ m. bytes_eq n m ≡ false) ns (IsDistinct-head bytes_eq n ns once) n c)

    apart : Apart (places (located false all_stay d o names))
    apart =
        subst Apart (sym (map-append (λ (x : Standing P). x.position) (inside false all_stay (InOperation (operation_name o)) o.set) (flat_map (inside_fragment false all_stay d o) names)))
        (apart_append (places (inside false all_stay (InOperation (operation_name o)) o.set)) (places (flat_map (inside_fragment false all_stay d o) names))
        (apart_in false all_stay (InOperation (operation_name o)) o.set) (apart_fragments names walk.once)
        (λ z c e.
        let x = mapped_in (λ (x : Standing P). x.position) (inside false all_stay (InOperation (operation_name o)) o.set) z c in
        let m = top_among names z e in
        let both : InOperation (operation_name o) ≡ InFragment m.0 = sym (top_in false all_stay (InOperation (operation_name o)) o.set x.0 x.1.0) ∙ ap top x.1.1 ∙ m.1.1 in
        cc))

  pub roots : (ss : List (MeantSelection P)) → ss ≡ meant_all given → AreRoots d o ss
  roots ss e = (
    located false all_stay d o names,
    (
      same ∙ sym e,
      (
        (λ x. (
          (λ c. at_root x (located_reached false all_stay d o names are_spread x c).0),
          (λ r. reached_located false all_stay d o names are_closed x (from_root x r)),
        )),
        apart,
      ),
    ),
  )
