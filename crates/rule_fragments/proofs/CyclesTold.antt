-- What is told of the fragments that are used is what the rules say of them.
use Rattle.std.proofs.Common.{◌≡◌, ℕ, ◌<◌, Bool, true, false, List, [], ◌∷◌, map, reverse, length, slice_get, Option, None, Some, refl, sym, ap, subst, ◌∙◌, inl, inr, arith, Contains}
use Rattle.std.specs.Prelude.{bytes_eq, nat_lt, option_and_then, if◌then◌else◌}
use Rattle.std.specs.List.{list_any}
use Rattle.std.specs.Option.{option_map}
use Rattle.std.proofs.lemmas.Bool.{le-ltb}
use Rattle.std.proofs.lemmas.List.Sums.{count_by-le-length}
use Rattle.std.proofs.lemmas.Option.{same_Some, slice_get_within}
use Rattle.graphql_names.specs.Placed.{Place}
use Rattle.graphql_names.specs.declared.node.Node.{Node}
use Rattle.document_typed_selections.specs.declared.selection.FragmentSpread.{FragmentSpread}
use Rattle.spec_document.specs.MeantTree.{MeantFragment, MeantDocument}
use Rattle.rule_definitions.specs.Diagnostics.{RecursiveFragmentDefinition}
use Rattle.rule_definitions.specs.Faults.{wrong}
use Rattle.rule_definitions.specs.PlacedFaults.{PlacedFault}
use Rattle.rule_definitions.proofs.Lists.{index_given}
use Rattle.rule_cycle_search.specs.Paths.{Leads, IsWay, HasNoRepeat}
use Rattle.rule_cycle_search.specs.declared.found.Found.{Found}
use Rattle.rule_cycle_search.specs.declared.found.Found.TheVariants.{Nothing, Cycle, Deep}
use Rattle.rule_cycle_search.specs.Graph.{RefersTo, is_first, is_other, IsCycleThrough, IsDeep}
use Rattle.rule_cycle_search.proofs.Lists.{only, Contains-first, not_in_nil}
use Rattle.rule_document_definitions.specs.Selected.{fragments}
use Rattle.rule_document_definitions.specs.Fragments.{RefersBySpread, ReachesItself}
use Rattle.rule_document_definitions.specs.DocumentFaults.{OfData}
use Rattle.rule_document_definitions.specs.Limits.{spread_bound}
use Rattle.rule_cycles.specs.Labels.{labels, along}
use Rattle.rule_cycles.specs.Telling.{TellsFound, IsOfRoot, TellsRoots}
use Rattle.rule_cycles.proofs.Entries.{number_given, under_at, one_number}
use Rattle.rule_cycles.proofs.Transport.{Goes, AreNamed, Leads-named-on, IsWay-named, HasNoRepeat-named, Leads-numbered, Leads-same, IsWay-same, count_by-none}
use Rattle.rule_fragments.specs.Used.{AreUnderOwnNames, IsUsed, AreUsed}
use Rattle.rule_fragments.specs.SpreadNumbers.{Spread, references_at}
use Rattle.rule_fragments.specs.SpreadGraph.{AreSpreadReferences}
use Rattle.rule_fragments.specs.CycleFaults.{spread_trace, IsRecursiveFault, IsDeepFault, Tells, used_at, TellsRecursive, TellsDeep}
use Rattle.rule_fragments.specs.FragmentCycles.{FragmentCyclesFail, Answers, TellsFragmentCycles}
use Rattle.rule_cycles.specs.declared.references.References.{References}
use Rattle.rule_fragments.proofs.Named.{any_among, fragment_there, used_there, own_number, used_by_name}
use Rattle.rule_fragments.proofs.SpreadBridge.{name_at, number_at, said, spread_sound, spread_full, spread_defined, spread_one}

map_itself : {X : Type 0} (xs : List X) → map (λ x. x) xs ≡ xs
map_itself [] = refl
map_itself (x ∷ xs) = ap (λ l. x ∷ l) (map_itself xs)

-- what was found is told of the fragment of the root, if only that is asked of o
pub found_same : (r : References (Node FragmentSpread)) (o q : ℕ → Option (MeantFragment Place)) (root : ℕ) (found : Found) (l : List PlacedFault) → o root ≡ q root
    → TellsFound (TellsRecursive r o) (TellsDeep r o) root found l → TellsFound (TellsRecursive r q) (TellsDeep r q) root found l
found_same r o q root Nothing l e t = t
found_same r o q root (Cycle path) l e t = subst (λ w. Tells (IsRecursiveFault (spread_trace r root path.items)) w l) e t
found_same r o q root Deep l e t = subst (λ w. Tells IsDeepFault w l) e t

module _ (d : MeantDocument Place) (own : AreUnderOwnNames d) (names : List (List ℕ)) (used : AreUsed d names) (r : References (Node FragmentSpread)) (are : AreSpreadReferences d.fragments r) where
  abbrev Walks : ℕ → ℕ → ℕ → Type 0
  Walks = Goes (references_at d.fragments) (name_at d are.distinct) (number_at d are.distinct) (RefersBySpread d) (said d are.distinct) (said d are.distinct)

  abbrev Named : List ℕ → List (List ℕ) → Type 0
  Named = AreNamed (references_at d.fragments) (name_at d are.distinct) (number_at d are.distinct) (RefersBySpread d) (said d are.distinct) (said d are.distinct)

  abbrev o : ℕ → Option (MeantFragment Place)
  o = used_at d.fragments names

  to_walk : (x by y : ℕ) → RefersTo r.graph x by y → Walks x by y
  to_walk x by y h = (subst (λ l. Contains l by) (are.graph.refers x) h.0, h.1)

  from_walk : (x by y : ℕ) → Walks x by y → RefersTo r.graph x by y
  from_walk x by y h = (subst (λ l. Contains l by) (sym (are.graph.refers x)) h.0, h.1)

  -- ---- the fragments that are used

  stands_there : (root : ℕ) (f : MeantFragment Place) → slice_get d.fragments root ≡ Some (f.name.it, f) → Contains (fragments d) f
  stands_there root f h = fragment_there d f.name.it f (under_at d.fragments are.distinct root f.name.it f h)

  used_here : (root : ℕ) (f : MeantFragment Place) → o root ≡ Some f → (slice_get d.fragments root ≡ Some (f.name.it, f)) × IsUsed d f
  used_here root f h = by (slice_get d.fragments root) refl h
    where
      test : (x : List ℕ × MeantFragment Place) (b : Bool) → slice_get d.fragments root ≡ Some x → list_any (bytes_eq x.0) names ≡ b → (if b then Some x.1 else None) ≡ Some f → (slice_get d.fragments root ≡ Some (f.name.it, f)) × IsUsed d f
      test x false at is k = cc
      test x true at is k =
          let same : x.1 ≡ f = same_Some x.1 f k in
          let name : x.0 ≡ f.name.it = own x (index_given d.fragments root x at) ∙ ap (λ (g : MeantFragment Place). g.name.it) same in
          let stands : slice_get d.fragments root ≡ Some (f.name.it, f) = at ∙ (λ z. Some (name z, same z)) in
          (stands, used_by_name d are.distinct own names used f (stands_there root f stands) ((any_among f.name.it names).0 (ap (λ n. list_any (bytes_eq n) names) (sym name) ∙ is)))

      by : (e : Option (List ℕ × MeantFragment Place)) → slice_get d.fragments root ≡ e → option_and_then (λ (x : List ℕ × MeantFragment Place). if list_any (bytes_eq x.0) names then Some x.1 else None) e ≡ Some f
          → (slice_get d.fragments root ≡ Some (f.name.it, f)) × IsUsed d f
      by None at q = cc
      by (Some x) at q = test x (list_any (bytes_eq x.0) names) at refl q

  here_used : (root : ℕ) (f : MeantFragment Place) → slice_get d.fragments root ≡ Some (f.name.it, f) → IsUsed d f → o root ≡ Some f
  here_used root f h u =
      ap (option_and_then (λ (x : List ℕ × MeantFragment Place). if list_any (bytes_eq x.0) names then Some x.1 else None)) h
      ∙ ap (λ (b : Bool). if b then Some f else None) ((any_among f.name.it names).1 ((used f.name.it).1 (f, (u, refl))))

  -- one fault of a fragment that is used
  abbrev IsOne : (MeantFragment Place → PlacedFault → Type 0) → ℕ → PlacedFault → Type 0
  IsOne Says root x = (f : MeantFragment Place) × (((slice_get d.fragments root ≡ Some (f.name.it, f)) × IsUsed d f) × Says f x)

  one_told : (Says : MeantFragment Place → PlacedFault → Type 0) (root : ℕ) (l : List PlacedFault) (x : PlacedFault) → Tells Says (o root) l → Contains l x → IsOne Says root x
  one_told Says root l x t c = by (o root) refl t
    where
      by : (w : Option (MeantFragment Place)) → o root ≡ w → Tells Says w l → IsOne Says root x
      by None e q = not_in_nil x (subst (λ (k : List PlacedFault). Contains k x) q c)
      by (Some f) e q =
          let same : x ≡ q.0 = only q.0 x (subst (λ (k : List PlacedFault). Contains k x) q.1.1 c) in
          (f, (used_here root f e, subst (Says f) (sym same) q.1.0))

  -- ---- what is told is right

  recursive_right : (root : ℕ) (path : List ℕ) (l : List PlacedFault) (x : PlacedFault) → IsCycleThrough r.graph root path → TellsRecursive r o root path l → Contains l x → FragmentCyclesFail d x
  recursive_right root path l x way tells c =
      let e : IsOne (IsRecursiveFault (spread_trace r root path)) root x = one_told (IsRecursiveFault (spread_trace r root path)) root l x tells c in
      let f : MeantFragment Place = e.0 in
      let n : List ℕ = f.name.it in
      let here : name_at d are.distinct root ≡ Some n = ap (option_map (λ (y : List ℕ × MeantFragment Place). y.0)) e.1.0.0 in
      let w : (y : List ℕ) × ((by : Spread) × ((bys : List Spread) × ((name_at d are.distinct root ≡ Some y) × (Leads (RefersBySpread d) n (by ∷ bys) y × (map (said d are.distinct) (by ∷ bys) ≡ map (said d are.distinct) (labels (references_at d.fragments) root (way.0 ∷ way.1.0))))))) =
      Leads-named-on (references_at d.fragments) (name_at d are.distinct) (number_at d are.distinct) (RefersBySpread d) (said d are.distinct) (said d are.distinct) (spread_sound d are.distinct)
      root way.0 way.1.0 root n here (Leads-same (RefersTo r.graph) Walks to_walk root (way.0 ∷ way.1.0) root way.1.1.1) in
      let same : w.0 ≡ n = same_Some w.0 n (sym w.1.1.1.0 ∙ here) in
      let bys : List Spread = w.1.0 ∷ w.1.1.0 in
      let told : spread_trace r root path ≡ reverse bys =
      (λ k. reverse (along (λ i to. are.labels i to k) root path))
      ∙ ap (λ p. reverse (labels (references_at d.fragments) root p)) way.1.1.0
      ∙ ap reverse (sym (map_itself (labels (references_at d.fragments) root (way.0 ∷ way.1.0))) ∙ sym w.1.1.1.1.1 ∙ map_itself bys) in
      let u = e.1.0.1 in
      inl (
        u.0,
        (
          u.1.0,
          (
            f,
            (
              u.1.1,
              (
                w.1.0,
                (
                  w.1.1.0,
                  (
                    subst (Leads (RefersBySpread d) n bys) same w.1.1.1.1.0,
                    (e.1.1.0, (e.1.1.1.0, e.1.1.1.1 ∙ ap (λ t. wrong f.place (RecursiveFragmentDefinition e.1.1.0 n t)) told)),
                  ),
                ),
              ),
            ),
          ),
        ),
      )

  named_length : (ns : List ℕ) (xs : List (List ℕ)) → Named ns xs → length ns ≡ length xs
  named_length [] [] a = refl
  named_length [] (x ∷ xs) a = absurd a
  named_length (n ∷ ns) [] a = absurd a
  named_length (n ∷ ns) (x ∷ xs) a = omega (arith, named_length ns xs a.1)

  -- every fragment is of the other kind
  none_first : (n : ℕ) → is_first r.graph n ≡ false
  none_first n = ap (λ k. nat_lt n k) are.graph.none_first ∙ le-ltb n 0 (omega arith)

  deep_right : (root : ℕ) (l : List PlacedFault) (x : PlacedFault) → IsDeep r.graph root → TellsDeep r o root l → Contains l x → FragmentCyclesFail d x
  deep_right root l x deep tells c =
      let e : IsOne IsDeepFault root x = one_told IsDeepFault root l x tells c in
      let f : MeantFragment Place = e.0 in
      let n : List ℕ = f.name.it in
      let here : name_at d are.distinct root ≡ Some n = ap (option_map (λ (y : List ℕ × MeantFragment Place). y.0)) e.1.0.0 in
      let w : (xs : List (List ℕ)) × (Named deep.0 xs × IsWay (RefersBySpread d) (n ∷ xs)) =
      IsWay-named (references_at d.fragments) (name_at d are.distinct) (number_at d are.distinct) (RefersBySpread d) (said d are.distinct) (said d are.distinct) (spread_sound d are.distinct)
      root deep.0 n here (IsWay-same (RefersTo r.graph) Walks to_walk (root ∷ deep.0) deep.1.0) in
      let apart : HasNoRepeat (n ∷ w.0) =
      HasNoRepeat-named (references_at d.fragments) (name_at d are.distinct) (number_at d are.distinct) (RefersBySpread d) (said d are.distinct) (said d are.distinct) (spread_one d are.distinct) (root ∷ deep.0) (n ∷ w.0) (here, w.1.0) deep.1.1.0 in
      let long : spread_bound < length (n ∷ w.0) = elim deep.1.1.1 [
        | inl few ↦ absurd (omega (arith, few, count_by-none (is_first r.graph) none_first (root ∷ deep.0)))
        | inr many ↦ omega (arith, many, are.graph.bound, count_by-le-length (is_other r.graph) (root ∷ deep.0), named_length (root ∷ deep.0) (n ∷ w.0) (here, w.1.0))
      ] in
      inr (f, (used_there d f e.1.0.1, ((w.0, (w.1.1, (apart, long))), (e.1.1.0, (e.1.1.1.0, ap (λ y. OfData y) e.1.1.1.1)))))

  root_right : (root : ℕ) (l : List PlacedFault) (x : PlacedFault) → IsOfRoot (TellsRecursive r o) (TellsDeep r o) r.graph root l → Contains l x → FragmentCyclesFail d x
  root_right root l x (inl h) c = recursive_right root h.0 l x h.1.0 h.1.1 c
  root_right root l x (inr h) c = deep_right root l x h.0 h.1 c

  -- ---- and it is full

  first_fault : (Says : MeantFragment Place → PlacedFault → Type 0) (root : ℕ) (f : MeantFragment Place) (l : List PlacedFault) → o root ≡ Some f → Tells Says (o root) l → (x : PlacedFault) × (Contains l x × Says f x)
  first_fault Says root f l e t =
      let q : (x : PlacedFault) × (Says f x × (l ≡ x ∷ [])) = subst (λ w. Tells Says w l) e t in
      (q.0, (subst (λ (k : List PlacedFault). Contains k q.0) (sym q.1.1) (Contains-first q.0 [] q.0 refl), q.1.0))

  answered : (root : ℕ) (f : MeantFragment Place) (l added : List PlacedFault) → o root ≡ Some f → IsOfRoot (TellsRecursive r o) (TellsDeep r o) r.graph root l → ((x : PlacedFault) → Contains l x → Contains added x)
      → (x : PlacedFault) × (Contains added x × Answers f x)
  answered root f l added e (inl h) sub =
      let q : (x : PlacedFault) × (Contains l x × IsRecursiveFault (spread_trace r root h.0) f x) = first_fault (IsRecursiveFault (spread_trace r root h.0)) root f l e h.1.1 in
      (q.0, (sub q.0 q.1.0, inl (q.1.1.0, (spread_trace r root h.0, q.1.1.1.1))))
  answered root f l added e (inr h) sub =
      let q : (x : PlacedFault) × (Contains l x × IsDeepFault f x) = first_fault IsDeepFault root f l e h.1 in
      (q.0, (sub q.0 q.1.0, inr (q.1.1.0, q.1.1.1.1)))

  full : (old new : List PlacedFault) (t : TellsRoots (TellsRecursive r o) (TellsDeep r o) r.graph r.graph.roots old new) (f : MeantFragment Place) → IsUsed d f → ReachesItself d f → (x : PlacedFault) × (Contains t.added x × Answers f x)
  full old new t f u cycle =
      let i : (i : ℕ) × (number_at d are.distinct f.name.it ≡ Some i) = spread_defined d are.distinct f.name.it cycle.1.1.0 cycle.0 cycle.1.1.1.0 in
      let v : (v : MeantFragment Place) × (slice_get d.fragments i.0 ≡ Some (f.name.it, v)) = number_given f.name.it d.fragments i.0 i.1 in
      let k : (k : ℕ) × (slice_get d.fragments k ≡ Some (f.name.it, f)) = own_number d are.distinct own f (used_there d f u) in
      let one : i.0 ≡ k.0 = one_number d.fragments are.distinct i.0 k.0 f.name.it v.0 f v.1 k.1 in
      let at : slice_get d.fragments i.0 ≡ Some (f.name.it, f) = ap (slice_get d.fragments) one ∙ k.1 in
      let w : (m : ℕ) × ((path : List ℕ) × Leads Walks i.0 (m ∷ path) i.0) =
      Leads-numbered (references_at d.fragments) (name_at d are.distinct) (number_at d are.distinct) (RefersBySpread d) (said d are.distinct) (said d are.distinct) (spread_full d are.distinct) (spread_defined d are.distinct)
      f.name.it cycle.0 cycle.1.0 f.name.it i.0 i.0 i.1 i.1 cycle.1.1 in
      let within : i.0 < r.graph.roots = omega (arith, slice_get_within d.fragments i.0 (f.name.it, f) at, are.graph.all_roots) in
      let heard : (l : List PlacedFault) × (IsOfRoot (TellsRecursive r o) (TellsDeep r o) r.graph i.0 l × ((x : PlacedFault) → Contains l x → Contains t.added x)) =
      t.full i.0 within (w.0 ∷ w.1.0) (w.0, (w.1.0, (refl, Leads-same Walks (RefersTo r.graph) from_walk i.0 (w.0 ∷ w.1.0) i.0 w.1.1))) in
      answered i.0 f heard.0 t.added (here_used i.0 f at u) heard.1.0 heard.1.1

  pub cycles_told : (old new : List PlacedFault) → TellsRoots (TellsRecursive r o) (TellsDeep r o) r.graph r.graph.roots old new → TellsFragmentCycles d old new
  cycles_told old new t = record {
    added = t.added;
    is = t.is;
    right = λ x c. let h : (root : ℕ) × ((l : List PlacedFault) × (IsOfRoot (TellsRecursive r o) (TellsDeep r o) r.graph root l × Contains l x)) = t.right x c in root_right h.0 h.1.0 x h.1.1.0 h.1.1.1;
    full = λ f u cycle. full old new t f u cycle;
  }
