-- A document passes a bound exactly if it does without places.
use Rattle.std.proofs.Common.{◌≡◌, ◌↔◌, ℕ, ◌<◌, List, [], ◌∷◌, ◌++◌, map, length, codes, option_to_list, refl, sym, ap, subst, ◌∙◌, Contains}
use Rattle.std.proofs.lemmas.List.{length-map}
use Rattle.spec_document.specs.MeantTree.{MeantOperation, MeantFragment, MeantDocument}
use Rattle.spec_document.specs.Unplaced.{unplaced_operation, unplaced_fragment, unplaced_document}
use Rattle.rule_cycle_search.specs.Paths.{IsWay, HasNoRepeat}
use Rattle.rule_definitions.specs.Diagnostics.{RecursionError, DeeplyNestedType}
use Rattle.rule_definitions.specs.Faults.{wrong}
use Rattle.rule_document_definitions.specs.Places.{Places}
use Rattle.rule_document_definitions.specs.Verdict.{no_places}
use Rattle.rule_document_definitions.specs.DocumentFaults.{DocumentFault, OfData, OfLimit}
use Rattle.rule_document_definitions.specs.FaultsUnplaced.{unplaced_fault}
use Rattle.rule_document_definitions.specs.Selected.{Standing, fragments, all_selections}
use Rattle.rule_document_definitions.specs.Merging.{Below, Starts}
use Rattle.rule_document_definitions.specs.Fragments.{RefersBySpread}
use Rattle.rule_document_definitions.specs.Limits.{path_bound, chain_bound, entered, PassesSpreadBound, Enters, PassesPathBound, PassesChainBound, SpreadBoundFails, PathBoundFails, ChainBoundFails, BoundFails}
use Rattle.rule_document_definitions.proofs.Unplaced.{contains_map, contains_unmap, unplaced_standing, unplaced_field, spread_same, leads_map, leads_unmap}
use Rattle.rule_document_definitions.proofs.Along.{chain_down, chain_up}
use Rattle.rule_document_definitions.proofs.MergingUnplaced.{starts_map, starts_unmap, below_map, below_unmap}
use Rattle.rule_document_definitions.proofs.Moves.{Moves, moves_fault, moves_either, moves_where, moves_among}
use Rattle.rule_document_definitions.proofs.UnplacedReached.{fragments_same, all_selections_same, moves_operation}
use Rattle.rule_document_definitions.proofs.UnplacedVariables.{HasSpans, moves_span}
use Rattle.rule_document_definitions.proofs.UnplacedFragments.{bare_spread, refers_without_places, refers_with_places}

-- one that tells faults, each as what it is without places
abbrev pub Told : {P E : Type 0} → DocumentFault P E → DocumentFault (Unit {0}) (Unit {0}) → Type 0
Told g f = f ≡ unplaced_fault g

longer : {X Y : Type 0} (u : X → Y) (n : ℕ) (xs : List X) → (n < length xs) ↔ (n < length (map u xs))
longer u n xs = (subst (λ k. n < k) (sym (length-map xs u)), subst (λ k. n < k) (length-map xs u))

-- ---- paths

module _ {P : Type 0} (d : MeantDocument P) where
  way_without_places : (x : Standing P) (path : List (Standing P)) → IsWay (Enters d) (x ∷ path) → IsWay (Enters (unplaced_document d)) (unplaced_standing x ∷ map unplaced_standing path)
  way_without_places x [] w = tt
  way_without_places x (y ∷ path) w = ((tt, leads_map d x y w.0.1), way_without_places y path w.1)

  way_with_places : (x : Standing P) (path : List (Standing (Unit {0}))) → IsWay (Enters (unplaced_document d)) (unplaced_standing x ∷ path) → (at : List (Standing P)) × (IsWay (Enters d) (x ∷ at) × (map unplaced_standing at ≡ path))
  way_with_places x [] w = ([], (tt, refl))
  way_with_places x (y ∷ path) w =
      let z = leads_unmap d x y w.0.1 in
      let r = way_with_places z.0 path (subst (λ v. IsWay (Enters (unplaced_document d)) (v ∷ path)) (sym z.1.1) w.1) in
      (z.0 ∷ r.0, (((tt, z.1.0), r.1.0), ap (λ l. unplaced_standing z.0 ∷ l) r.1.1 ∙ ap (λ v. v ∷ path) z.1.1))

  entered_same : (x : Standing P) (path : List (Standing P)) → entered (unplaced_standing x ∷ map unplaced_standing path) ≡ entered (x ∷ path)
  entered_same x [] = refl
  entered_same x (y ∷ path) = λ i. option_to_list (spread_same x.it i) ++ entered_same y path i

  passes_path : PassesPathBound d ↔ PassesPathBound (unplaced_document d)
  passes_path = (
    λ (x, (path, (c, (w, (none, long))))). (
      unplaced_standing x,
      (
        map unplaced_standing path,
        (
          subst (λ l. Contains l (unplaced_standing x)) (sym (all_selections_same d)) (contains_map unplaced_standing (all_selections d) x c),
          (
            way_without_places x path w,
            (subst HasNoRepeat (sym (entered_same x path)) none, (longer unplaced_standing path_bound (x ∷ path)).0 long),
          ),
        ),
      ),
    ),
    λ (y, (path, (c, (w, (none, long))))).
        let x = contains_unmap unplaced_standing (all_selections d) y (subst (λ l. Contains l y) (all_selections_same d) c) in
        let r = way_with_places x.0 path (subst (λ v. IsWay (Enters (unplaced_document d)) (v ∷ path)) (sym x.1.1) w) in
        let is : y ∷ path ≡ unplaced_standing x.0 ∷ map unplaced_standing r.0 = sym (ap (λ l. unplaced_standing x.0 ∷ l) r.1.1 ∙ ap (λ v. v ∷ path) x.1.1) in (
          x.0,
          (
            r.0,
            (
              x.1.0,
              (
                r.1.0,
                (
                  subst HasNoRepeat (entered_same x.0 r.0) (subst (λ l. HasNoRepeat (entered l)) is none),
                  (longer unplaced_standing path_bound (x.0 ∷ r.0)).1 (subst (λ l. path_bound < length l) is long),
                ),
              ),
            ),
          ),
        ),
  )

  -- ---- chains

  passes_chain : (o : MeantOperation P) → PassesChainBound d o ↔ PassesChainBound (unplaced_document d) (unplaced_operation o)
  passes_chain o = (
    λ (c, (chain, long)). (
      map unplaced_field c,
      (
        chain_down unplaced_field (Below d) (Below (unplaced_document d)) (below_map d) (Starts d o) (Starts (unplaced_document d) (unplaced_operation o)) (starts_map d o) c chain,
        (longer unplaced_field chain_bound c).0 long,
      ),
    ),
    λ (e, (chain, long)).
        let c = chain_up unplaced_field (Below d) (Below (unplaced_document d)) (below_unmap d) (Starts d o) (Starts (unplaced_document d) (unplaced_operation o)) (starts_unmap d o) e chain in
        (c.0, (c.1.0, (longer unplaced_field chain_bound c.0).1 (subst (λ l. chain_bound < length l) (sym c.1.1) long))),
  )

  -- ---- spreads

  spreads_same : (names : List (List ℕ)) → IsWay (RefersBySpread d) names ↔ IsWay (RefersBySpread (unplaced_document d)) names
  spreads_same [] = (λ w. w, λ w. w)
  spreads_same (n ∷ []) = (λ w. w, λ w. w)
  spreads_same (n ∷ m ∷ names) = (
    λ w. ((bare_spread w.0.0, refers_without_places d n w.0.0 m w.0.1), (spreads_same (m ∷ names)).0 w.1),
    λ w. let b = refers_with_places d n w.0.0 m w.0.1 in ((b.0, b.1.0), (spreads_same (m ∷ names)).1 w.1),
  )

  passes_spread : (f : MeantFragment P) → PassesSpreadBound d f ↔ PassesSpreadBound (unplaced_document d) (unplaced_fragment f)
  passes_spread f = (
    λ (rest, (w, more)). (rest, ((spreads_same (f.name.it ∷ rest)).0 w, more)),
    λ (rest, (w, more)). (rest, ((spreads_same (f.name.it ∷ rest)).1 w, more)),
  )

-- ---- what is told

module _ {P E : Type 0} (places : Places P) (d : MeantDocument P) where
  spread_bound_bared : HasSpans places → Moves (Told {E = E}) (SpreadBoundFails places d) (SpreadBoundFails no_places (unplaced_document d))
  spread_bound_bared spans =
      moves_among Told unplaced_fragment (Contains (fragments d)) (Contains (fragments (unplaced_document d)))
      (λ f c. subst (λ l. Contains l (unplaced_fragment f)) (sym (fragments_same d)) (contains_map unplaced_fragment (fragments d) f c))
      (λ f c. contains_unmap unplaced_fragment (fragments d) f (subst (λ l. Contains l f) (fragments_same d) c))
      _ _ (λ f c. moves_where Told (passes_spread d f)
      (moves_span Told places spans f.place f.name.place
      (λ head g. g ≡ OfData (wrong head (DeeplyNestedType f.name.it (codes "fragment"))))
      (λ y. y ≡ OfData (wrong tt (DeeplyNestedType f.name.it (codes "fragment"))))
      (λ head. moves_fault unplaced_fault (OfData (wrong head (DeeplyNestedType f.name.it (codes "fragment")))) (OfData (wrong tt (DeeplyNestedType f.name.it (codes "fragment")))) refl)))

  path_bound_bared : Moves (Told {E = E}) (PathBoundFails places d) (PathBoundFails no_places (unplaced_document d))
  path_bound_bared =
      moves_where Told (passes_path d)
      (moves_either Told
      (moves_fault unplaced_fault (OfData (wrong places.nowhere RecursionError)) (OfData (wrong tt RecursionError)) refl)
      (moves_fault unplaced_fault (OfLimit places.nowhere) (OfLimit tt) refl))

  chain_bound_bared : Moves (Told {E = E}) (ChainBoundFails places d) (ChainBoundFails no_places (unplaced_document d))
  chain_bound_bared =
      moves_operation Told d (λ o g. PassesChainBound d o × (g ≡ OfLimit o.place)) (λ o f. PassesChainBound (unplaced_document d) o × (f ≡ OfLimit o.place))
      (λ o. moves_where Told (passes_chain d o) (moves_fault unplaced_fault (OfLimit o.place) (OfLimit tt) refl))

  pub bound_bared : HasSpans places → Moves (Told {E = E}) (BoundFails places d) (BoundFails no_places (unplaced_document d))
  bound_bared spans = moves_either Told (spread_bound_bared spans) (moves_either Told path_bound_bared chain_bound_bared)

  pub path_bared : Moves (Told {E = E}) (PathBoundFails places d) (PathBoundFails no_places (unplaced_document d))
  path_bared = path_bound_bared
