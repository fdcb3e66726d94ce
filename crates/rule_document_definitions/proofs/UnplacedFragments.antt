-- What rules on fragments tell of a document without places.
use Rattle.std.proofs.Common.{◌≡◌, ◌↔◌, ℕ, List, [], ◌∷◌, ◌++◌, map, reverse, refl, sym, ap, ap₂, subst, ◌∙◌, None, Some, Contains}
use Rattle.std.specs.List.{IsDistinct}
use Rattle.std.specs.Map.{keys_of}
use Rattle.std.specs.Option.{option_map}
use Rattle.std.specs.Str.{bytes_eq}
use Rattle.std.proofs.lemmas.List.{reverse-append}
use Rattle.std.proofs.lemmas.Option.{same_Some}
use Rattle.graphql_names.specs.Placed.{Placed, unplaced_text}
use Rattle.tree_directives.specs.DirectiveTree.{Arguments, Directives, unplaced_arguments, unplaced_directives}
use Rattle.spec_document.specs.MeantTree.{MeantSelection, MeantField, MeantSpread, MeantInline, MeantOperation, MeantFragment, MeantDocument}
use Rattle.spec_document.specs.Unplaced.{unplaced_meant, unplaced_operation, unplaced_fragment, unplaced_document}
use Rattle.rule_definitions.specs.Diagnostics.{SpreadTree, map_place, RecursiveFragmentDefinition}
use Rattle.rule_definitions.specs.Faults.{wrong}
use Rattle.rule_definitions.specs.Judged.{Judged}
use Rattle.rule_definitions.proofs.Lists.{mapped_some, mapped_none}
use Rattle.rule_definitions.proofs.Lookups.{under_found, under_given}
use Rattle.rule_cycle_search.specs.Paths.{Leads}
use Rattle.rule_document_definitions.specs.Places.{Places}
use Rattle.rule_document_definitions.specs.Verdict.{no_places}
use Rattle.rule_document_definitions.specs.FaultsUnplaced.{unplaced_wrong}
use Rattle.rule_document_definitions.specs.Named.{FragmentsFoundByName}
use Rattle.rule_document_definitions.specs.Selected.{InFragment, Standing, all_in, spread_name, inline_condition, selection_place, operations, fragments, fragment_named}
use Rattle.rule_document_definitions.specs.Reached.{ReachesFragment, AtOperation}
use Rattle.rule_document_definitions.specs.Fragments.{as_spread, RefersBySpread, UndefinedFragmentAt, RecursiveFragmentDefinitionAt, UnusedFragmentAt, InvalidFragmentTargetAt, InvalidFragmentSpreadAt, FragmentsBreak}
use Rattle.rule_document_definitions.proofs.Unplaced.{contains_map, contains_unmap, unplaced_standing, spread_same, fragment_same, name_same}
use Rattle.rule_document_definitions.proofs.MergingUnplaced.{twice}
use Rattle.rule_document_definitions.proofs.Moves.{same, neither, Moves, moves_among, moves_either, moves_where, moves_fault, moves_equal, moves_present}
use Rattle.rule_document_definitions.proofs.UnplacedValues.{Bared, Moved, moves_wrong}
use Rattle.rule_document_definitions.proofs.UnplacedReached.{map_append, all_held_same, operations_same, fragments_same, reaches_without_places, reaches_with_places, moves_reached, moves_reached_fragment}
use Rattle.rule_document_definitions.proofs.UnplacedVariables.{HasSpans, moves_span}

-- ---- references

reverse_map : {X Y : Type 0} (f : X → Y) (xs : List X) → reverse (map f xs) ≡ map f (reverse xs)
reverse_map f [] = refl
reverse_map f (x ∷ xs) =
    reverse-append (f x ∷ []) (map f xs)
    ∙ ap (λ l. l ++ f x ∷ []) (reverse_map f xs)
    ∙ sym (map_append f (reverse xs) (x ∷ []))
    ∙ ap (map f) (sym (reverse-append (x ∷ []) xs))

module _ {P : Type 0} where
  arguments_twice : (given : Arguments P) → unplaced_arguments (unplaced_arguments given) ≡ unplaced_arguments given
  arguments_twice [] = refl
  arguments_twice (a ∷ given) = ap₂ (λ v l. record { it = record { name = unplaced_text a.it.name; value = record { it = v; place = tt } }; place = tt } ∷ l) (twice a.it.value.it) (arguments_twice given)

  pub directives_twice : (ds : Directives P) → unplaced_directives (unplaced_directives ds) ≡ unplaced_directives ds
  directives_twice [] = refl
  directives_twice (e ∷ ds) = ap₂ (λ a l. record { it = record { name = unplaced_text e.it.name; arguments = a }; place = tt } ∷ l) (arguments_twice e.it.arguments) (directives_twice ds)

  abbrev pub bare_spread : Placed P SpreadTree → Placed (Unit {0}) SpreadTree
  bare_spread n = map_place (λ p. tt) n

  as_spread_same : (s : MeantSelection P) → as_spread (unplaced_meant s) ≡ option_map bare_spread (as_spread s)
  as_spread_same (MeantField p d h s) = refl
  as_spread_same (MeantSpread p n ds) = ap (λ l. Some (record { it = record { fragment_name = n.it; directives = l }; place = tt })) (directives_twice ds)
  as_spread_same (MeantInline p c ds s) = refl

  condition_same : (s : MeantSelection P) → inline_condition (unplaced_meant s) ≡ inline_condition s
  condition_same (MeantField p d h s) = refl
  condition_same (MeantSpread p n ds) = refl
  condition_same (MeantInline p c ds s) = name_same c

module _ {P : Type 0} (d : MeantDocument P) where
  pub refers_without_places : (n : List ℕ) (by : Placed P SpreadTree) (to : List ℕ) → RefersBySpread d n by to → RefersBySpread (unplaced_document d) n (bare_spread by) to
  refers_without_places n by to (f, (e, (x, (c, (is, (goes, (g, (k, u)))))))) = (
    unplaced_fragment f,
    (
      fragment_same d n ∙ ap (option_map unplaced_fragment) e,
      (
        unplaced_standing x,
        (
          subst (λ l. Contains l (unplaced_standing x)) (sym (all_held_same (InFragment n) f.set)) (contains_map unplaced_standing (all_in (InFragment n) f.set) x c),
          (
            as_spread_same x.it ∙ ap (option_map bare_spread) is,
            (goes, (unplaced_fragment g, (fragment_same d to ∙ ap (option_map unplaced_fragment) k, tt))),
          ),
        ),
      ),
    ),
  )

  pub refers_with_places : (n : List ℕ) (by : Placed (Unit {0}) SpreadTree) (to : List ℕ) → RefersBySpread (unplaced_document d) n by to → (at : Placed P SpreadTree) × (RefersBySpread d n at to × (bare_spread at ≡ by))
  refers_with_places n by to (f, (e, (y, (c, (is, (goes, (g, (k, u)))))))) =
      let m = mapped_some unplaced_fragment (fragment_named d n) f (sym (fragment_same d n) ∙ e) in
      let z = contains_unmap unplaced_standing (all_in (InFragment n) m.0.set) y (subst (λ l. Contains l y) (all_held_same (InFragment n) m.0.set) (subst (λ (h : MeantFragment (Unit {0})). Contains (all_in (InFragment n) h.set) y) m.1.1 c)) in
      let b = mapped_some bare_spread (as_spread z.0.it) by (sym (as_spread_same z.0.it) ∙ subst (λ (v : Standing (Unit {0})). as_spread v.it ≡ Some by) (sym z.1.1) is) in
      let q = mapped_some unplaced_fragment (fragment_named d to) g (sym (fragment_same d to) ∙ k) in
      (b.0, ((m.0, (m.1.0, (z.0, (z.1.0, (b.1.0, (sym (ap (λ (v : Placed (Unit {0}) SpreadTree). v.it.fragment_name) b.1.1) ∙ goes, (q.0, (q.1.0, tt)))))))), sym b.1.1))

  leads_without_places : (n : List ℕ) (by : List (Placed P SpreadTree)) (to : List ℕ) → Leads (RefersBySpread d) n by to → Leads (RefersBySpread (unplaced_document d)) n (map bare_spread by) to
  leads_without_places n [] to l = l
  leads_without_places n (by ∷ rest) to (z, (r, l)) = (z, (refers_without_places n by z r, leads_without_places z rest to l))

  leads_with_places : (n : List ℕ) (by : List (Placed (Unit {0}) SpreadTree)) (to : List ℕ) → Leads (RefersBySpread (unplaced_document d)) n by to
      → (at : List (Placed P SpreadTree)) × (Leads (RefersBySpread d) n at to × (map bare_spread at ≡ by))
  leads_with_places n [] to l = ([], (l, refl))
  leads_with_places n (by ∷ rest) to (z, (r, l)) =
      let b = refers_with_places n by z r in
      let q = leads_with_places z rest to l in
      (b.0 ∷ q.0, ((z, (b.1.0, q.1.0)), ap₂ (λ x xs. x ∷ xs) b.1.1 q.1.1))

  -- of a way of spreads that has one at the least
  moves_way : {A B : Type 0} (Is : A → B → Type 0) (n : List ℕ) (R : List (Placed P SpreadTree) → A → Type 0) (S : List (Placed (Unit {0}) SpreadTree) → B → Type 0)
      → ((way : List (Placed P SpreadTree)) → Moves Is (R way) (S (map bare_spread way)))
      → Moves Is (λ g. (by : Placed P SpreadTree) × ((rest : List (Placed P SpreadTree)) × (Leads (RefersBySpread d) n (by ∷ rest) n × R (by ∷ rest) g)))
      (λ f. (by : Placed (Unit {0}) SpreadTree) × ((rest : List (Placed (Unit {0}) SpreadTree)) × (Leads (RefersBySpread (unplaced_document d)) n (by ∷ rest) n × S (by ∷ rest) f)))
  moves_way Is n R S each f = (
    λ h.
        let z = h.1.1.0.0 in
        let b = refers_with_places n h.0 z h.1.1.0.1.0 in
        let q = leads_with_places z h.1.0 n h.1.1.0.1.1 in
        let r = (each (b.0 ∷ q.0) f).0 (subst (λ xs. S (bare_spread b.0 ∷ xs) f) (sym q.1.1) (subst (λ x. S (x ∷ h.1.0) f) (sym b.1.1) h.1.1.1)) in
        (r.0, ((b.0, (q.0, ((z, (b.1.0, q.1.0)), r.1.0))), r.1.1)),
    λ q.
        let way = q.1.0 in
        (bare_spread way.0, (map bare_spread way.1.0, (leads_without_places n (way.0 ∷ way.1.0) n way.1.1.0, (each (way.0 ∷ way.1.0) f).1 (q.0, (way.1.1.1, q.1.1))))),
  )

  -- ---- what is looked up

  none_same : (n : List ℕ) → (fragment_named d n ≡ None) ↔ (fragment_named (unplaced_document d) n ≡ None)
  none_same n = (λ h. fragment_same d n ∙ ap (option_map unplaced_fragment) h, λ h. mapped_none unplaced_fragment (fragment_named d n) (sym (fragment_same d n) ∙ h))

  pub held_if_named : (n : List ℕ) (f : MeantFragment P) → fragment_named d n ≡ Some f → Contains (fragments d) f
  held_if_named n f e = contains_map (λ (x : List ℕ × MeantFragment P). x.1) d.fragments (n, f) (under_given n d.fragments f e)

  -- fragments that stand under their own names, no two under one, are found under them
  pub named_if_own : IsDistinct bytes_eq (keys_of d.fragments) → ((e : List ℕ × MeantFragment P) → Contains d.fragments e → e.0 ≡ e.1.name.it) → FragmentsFoundByName d
  named_if_own distinct own f c =
      let e = contains_unmap (λ (x : List ℕ × MeantFragment P). x.1) d.fragments f c in
      let found = under_found d.fragments distinct e.0 e.1.0 in
      subst (λ (g : MeantFragment P). fragment_named d g.name.it ≡ Some g) e.1.1 (subst (λ n. fragment_named d n ≡ Some e.0.1) (own e.0 e.1.0) found)

  -- two that are equal without places are one
  pub one_of_name : FragmentsFoundByName d → (f g : MeantFragment P) → Contains (fragments d) f → Contains (fragments d) g → f.name.it ≡ g.name.it → f ≡ g
  one_of_name named f g c k e = same_Some _ _ (sym (named f c) ∙ ap (fragment_named d) e ∙ named g k)

  reached_same : FragmentsFoundByName d → (f : MeantFragment P) → Contains (fragments d) f → AtOperation d (λ o. ReachesFragment d o f) ↔ AtOperation (unplaced_document d) (λ o. ReachesFragment (unplaced_document d) o (unplaced_fragment f))
  reached_same named f c = (
    λ h. (unplaced_operation h.0, (subst (λ l. Contains l (unplaced_operation h.0)) (sym (operations_same d)) (contains_map unplaced_operation (operations d) h.0 h.1.0), reaches_without_places d h.0 f h.1.1)),
    λ h.
        let o = contains_unmap unplaced_operation (operations d) h.0 (subst (λ l. Contains l h.0) (operations_same d) h.1.0) in
        let g = reaches_with_places d o.0 (unplaced_fragment f) (subst (λ v. ReachesFragment (unplaced_document d) v (unplaced_fragment f)) (sym o.1.1) h.1.1) in
        let spread = g.1.0.1.1 in
        let one : g.0 ≡ f = one_of_name named g.0 f (held_if_named spread.0 g.0 spread.1.1) c (ap (λ (v : MeantFragment (Unit {0})). v.name.it) g.1.1) in
        (o.0, (o.1.0, subst (ReachesFragment d o.0) one g.1.0)),
  )

-- ---- rules

module _ {P E : Type 0} (places : Places P) (d : MeantDocument P) where
  pub unused_fragment_bared : FragmentsFoundByName d → Moved {E = E} (UnusedFragmentAt d) (UnusedFragmentAt (unplaced_document d))
  unused_fragment_bared named =
      moves_among Bared unplaced_fragment (Contains (fragments d)) (Contains (fragments (unplaced_document d)))
      (λ f c. subst (λ l. Contains l (unplaced_fragment f)) (sym (fragments_same d)) (contains_map unplaced_fragment (fragments d) f c))
      (λ f c. contains_unmap unplaced_fragment (fragments d) f (subst (λ l. Contains l f) (fragments_same d) c))
      _ _ (λ f c. moves_where Bared (neither (reached_same d named f c)) (moves_wrong f.place _))

  module _ (o : MeantOperation P) where
    pub undefined_fragment_bared : Moved {E = E} (λ g. UndefinedFragmentAt d g o) (λ f. UndefinedFragmentAt (unplaced_document d) f (unplaced_operation o))
    undefined_fragment_bared =
        moves_reached Bared d o _ _ (λ x.
        moves_equal Bared (spread_name x.it) (spread_name (unplaced_meant x.it)) (spread_same x.it) _ _ (λ n.
        moves_where Bared (none_same d n) (moves_wrong (selection_place x.it) _)))

    pub recursive_fragment_bared : HasSpans places → Moved {E = E} (λ g. RecursiveFragmentDefinitionAt d g places o) (λ f. RecursiveFragmentDefinitionAt (unplaced_document d) f no_places (unplaced_operation o))
    recursive_fragment_bared spans =
        moves_reached_fragment Bared d o _ _ (λ f.
        moves_way d Bared f.name.it
        (λ way g. (head : P) × (places.Spans f.place f.name.place head × (g ≡ wrong f.place (RecursiveFragmentDefinition head f.name.it (reverse way)))))
        (λ way y. (head : Unit {0}) × (Unit {0} × (y ≡ wrong tt (RecursiveFragmentDefinition head f.name.it (reverse way)))))
        (λ way. moves_span Bared places spans f.place f.name.place
        (λ head g. g ≡ wrong f.place (RecursiveFragmentDefinition head f.name.it (reverse way)))
        (λ y. y ≡ wrong tt (RecursiveFragmentDefinition tt f.name.it (reverse (map bare_spread way))))
        (λ head. moves_fault unplaced_wrong (wrong f.place (RecursiveFragmentDefinition head f.name.it (reverse way))) (wrong tt (RecursiveFragmentDefinition tt f.name.it (reverse (map bare_spread way))))
        (ap (λ l. wrong tt (RecursiveFragmentDefinition tt f.name.it l)) (sym (reverse_map bare_spread way))))))

    module _ (s : Judged) where
      fragment_target_bared : Moved {E = E} (InvalidFragmentTargetAt s d o) (InvalidFragmentTargetAt s (unplaced_document d) (unplaced_operation o))
      fragment_target_bared =
          moves_either Bared
          (moves_reached_fragment Bared d o _ _ (λ f. moves_where Bared same (moves_wrong f.place _)))
          (moves_reached Bared d o _ _ (λ x.
          moves_equal Bared (inline_condition x.it) (inline_condition (unplaced_meant x.it)) (condition_same x.it) _ _ (λ c.
          moves_where Bared same (moves_wrong (selection_place x.it) _))))

      fragment_spread_bared : Moved {E = E} (λ g. InvalidFragmentSpreadAt s d o g places) (λ f. InvalidFragmentSpreadAt s (unplaced_document d) (unplaced_operation o) f no_places)
      fragment_spread_bared =
          moves_reached Bared d o _ _ (λ x.
          moves_either Bared
          (moves_equal Bared (spread_name x.it) (spread_name (unplaced_meant x.it)) (spread_same x.it) _ _ (λ n.
          moves_present Bared unplaced_fragment (fragment_named d n) (fragment_named (unplaced_document d) n) (fragment_same d n) _ _ (λ f.
          moves_where Bared same (moves_wrong (selection_place x.it) _))))
          (moves_equal Bared (inline_condition x.it) (inline_condition (unplaced_meant x.it)) (condition_same x.it) _ _ (λ c.
          moves_where Bared same (moves_wrong (selection_place x.it) _))))

      pub fragments_bared : HasSpans places → Moved {E = E} (FragmentsBreak places s d o) (FragmentsBreak no_places s (unplaced_document d) (unplaced_operation o))
      fragments_bared spans =
          moves_either Bared undefined_fragment_bared
          (moves_either Bared (recursive_fragment_bared spans)
          (moves_either Bared fragment_target_bared fragment_spread_bared))
