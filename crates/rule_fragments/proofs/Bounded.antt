-- Whether selections nest too deep in a document, by a test and by the definitions.
use Rattle.std.proofs.Common.{◌≡◌, ℕ, suc, true, List, ◌∷◌, ◌++◌, inl, inr, Contains}
use Rattle.std.specs.List.{flat_map, list_any}
use Rattle.std.proofs.lemmas.List.Elements.{Contains-append_left, Contains-append_right}
use Rattle.rule_cycle_search.proofs.Lists.{not_in_nil, Contains-cons, Contains-first, given_in, index_found, index_given}
use Rattle.spec_document.specs.MeantTree.{MeantSet, meant_set, MeantSelections, no_meant, meant_then, MeantOperation, MeantFragment, MeantDocument}
use Rattle.rule_document_definitions.specs.Selected.{Position, InOperation, InFragment, SelectionAt, Standing, stand, standing_in, all_in, all_from, all_below, all_selections, operation_name, operations, fragments, own, held}
use Rattle.rule_document_definitions.specs.Limits.{path_bound, entered, PassesPathBound}
use Rattle.rule_fragments.specs.Nested.{NestsTooDeep, deeper_in, some_nests}
use Rattle.rule_selection_queries.proofs.Staying.{or_cases, or_left, or_right, any_index, index_any}
use Rattle.rule_fragments.proofs.Nested.{Path, path_in, path_deeper, way_enters, enters_none, none_again}

module _ {P : Type 0} where
  outer_from : (h : Position) (t : List ℕ) (i : ℕ) (ss : MeantSelections P) (x : Standing P) → Contains (stand h t i ss) x → Contains (all_from h t i ss) x
  outer_from h t i no_meant x c = not_in_nil x c
  outer_from h t i (meant_then s ss) x c =
      let y : Standing P = record { position = SelectionAt h i; parent = t; it = s } in
      elim (Contains-cons y (stand h t (suc i) ss) x c) [
        | inl e ↦ Contains-first y (all_below (SelectionAt h i) s ++ all_from h t (suc i) ss) x e
        | inr r ↦ Contains-append_right (y ∷ all_below (SelectionAt h i) s) (all_from h t (suc i) ss) x (outer_from h t (suc i) ss x r)
      ]

  outer : (h : Position) (s : MeantSet P) (x : Standing P) → Contains (standing_in h s) x → Contains (all_in h s) x
  outer h (meant_set t ss) x c = outer_from h t 0 ss x c

  module _ (d : MeantDocument P) where
    abbrev in_operations : List (Standing P)
    in_operations = flat_map (λ (o : MeantOperation P). all_in (InOperation (operation_name o)) o.set) (operations d)

    abbrev in_fragments : List (Standing P)
    in_fragments = flat_map (λ (f : MeantFragment P). all_in (InFragment f.name.it) f.set) (fragments d)

    of_path : (begins : Standing P → Type 0) → ((x : Standing P) → begins x → Contains (all_selections d) x) → Path d begins path_bound → PassesPathBound d
    of_path begins there p = (p.first, (p.others, (there p.first p.begun, (way_enters d p.first p.others p.way, (none_again d (entered (p.first ∷ p.others)) (enters_none d p.first p.others p.way), p.long)))))

    operation_passes : list_any (λ (o : MeantOperation P). deeper_in path_bound o.set) (operations d) ≡ true → PassesPathBound d
    operation_passes e =
        let p = any_index (λ (o : MeantOperation P). deeper_in path_bound o.set) (operations d) e in
        let o = p.1.0 in
        of_path (Contains (own o)) (λ x c. Contains-append_left in_operations in_fragments x
        (given_in (λ (o : MeantOperation P). all_in (InOperation (operation_name o)) o.set) x (operations d) o (index_given (operations d) p.0 o p.1.1.0) (outer (InOperation (operation_name o)) o.set x c)))
        (path_in d (InOperation (operation_name o)) o.set path_bound p.1.1.1)

    fragment_passes : list_any (λ (f : MeantFragment P). deeper_in path_bound f.set) (fragments d) ≡ true → PassesPathBound d
    fragment_passes e =
        let p = any_index (λ (f : MeantFragment P). deeper_in path_bound f.set) (fragments d) e in
        let f = p.1.0 in
        of_path (Contains (held f)) (λ x c. Contains-append_right in_operations in_fragments x
        (given_in (λ (f : MeantFragment P). all_in (InFragment f.name.it) f.set) x (fragments d) f (index_given (fragments d) p.0 f p.1.1.0) (outer (InFragment f.name.it) f.set x c)))
        (path_in d (InFragment f.name.it) f.set path_bound p.1.1.1)

    pub nests_passes : some_nests d ≡ true → PassesPathBound d
    nests_passes e = elim (or_cases _ _ e) [
      | inl a ↦ operation_passes a
      | inr b ↦ fragment_passes b
    ]

    pub too_deep : NestsTooDeep d → some_nests d ≡ true
    too_deep (x, (path, (inl (o, (c, b)), (w, l)))) =
        let i = index_found (operations d) o c in
        or_left _ _ (index_any (λ (o : MeantOperation P). deeper_in path_bound o.set) (operations d) i.0 o i.1 (path_deeper d (InOperation (operation_name o)) o.set x path path_bound b w l))
    too_deep (x, (path, (inr (f, (c, b)), (w, l)))) =
        let i = index_found (fragments d) f c in
        or_right _ _ (index_any (λ (f : MeantFragment P). deeper_in path_bound f.set) (fragments d) i.0 f i.1 (path_deeper d (InFragment f.name.it) f.set x path path_bound b w l))
