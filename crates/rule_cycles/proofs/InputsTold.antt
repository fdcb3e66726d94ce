-- What is told of input objects is what the rules say of them.
use Rattle.std.proofs.Common.{◌≡◌, ℕ, ◌<◌, false, List, [], ◌∷◌, ◌++◌, map, reverse, length, slice_get, codes, Option, None, Some, refl, sym, ap, subst, ◌∙◌, inl, inr, arith}
use Rattle.std.specs.Prelude.{Contains, nat_lt}
use Rattle.std.specs.Option.{option_map, option_map_or}
use Rattle.std.proofs.lemmas.Bool.{le-ltb}
use Rattle.std.proofs.lemmas.List.{map-append, reverse-append}
use Rattle.std.proofs.lemmas.List.Sums.{count_by-le-length}
use Rattle.std.proofs.lemmas.Option.{same_Some, slice_get_within}
use Rattle.graphql_names.specs.Placed.{Place}
use Rattle.tree_directives.specs.DirectiveTree.{InputValueTree}
use Rattle.schema_types.specs.SchemaTree.{SchemaType, SchemaTree}
use Rattle.schema_types.specs.Addresses.{TypeAt, or_nothing, place_at}
use Rattle.fault_data.specs.in_rule_definitions.Diagnostics.{RecursiveInputObjectDefinition, DeeplyNestedType}
use Rattle.fault_data.specs.in_rule_definitions.Faults.{wrong}
use Rattle.fault_data.specs.in_rule_definitions.Spots.{At}
use Rattle.fault_data.specs.in_rule_definitions.Judged.{judged}
use Rattle.fault_data.specs.in_rule_definitions.Cycles.{Referring, RefersToInput, reference_bound}
use Rattle.rule_cycle_search.specs.Paths.{Leads, IsWay, HasNoRepeat}
use Rattle.schema_types.specs.Distinct.{AreAllDistinct}
use Rattle.rule_cycle_search.specs.declared.graph.Graph.{Graph}
use Rattle.rule_cycle_search.specs.Graph.{RefersTo, is_first, is_other, IsCycleThrough, IsDeep}
use Rattle.rule_cycles.specs.Labels.{labels}
use Rattle.rule_cycles.specs.InputGraph.{IsInputGraph}
use Rattle.rule_cycles.specs.FaultLists.{recursive_input_object_definition, deeply_nested_input_object, TellsInput, TellsDeepInput}
use Rattle.rule_cycles.specs.Telling.{IsOfRoot, TellsRoots}
use Rattle.fault_data.specs.in_rule_definitions.PlacedFaults.{PlacedFault, Told}
use Rattle.rule_cycles.specs.SchemaCycles.{CyclesFail, IsInputCycle, AnswersInput, InputsTold}
use Rattle.rule_cycle_search.proofs.Lists.{only, Contains-first, not_in_nil}
use Rattle.rule_cycles.proofs.Entries.{number_given, under_at}
use Rattle.rule_cycles.proofs.Transport.{Goes, AreNamed, Leads-named-on, IsWay-named, HasNoRepeat-named, Leads-numbered, Leads-same, IsWay-same, count_by-none}
use Rattle.rule_cycles.proofs.InputBridge.{Refs, name_at, number_at, tells, says, input_sound, input_full, input_defined, input_one}

pub map-reverse : {X Y : Type 0} (f : X → Y) (xs : List X) → map f (reverse xs) ≡ reverse (map f xs)
map-reverse f [] = refl
map-reverse f (x ∷ xs) = ap (map f) (reverse-append (x ∷ []) xs) ∙ map-append f (reverse xs) (x ∷ []) ∙ ap (λ l. l ++ f x ∷ []) (map-reverse f xs) ∙ sym (reverse-append (f x ∷ []) (map f xs))

module _ (s : SchemaTree Place) (distinct : AreAllDistinct s) (g : Graph) (graph : IsInputGraph s g) where
  abbrev Walks : ℕ → ℕ → ℕ → Type 0
  Walks = Goes (Refs s distinct) (name_at s distinct) (number_at s distinct) (RefersToInput (judged s)) (tells s distinct) (says s distinct)

  to_walk : (x by y : ℕ) → RefersTo g x by y → Walks x by y
  to_walk x by y r = (subst (λ l. Contains l by) (graph.refers x) r.0, r.1)

  from_walk : (x by y : ℕ) → Walks x by y → RefersTo g x by y
  from_walk x by y r = (subst (λ l. Contains l by) (sym (graph.refers x)) r.0, r.1)

  -- the place of a type by its name
  type_place : (i : ℕ) (n : List ℕ) (t : SchemaType Place) → slice_get s.types i ≡ Some (n, t) → t.place ≡ place_at s (TypeAt n)
  type_place i n t h = sym (ap (λ o. or_nothing (option_map (λ (x : SchemaType Place). x.place) o)) (under_at s.types distinct.types i n t h))

  -- a fault of a root at its number
  entry_of : (f : List ℕ × SchemaType Place → PlacedFault) (root : ℕ) (x : PlacedFault) → Contains (option_map_or (λ e. f e ∷ []) (slice_get s.types root) []) x
      → (n : List ℕ) × ((t : SchemaType Place) × ((slice_get s.types root ≡ Some (n, t)) × (x ≡ f (n, t))))
  entry_of f root x c = by (slice_get s.types root) refl c
    where
      by : (o : Option (List ℕ × SchemaType Place)) → slice_get s.types root ≡ o → Contains (option_map_or (λ e. f e ∷ []) o []) x
          → (n : List ℕ) × ((t : SchemaType Place) × ((slice_get s.types root ≡ Some (n, t)) × (x ≡ f (n, t))))
      by None e d = not_in_nil x d
      by (Some e) q d = (e.0, (e.1, (q, only (f e) x d)))

  recursive_right : (root : ℕ) (path : List ℕ) (f : PlacedFault) → IsCycleThrough g root path → Contains (recursive_input_object_definition s root path) f → Told s CyclesFail f
  recursive_right root path f way c =
      let e : (n : List ℕ) × ((t : SchemaType Place) × ((slice_get s.types root ≡ Some (n, t)) × (f ≡ wrong t.place (RecursiveInputObjectDefinition n (map (says s distinct) (reverse (labels (Refs s distinct) root path))))))) =
      entry_of (λ (x : List ℕ × SchemaType Place). wrong x.1.place (RecursiveInputObjectDefinition x.0 (map (says s distinct) (reverse (labels (Refs s distinct) root path))))) root f c in
      let n : List ℕ = e.0 in
      let here : name_at s distinct root ≡ Some n = ap (option_map (λ (x : List ℕ × SchemaType Place). x.0)) e.1.1.0 in
      let w : (y : List ℕ) × ((by : Referring (InputValueTree (Unit {0}))) × ((bys : List (Referring (InputValueTree (Unit {0})))) × ((name_at s distinct root ≡ Some y) × (Leads (RefersToInput (judged s)) n (by ∷ bys) y × (map (tells s distinct) (by ∷ bys) ≡ map (says s distinct) (labels (Refs s distinct) root (way.0 ∷ way.1.0))))))) =
      Leads-named-on (Refs s distinct) (name_at s distinct) (number_at s distinct) (RefersToInput (judged s)) (tells s distinct) (says s distinct) (input_sound s distinct)
      root way.0 way.1.0 root n here (Leads-same (RefersTo g) Walks to_walk root (way.0 ∷ way.1.0) root way.1.1.1) in
      let same : w.0 ≡ n = same_Some w.0 n (sym w.1.1.1.0 ∙ here) in
      let told : map (says s distinct) (reverse (labels (Refs s distinct) root path)) ≡ map (tells s distinct) (reverse (w.1.0 ∷ w.1.1.0)) =
      map-reverse (says s distinct) (labels (Refs s distinct) root path)
      ∙ ap (λ p. reverse (map (says s distinct) (labels (Refs s distinct) root p))) way.1.1.0
      ∙ ap (λ l. reverse l) (sym w.1.1.1.1.1)
      ∙ sym (map-reverse (tells s distinct) (w.1.0 ∷ w.1.1.0)) in (
        wrong (At (TypeAt n)) (RecursiveInputObjectDefinition n (reverse (w.1.0 ∷ w.1.1.0))),
        (
          inl (inl (n, (w.1.0, (w.1.1.0, (subst (Leads (RefersToInput (judged s)) n (w.1.0 ∷ w.1.1.0)) same w.1.1.1.1.0, refl))))),
          (
            ap (λ (x : PlacedFault). x.place) e.1.1.1 ∙ type_place root n e.1.0 e.1.1.0,
            ap (λ (x : PlacedFault). x.breach) e.1.1.1 ∙ ap (λ l. RecursiveInputObjectDefinition n l) told,
          ),
        ),
      )

  named_length : (ns : List ℕ) (xs : List (List ℕ)) → AreNamed (Refs s distinct) (name_at s distinct) (number_at s distinct) (RefersToInput (judged s)) (tells s distinct) (says s distinct) ns xs → length ns ≡ length xs
  named_length [] [] a = refl
  named_length [] (x ∷ xs) a = absurd a
  named_length (n ∷ ns) [] a = absurd a
  named_length (n ∷ ns) (x ∷ xs) a = omega (arith, named_length ns xs a.1)

  -- every node is of the other kind
  none_first : (n : ℕ) → is_first g n ≡ false
  none_first n = ap (λ d. nat_lt n d) graph.none_first ∙ le-ltb n 0 (omega arith)

  deep_right : (root : ℕ) (f : PlacedFault) → IsDeep g root → Contains (deeply_nested_input_object s root) f → Told s CyclesFail f
  deep_right root f deep c =
      let e : (n : List ℕ) × ((t : SchemaType Place) × ((slice_get s.types root ≡ Some (n, t)) × (f ≡ wrong t.place (DeeplyNestedType n (codes "input object"))))) =
      entry_of (λ (x : List ℕ × SchemaType Place). wrong x.1.place (DeeplyNestedType x.0 (codes "input object"))) root f c in
      let n : List ℕ = e.0 in
      let here : name_at s distinct root ≡ Some n = ap (option_map (λ (x : List ℕ × SchemaType Place). x.0)) e.1.1.0 in
      let w : (xs : List (List ℕ)) × (AreNamed (Refs s distinct) (name_at s distinct) (number_at s distinct) (RefersToInput (judged s)) (tells s distinct) (says s distinct) deep.0 xs × IsWay (RefersToInput (judged s)) (n ∷ xs)) =
      IsWay-named (Refs s distinct) (name_at s distinct) (number_at s distinct) (RefersToInput (judged s)) (tells s distinct) (says s distinct) (input_sound s distinct)
      root deep.0 n here (IsWay-same (RefersTo g) Walks to_walk (root ∷ deep.0) deep.1.0) in
      let apart : HasNoRepeat (n ∷ w.0) =
      HasNoRepeat-named (Refs s distinct) (name_at s distinct) (number_at s distinct) (RefersToInput (judged s)) (tells s distinct) (says s distinct) (input_one s distinct) (root ∷ deep.0) (n ∷ w.0) (here, w.1.0) deep.1.1.0 in
      let long : reference_bound < length (n ∷ w.0) = elim deep.1.1.1 [
        | inl few ↦ absurd (omega (arith, few, count_by-none (is_first g) none_first (root ∷ deep.0)))
        | inr many ↦ omega (arith, many, graph.bound, count_by-le-length (is_other g) (root ∷ deep.0), named_length (root ∷ deep.0) (n ∷ w.0) (here, w.1.0))
      ] in (
        wrong (At (TypeAt n)) (DeeplyNestedType n (codes "input object")),
        (
          inr (inl (n, (w.0, (w.1.1, (apart, (long, refl)))))),
          (
            ap (λ (x : PlacedFault). x.place) e.1.1.1 ∙ type_place root n e.1.0 e.1.1.0,
            ap (λ (x : PlacedFault). x.breach) e.1.1.1,
          ),
        ),
      )

  root_right : (root : ℕ) (l : List PlacedFault) (f : PlacedFault) → IsOfRoot (TellsInput s) (TellsDeepInput s) g root l → Contains l f → Told s CyclesFail f
  root_right root l f (inl r) c = recursive_right root r.0 f r.1.0 (subst (λ k. Contains k f) r.1.1 c)
  root_right root l f (inr r) c = deep_right root f r.0 (subst (λ k. Contains k f) r.1 c)

  -- the fault of a root that is there
  first_fault : (h : List ℕ × SchemaType Place → PlacedFault) (root : ℕ) (e : List ℕ × SchemaType Place) → slice_get s.types root ≡ Some e → Contains (option_map_or (λ x. h x ∷ []) (slice_get s.types root) []) (h e)
  first_fault h root e there = subst (λ o. Contains (option_map_or (λ x. h x ∷ []) o []) (h e)) (sym there) (Contains-first (h e) [] (h e) refl)

  said : (n : List ℕ) (t : SchemaType Place) (root : ℕ) (l added : List PlacedFault) → slice_get s.types root ≡ Some (n, t) → IsOfRoot (TellsInput s) (TellsDeepInput s) g root l → ((f : PlacedFault) → Contains l f → Contains added f) → (f : PlacedFault) × (Contains added f × AnswersInput n f)
  said n t root l added there (inl r) sub =
      let trace = map (says s distinct) (reverse (labels (Refs s distinct) root r.0)) in (
        wrong t.place (RecursiveInputObjectDefinition n trace),
        (
          sub (wrong t.place (RecursiveInputObjectDefinition n trace)) (subst (λ k. Contains k (wrong t.place (RecursiveInputObjectDefinition n trace))) (sym r.1.1)
              (first_fault (λ (x : List ℕ × SchemaType Place). wrong x.1.place (RecursiveInputObjectDefinition x.0 trace)) root (n, t) there)),
          inl (trace, refl),
        ),
      )
  said n t root l added there (inr r) sub = (
    wrong t.place (DeeplyNestedType n (codes "input object")),
    (
      sub (wrong t.place (DeeplyNestedType n (codes "input object"))) (subst (λ k. Contains k (wrong t.place (DeeplyNestedType n (codes "input object")))) (sym r.1)
          (first_fault (λ (x : List ℕ × SchemaType Place). wrong x.1.place (DeeplyNestedType x.0 (codes "input object"))) root (n, t) there)),
      inr refl,
    ),
  )

  pub inputs_told : (old new : List PlacedFault) → TellsRoots (TellsInput s) (TellsDeepInput s) g g.roots old new → InputsTold s old new
  inputs_told old new t = record {
    added = t.added;
    is = t.is;
    right = λ f c. let r : (root : ℕ) × ((l : List PlacedFault) × (IsOfRoot (TellsInput s) (TellsDeepInput s) g root l × Contains l f)) = t.right f c in root_right r.0 r.1.0 f r.1.1.0 r.1.1.1;
    full = λ n cycle.
        let i : (i : ℕ) × (number_at s distinct n ≡ Some i) = first_number n cycle in
        let v : (v : SchemaType Place) × (slice_get s.types i.0 ≡ Some (n, v)) = number_given n s.types i.0 i.1 in
        let w : (m : ℕ) × ((path : List ℕ) × Leads Walks i.0 (m ∷ path) i.0) =
        Leads-numbered (Refs s distinct) (name_at s distinct) (number_at s distinct) (RefersToInput (judged s)) (tells s distinct) (says s distinct) (input_full s distinct) (input_defined s distinct)
        n cycle.0 cycle.1.0 n i.0 i.0 i.1 i.1 cycle.1.1 in
        let below : i.0 < g.roots = omega (arith, slice_get_within s.types i.0 (n, v.0) v.1, graph.all_roots) in
        let heard : (l : List PlacedFault) × (IsOfRoot (TellsInput s) (TellsDeepInput s) g i.0 l × ((f : PlacedFault) → Contains l f → Contains t.added f)) =
        t.full i.0 below (w.0 ∷ w.1.0) (w.0, (w.1.0, (refl, Leads-same Walks (RefersTo g) from_walk i.0 (w.0 ∷ w.1.0) i.0 w.1.1))) in
        said n v.0 i.0 heard.0 t.added v.1 heard.1.0 heard.1.1;
  }
    where
      first_number : (n : List ℕ) → IsInputCycle (judged s) n → (i : ℕ) × (number_at s distinct n ≡ Some i)
      first_number n cycle = input_defined s distinct n cycle.1.1.0 cycle.0 cycle.1.1.1.0
