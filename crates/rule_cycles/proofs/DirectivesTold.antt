-- What is told of directives is what the rules say of them.
use Rattle.std.proofs.Common.{◌≡◌, ℕ, ◌<◌, ◌⊎◌, not, List, [], ◌∷◌, map, reverse, length, slice_get, codes, Option, None, Some, refl, sym, ap, subst, ◌∙◌, inl, inr, arith}
use Rattle.std.specs.Prelude.{Contains, count_by, filter_map, nat_lt}
use Rattle.std.specs.Option.{option_map}
use Rattle.std.proofs.lemmas.Option.{same_Some, slice_get_within}
use Rattle.graphql_names.specs.Placed.{Placed, Place}
use Rattle.graphql_names.specs.Places.{Recomposes}
use Rattle.tree_directives.specs.DirectiveTree.{DirectiveDefinitionTree}
use Rattle.schema_types.specs.SchemaTree.{SchemaTree}
use Rattle.schema_types.specs.Addresses.{under, or_nothing, place_of}
use Rattle.fault_data.specs.in_rule_definitions.Diagnostics.{Diagnostic, RecursiveDirectiveDefinition, DeeplyNestedType, map_place}
use Rattle.fault_data.specs.in_rule_definitions.Faults.{wrong}
use Rattle.fault_data.specs.in_rule_definitions.Spots.{HeadAt, SpotIsAt, spot_place}
use Rattle.fault_data.specs.in_rule_definitions.Judged.{judged}
use Rattle.fault_data.specs.in_rule_definitions.Things.{Thing, ADirective}
use Rattle.fault_data.specs.in_rule_definitions.Cycles.{Refers, trace_of_way, reference_bound}
use Rattle.rule_cycle_search.specs.Paths.{Leads, IsWay, HasNoRepeat}
use Rattle.fault_data.specs.in_rule_definitions.Cycles as cycles
use Rattle.schema_types.specs.Distinct.{AreAllDistinct}
use Rattle.fault_data.specs.in_rule_definitions.PlacedFaults.{PlacedFault, Told}
use Rattle.rule_cycle_search.proofs.Lists.{only, Contains-first, not_in_nil}
use Rattle.rule_cycle_search.specs.declared.graph.Graph.{Graph}
use Rattle.rule_cycle_search.specs.Graph.{RefersTo, is_first, is_other, IsCycleThrough, IsDeep}
use Rattle.rule_cycles.specs.Labels.{Labelled, labels, targets}
use Rattle.rule_cycles.specs.UseNumbers.{Use, uses_at}
use Rattle.rule_cycles.specs.UseGraph.{IsUseGraph, IsFlat}
use Rattle.rule_cycles.specs.DirectiveFaults.{directives_of, plain_use, AtHead, use_trace, recursive_directive, deep_directive, TellsDirective, TellsDeepDirective}
use Rattle.rule_cycles.specs.Telling.{IsOfRoot, TellsRoots}
use Rattle.rule_cycles.specs.SchemaCycles.{CyclesFail, AnswersDirective, DirectivesTold}
use Rattle.rule_cycles.proofs.Entries.{number_given}
use Rattle.rule_cycles.proofs.Transport.{Goes, AreNamed, Leads-named-on, IsWay-named, HasNoRepeat-named, count-named, Leads-numbered, Leads-same, IsWay-same}
use Rattle.rule_cycles.proofs.InputsTold.{map-reverse}
use Rattle.rule_cycles.proofs.UseBridge.{By, says_use, thing_at, number_in, tells_use, thing_of_directive, same_directive, same_type, directive_under, use_sound, use_full, use_defined, use_one}

-- those that are there, mapped
pub mapped_there : {X Y : Type 0} (f : X → Y) (os : List (Option X)) → filter_map (λ o. o) (map (option_map f) os) ≡ map f (filter_map (λ o. o) os)
mapped_there f [] = refl
mapped_there f (None ∷ os) = mapped_there f os
mapped_there f (Some x ∷ os) = ap (λ l. f x ∷ l) (mapped_there f os)

module _ (s : SchemaTree Place) (distinct : AreAllDistinct s) (g : Graph) (graph : IsUseGraph s g) where
  abbrev Walks : ℕ → ℕ → ℕ → Type 0
  Walks = Goes (uses_at s) (thing_at s) (number_in s) (Refers (judged s)) (tells_use s) says_use

  abbrev Named : List ℕ → List Thing → Type 0
  Named = AreNamed (uses_at s) (thing_at s) (number_in s) (Refers (judged s)) (tells_use s) says_use

  to_walk : (x by y : ℕ) → RefersTo g x by y → Walks x by y
  to_walk x by y r = (subst (λ l. Contains l by) (graph.refers x) r.0, r.1)

  from_walk : (x by y : ℕ) → Walks x by y → RefersTo g x by y
  from_walk x by y r = (subst (λ l. Contains l by) (sym (graph.refers x)) r.0, r.1)

  -- a fault at the head of the directive of a number
  abbrev IsHeadFault : ℕ → (List ℕ → Diagnostic Place (List Place)) → PlacedFault → Type 0
  IsHeadFault root breach f =
      (n : List ℕ) × ((d : Placed Place (DirectiveDefinitionTree Place)) × ((slice_get s.directives root ≡ Some (n, d)) × ((place : Place) × (Recomposes d.place d.it.name.place place × (f ≡ wrong place (breach n))))))

  head_fault : (root : ℕ) (breach : List ℕ → Diagnostic Place (List Place)) (l : List PlacedFault) (f : PlacedFault) → AtHead (slice_get s.directives root) breach l → Contains l f → IsHeadFault root breach f
  head_fault root breach l f h c = by (slice_get s.directives root) refl h
    where
      by : (o : Option (List ℕ × Placed Place (DirectiveDefinitionTree Place))) → slice_get s.directives root ≡ o → AtHead o breach l → IsHeadFault root breach f
      by None e q = not_in_nil f (subst (λ (k : List PlacedFault). Contains k f) q c)
      by (Some x) e q = (x.0, (x.1, (e, (q.0, (q.1.0, only (wrong q.0 (breach x.0)) f (subst (λ (k : List PlacedFault). Contains k f) q.1.1 c))))))

  head_stands : (n : List ℕ) (d : Placed Place (DirectiveDefinitionTree Place)) (place : Place) → under n s.directives ≡ Some d → Recomposes d.place d.it.name.place place → SpotIsAt s (HeadAt n) place
  head_stands n d place has r = subst (λ (o : Option (Placed Place (DirectiveDefinitionTree Place))). Recomposes (place_of o) (or_nothing (option_map (λ (x : Placed Place (DirectiveDefinitionTree Place)). x.it.name.place) o)) place) (sym has) r

  here : (root : ℕ) (n : List ℕ) (d : Placed Place (DirectiveDefinitionTree Place)) → slice_get s.directives root ≡ Some (n, d) → thing_at s root ≡ Some (ADirective n)
  here root n d h = thing_of_directive s n d root h

  recursive_right : (root : ℕ) (path : List ℕ) (l : List PlacedFault) (f : PlacedFault) → IsCycleThrough g root path → TellsDirective s root path l → Contains l f → Told s CyclesFail f
  recursive_right root path l f way tells c =
      let e : IsHeadFault root (recursive_directive s root path) f = head_fault root (recursive_directive s root path) l f tells c in
      let n : List ℕ = e.0 in
      let w : (y : Thing) × ((by : By) × ((bys : List By) × ((thing_at s root ≡ Some y) × (Leads (Refers (judged s)) (ADirective n) (by ∷ bys) y × (map (tells_use s) (by ∷ bys) ≡ map says_use (labels (uses_at s) root (way.0 ∷ way.1.0))))))) =
      Leads-named-on (uses_at s) (thing_at s) (number_in s) (Refers (judged s)) (tells_use s) says_use (use_sound s distinct)
      root way.0 way.1.0 root (ADirective n) (here root n e.1.0 e.1.1.0) (Leads-same (RefersTo g) Walks to_walk root (way.0 ∷ way.1.0) root way.1.1.1) in
      let same : w.0 ≡ ADirective n = same_Some w.0 (ADirective n) (sym w.1.1.1.0 ∙ here root n e.1.0 e.1.1.0) in
      let told : map plain_use (use_trace s root path) ≡ map (map_place (spot_place s)) (trace_of_way (w.1.0 ∷ w.1.1.0)) =
      map-reverse plain_use (directives_of (labels (uses_at s) root path))
      ∙ ap (λ (p : List ℕ). reverse (map plain_use (directives_of (labels (uses_at s) root p)))) way.1.1.0
      ∙ ap reverse (sym (mapped_there plain_use (labels (uses_at s) root (way.0 ∷ way.1.0))) ∙ ap (filter_map (λ o. o)) (sym w.1.1.1.1.1) ∙ mapped_there (map_place (spot_place s)) (w.1.0 ∷ w.1.1.0))
      ∙ sym (map-reverse (map_place (spot_place s)) (filter_map (λ o. o) (w.1.0 ∷ w.1.1.0))) in (
        wrong (HeadAt n) (RecursiveDirectiveDefinition n (trace_of_way (w.1.0 ∷ w.1.1.0))),
        (
          inl (inr (n, (w.1.0, (w.1.1.0, (subst (Leads (Refers (judged s)) (ADirective n) (w.1.0 ∷ w.1.1.0)) same w.1.1.1.1.0, refl))))),
          (
            subst (SpotIsAt s (HeadAt n)) (sym (ap (λ (x : PlacedFault). x.place) e.1.1.1.1.1)) (head_stands n e.1.0 e.1.1.1.0 (directive_under s distinct n e.1.0 root e.1.1.0) e.1.1.1.1.0),
            ap (λ (x : PlacedFault). x.breach) e.1.1.1.1.1 ∙ ap (λ t. RecursiveDirectiveDefinition n t) told,
          ),
        ),
      )

  deep_right : (root : ℕ) (l : List PlacedFault) (f : PlacedFault) → IsDeep g root → TellsDeepDirective s root l → Contains l f → Told s CyclesFail f
  deep_right root l f deep tells c =
      let e : IsHeadFault root (deep_directive s) f = head_fault root (deep_directive s) l f tells c in
      let n : List ℕ = e.0 in
      let at : thing_at s root ≡ Some (ADirective n) = here root n e.1.0 e.1.1.0 in
      let w : (xs : List Thing) × (Named deep.0 xs × IsWay (Refers (judged s)) (ADirective n ∷ xs)) =
      IsWay-named (uses_at s) (thing_at s) (number_in s) (Refers (judged s)) (tells_use s) says_use (use_sound s distinct)
      root deep.0 (ADirective n) at (IsWay-same (RefersTo g) Walks to_walk (root ∷ deep.0) deep.1.0) in
      let apart : HasNoRepeat (ADirective n ∷ w.0) =
      HasNoRepeat-named (uses_at s) (thing_at s) (number_in s) (Refers (judged s)) (tells_use s) says_use (use_one s distinct) (root ∷ deep.0) (ADirective n ∷ w.0) (at, w.1.0) deep.1.1.0 in
      let directives : count_by (is_first g) (root ∷ deep.0) ≡ count_by cycles.is_a_directive (ADirective n ∷ w.0) =
      count-named (uses_at s) (thing_at s) (number_in s) (Refers (judged s)) (tells_use s) says_use (is_first g) cycles.is_a_directive
      (λ i x h. ap (nat_lt i) graph.directives ∙ same_directive s i x h) (root ∷ deep.0) (ADirective n ∷ w.0) (at, w.1.0) in
      let types : count_by (is_other g) (root ∷ deep.0) ≡ count_by cycles.is_a_type (ADirective n ∷ w.0) =
      count-named (uses_at s) (thing_at s) (number_in s) (Refers (judged s)) (tells_use s) says_use (is_other g) cycles.is_a_type
      (λ i x h. ap (λ k. not (nat_lt i k)) graph.directives ∙ same_type s i x h) (root ∷ deep.0) (ADirective n ∷ w.0) (at, w.1.0) in
      let long : (reference_bound < count_by cycles.is_a_directive (ADirective n ∷ w.0)) ⊎ (reference_bound < count_by cycles.is_a_type (ADirective n ∷ w.0)) = elim deep.1.1.1 [
        | inl many ↦ inl (omega (arith, many, directives, graph.bound))
        | inr many ↦ inr (omega (arith, many, types, graph.bound))
      ] in (
        wrong (HeadAt n) (DeeplyNestedType n (codes "directive")),
        (
          inr (inr (n, (w.0, (w.1.1, (apart, (long, refl)))))),
          (
            subst (SpotIsAt s (HeadAt n)) (sym (ap (λ (x : PlacedFault). x.place) e.1.1.1.1.1)) (head_stands n e.1.0 e.1.1.1.0 (directive_under s distinct n e.1.0 root e.1.1.0) e.1.1.1.1.0),
            ap (λ (x : PlacedFault). x.breach) e.1.1.1.1.1,
          ),
        ),
      )

  root_right : (root : ℕ) (l : List PlacedFault) (f : PlacedFault) → IsOfRoot (TellsDirective s) (TellsDeepDirective s) g root l → Contains l f → Told s CyclesFail f
  root_right root l f (inl r) c = recursive_right root r.0 l f r.1.0 r.1.1 c
  root_right root l f (inr r) c = deep_right root l f r.0 r.1 c

  -- the fault at the head of a directive that is there
  abbrev Says : List ℕ → (List ℕ → Diagnostic Place (List Place)) → List PlacedFault → Type 0
  Says n breach l = (f : PlacedFault) × (Contains l f × (f.breach ≡ breach n))

  first_fault : (n : List ℕ) (d : Placed Place (DirectiveDefinitionTree Place)) (root : ℕ) (breach : List ℕ → Diagnostic Place (List Place)) (l : List PlacedFault) → slice_get s.directives root ≡ Some (n, d) → AtHead (slice_get s.directives root) breach l → Says n breach l
  first_fault n d root breach l there h =
      let q : AtHead (Some (n, d)) breach l = subst (λ (o : Option (List ℕ × Placed Place (DirectiveDefinitionTree Place))). AtHead o breach l) there h in
      (wrong q.0 (breach n), (subst (λ (k : List PlacedFault). Contains k (wrong q.0 (breach n))) (sym q.1.1) (Contains-first (wrong q.0 (breach n)) [] (wrong q.0 (breach n)) refl), refl))

  said : (n : List ℕ) (d : Placed Place (DirectiveDefinitionTree Place)) (root : ℕ) (l added : List PlacedFault) → slice_get s.directives root ≡ Some (n, d) → IsOfRoot (TellsDirective s) (TellsDeepDirective s) g root l → ((f : PlacedFault) → Contains l f → Contains added f)
      → (f : PlacedFault) × (Contains added f × AnswersDirective n f)
  said n d root l added there (inl r) sub =
      let q : Says n (recursive_directive s root r.0) l = first_fault n d root (recursive_directive s root r.0) l there r.1.1 in
      (q.0, (sub q.0 q.1.0, inl (map plain_use (use_trace s root r.0), q.1.1)))
  said n d root l added there (inr r) sub =
      let q : Says n (deep_directive s) l = first_fault n d root (deep_directive s) l there r.1 in
      (q.0, (sub q.0 q.1.0, inr q.1.1))

  pub directives_told : (old new : List PlacedFault) → TellsRoots (TellsDirective s) (TellsDeepDirective s) g g.roots old new → DirectivesTold s old new
  directives_told old new t = record {
    added = t.added;
    is = t.is;
    right = λ f c. let r : (root : ℕ) × ((l : List PlacedFault) × (IsOfRoot (TellsDirective s) (TellsDeepDirective s) g root l × Contains l f)) = t.right f c in root_right r.0 r.1.0 f r.1.1.0 r.1.1.1;
    full = λ n cycle.
        let i : (i : ℕ) × (number_in s (ADirective n) ≡ Some i) = use_defined s distinct (ADirective n) cycle.1.1.0 cycle.0 cycle.1.1.1.0 in
        let v : (v : Placed Place (DirectiveDefinitionTree Place)) × (slice_get s.directives i.0 ≡ Some (n, v)) = number_given n s.directives i.0 i.1 in
        let w : (m : ℕ) × ((path : List ℕ) × Leads Walks i.0 (m ∷ path) i.0) =
        Leads-numbered (uses_at s) (thing_at s) (number_in s) (Refers (judged s)) (tells_use s) says_use (use_full s distinct) (use_defined s distinct)
        (ADirective n) cycle.0 cycle.1.0 (ADirective n) i.0 i.0 i.1 i.1 cycle.1.1 in
        let below : i.0 < g.roots = omega (arith, slice_get_within s.directives i.0 (n, v.0) v.1, graph.all_roots) in
        let heard : (l : List PlacedFault) × (IsOfRoot (TellsDirective s) (TellsDeepDirective s) g i.0 l × ((f : PlacedFault) → Contains l f → Contains t.added f)) =
        t.full i.0 below (w.0 ∷ w.1.0) (w.0, (w.1.0, (refl, Leads-same Walks (RefersTo g) from_walk i.0 (w.0 ∷ w.1.0) i.0 w.1.1))) in
        said n v.0 i.0 heard.0 t.added v.1 heard.1.0 heard.1.1;
  }

-- ---- directives that refer to nothing that refers to anything

module _ (s : SchemaTree Place) (distinct : AreAllDistinct s) (flat : IsFlat s) where
  abbrev Steps : ℕ → ℕ → ℕ → Type 0
  Steps = Goes (uses_at s) (thing_at s) (number_in s) (Refers (judged s)) (tells_use s) says_use

  leads_nowhere : (i k : ℕ) (path : List ℕ) → i < length s.directives → Leads Steps i (k ∷ path) i → ⊥
  leads_nowhere i k [] below w =
      let none : uses_at s i ≡ [] = ap (uses_at s) (sym (w.1.0.1 ∙ w.1.1)) ∙ flat i k below w.1.0.0 in
      not_in_nil k (subst (λ (rs : Labelled Use). Contains (targets rs) k) none w.1.0.0)
  leads_nowhere i k (m ∷ path) below w =
      let none : uses_at s w.0 ≡ [] = ap (uses_at s) (sym w.1.0.1) ∙ flat i k below w.1.0.0 in
      not_in_nil m (subst (λ (rs : Labelled Use). Contains (targets rs) m) none w.1.1.1.0.0)

  pub flat_told : (old : List PlacedFault) → DirectivesTold s old old
  flat_told old = record {
    added = [];
    is = refl;
    right = λ f c. not_in_nil f c;
    full = λ n cycle.
        let i : (i : ℕ) × (number_in s (ADirective n) ≡ Some i) = use_defined s distinct (ADirective n) cycle.1.1.0 cycle.0 cycle.1.1.1.0 in
        let v : (v : Placed Place (DirectiveDefinitionTree Place)) × (slice_get s.directives i.0 ≡ Some (n, v)) = number_given n s.directives i.0 i.1 in
        let w : (m : ℕ) × ((path : List ℕ) × Leads Steps i.0 (m ∷ path) i.0) =
        Leads-numbered (uses_at s) (thing_at s) (number_in s) (Refers (judged s)) (tells_use s) says_use (use_full s distinct) (use_defined s distinct)
        (ADirective n) cycle.0 cycle.1.0 (ADirective n) i.0 i.0 i.1 i.1 cycle.1.1 in
        absurd (leads_nowhere i.0 w.0 w.1.0 (slice_get_within s.directives i.0 (n, v.0) v.1) w.1.1);
  }
