-- What merging tells, each fault once.
use Rattle.std.proofs.Common.{◌≡◌, inl, inr, ◌++◌, List, [], ◌∷◌, map, take, length, Option, Some, refl, ap, sym, ◌∙◌, subst, Contains, arith}
use Rattle.std.proofs.lemmas.List.{length-map, take-map}
use Rattle.std.proofs.lemmas.List.Elements.{Contains-append_right}
use Rattle.std.specs.Option.{option_map}
use Rattle.graphql_names.specs.Placed.{Place}
use Rattle.spec_document.specs.MeantTree.{MeantDocument}
use Rattle.rule_cycle_search.proofs.Lists.{not_in_nil, Contains-cons, Contains-first, slice_get-map}
use Rattle.rule_definitions.specs.Judged.{Judged}
use Rattle.rule_definitions.specs.Room.{most_told}
use Rattle.rule_document_definitions.specs.DocumentFaults.{OfData, OfDocument, OfLimit}
use Rattle.rule_document_definitions.specs.Reached.{AtOperation}
use Rattle.rule_document_definitions.specs.PlacedDocumentFaults.{PlacedDocumentFault}
use Rattle.rule_merging.specs.in_faults.DetailsTree as tree
use Rattle.rule_merging.specs.in_faults.DetailsTree.{DetailsTree, DetailsAt, of_document}
use Rattle.rule_merging.specs.in_faults.DetailsView.{details_at}
use Rattle.rule_merging.specs.in_faults.declared.details.Details.{Details}
use Rattle.rule_merging.specs.Merged.{MergingFailsAt, DocumentMergingTold}
use Rattle.graphql_faults.specs.Once.{EachOnce, KeepsOnce}
use Rattle.graphql_faults.specs.ToldOfDocument.{told_of_document, placed_details, told_at}
use Rattle.graphql_validation.specs.ValidationFaults.{Telling}
use Rattle.graphql_validation.proofs.FirstTold.{none_told}

-- ---- lists that are seen otherwise

once_seen : {X Y : Type 0} (f : X → Y) (xs : List X) → EachOnce (map f xs) → EachOnce xs
once_seen f xs (inl full) = let long = length-map xs f in inl (omega (arith, full, long))
once_seen f xs (inr none) = inr (λ i j x h k. none i j (f x) (slice_get-map f xs i ∙ ap (option_map f) h) (slice_get-map f xs j ∙ ap (option_map f) k))

none_mapped : {X Y : Type 0} (f : X → Y) (xs : List X) → map f xs ≡ [] → xs ≡ []
none_mapped f [] e = refl
none_mapped f (x ∷ xs) e = cc

kept_none : {X : Type 0} (old new : List X) → KeepsOnce old new → new ≡ [] → old ≡ []
kept_none [] new keeps none = refl
kept_none (x ∷ xs) new keeps none = elim keeps.all [
  | inl full ↦ let long = ap length none in absurd (omega (arith, full, long))
  | inr all ↦ not_in_nil x (subst (λ l. Contains l x) none (all x (Contains-first x xs x refl)))
]

-- ---- what is seen of a fault of a document leads back to it

details_back : (one other : DetailsTree Place (List Place)) → told_of_document one ≡ Some other → one ≡ other
details_back (tree.Syntax kind) other e = cc
details_back tree.Nesting other e = cc
details_back tree.Spent other e = cc
details_back (tree.SchemaBuild breach) other e = cc
details_back (tree.DocumentBuild breach) other e = cc
details_back (tree.Data breach) other e = cc
details_back tree.RecursionLimitError other e = cc

placed_back : (d : DetailsAt Place (List Place)) (place : Place) (details : DetailsTree Place (List Place)) → placed_details d ≡ (place, Some details) → d ≡ record { place = place; details = details }
placed_back d place details e =
    let at : d.place ≡ place = ap (λ p. p.0) e in
    let says : d.details ≡ details = details_back d.details details (ap (λ p. p.1) e) in
    λ i. record { place = at i; details = says i }

seen_back : (d : DetailsAt Place (List Place)) (f : PlacedDocumentFault) → placed_details d ≡ placed_details (of_document f) → d ≡ of_document f
seen_back d (OfData fault) e = placed_back d fault.place (tree.Data fault.breach) e
seen_back d (OfDocument broken) e = placed_back d broken.place (tree.DocumentBuild broken.it) e
seen_back d (OfLimit place) e = placed_back d place tree.RecursionLimitError e

seen_of : (these : List (Place × Details)) → map told_at these ≡ map placed_details (map details_at these)
seen_of [] = refl
seen_of (x ∷ xs) = ap (λ l. told_at x ∷ l) (seen_of xs)

seen_in : (all : List PlacedDocumentFault) (x : Place × Option (DetailsTree Place (List Place))) → Contains (map placed_details (map of_document all)) x
    → (f : PlacedDocumentFault) × (Contains all f × (x ≡ placed_details (of_document f)))
seen_in [] x c = not_in_nil x c
seen_in (f ∷ fs) x c = elim (Contains-cons (placed_details (of_document f)) (map placed_details (map of_document fs)) x c) [
  | inl e ↦ (f, (Contains-first f fs f refl, sym e))
  | inr h ↦ let r = seen_in fs x h in (r.0, (Contains-append_right (f ∷ []) fs r.0 r.1.0, r.1.1))
]

-- what is seen among faults of a document is one of them
of_these : (all : List PlacedDocumentFault) (new : Telling)
    → ((x : Place × Option (DetailsTree Place (List Place))) → Contains (map placed_details new) x → Contains (map placed_details (map of_document all)) x)
    → (told : List PlacedDocumentFault) × ((new ≡ map of_document told) × ((f : PlacedDocumentFault) → Contains told f → Contains all f))
of_these all [] from = ([], (refl, λ f c. not_in_nil f c))
of_these all (d ∷ new) from =
    let one = seen_in all (placed_details d) (from (placed_details d) (Contains-first (placed_details d) (map placed_details new) (placed_details d) refl)) in
    let rest = of_these all new (λ x c. from x (Contains-append_right (placed_details d ∷ []) (map placed_details new) x c)) in
    let first : d ≡ of_document one.0 = seen_back d one.0 one.1.1 in (
      one.0 ∷ rest.0,
      (
        (λ i. first i ∷ rest.1.0 i),
        λ f c. elim (Contains-cons one.0 rest.0 f c) [ inl e ↦ subst (Contains all) e one.1.0 | inr h ↦ rest.1.1 f h ],
      ),
    )

-- ---- what is kept of what merging tells

module _ (s : Judged) (d : MeantDocument Place) (own : Telling) (given kept : List (Place × Details)) (told : DocumentMergingTold s d [] own)
    (same : map details_at given ≡ own) (keeps : KeepsOnce (map told_at given) (map told_at kept)) where
  abbrev Fails : PlacedDocumentFault → Type 0
  Fails f = AtOperation d (λ o. MergingFailsAt s d o f)

  -- it is told by merging, each once
  merging_kept : (all : List PlacedDocumentFault) × ((map details_at kept ≡ map of_document all) × (EachOnce all × ((f : PlacedDocumentFault) → Contains all f → Fails f)))
  merging_kept =
      let seen : map told_at given ≡ map placed_details (map of_document told.0) = seen_of given ∙ ap (map placed_details) (same ∙ told.1.0) in
      let these = of_these told.0 (map details_at kept) (λ x c. subst (λ l. Contains l x) seen (keeps.from x (subst (λ l. Contains l x) (sym (seen_of kept)) c))) in
      let once : EachOnce (map placed_details (map of_document these.0)) = subst EachOnce (seen_of kept ∙ ap (map placed_details) these.1.0) keeps.once in (
        these.0,
        (
          these.1.0,
          (once_seen of_document these.0 (once_seen placed_details (map of_document these.0) once), λ f c. told.1.1 f (these.1.1 f c)),
        ),
      )

  -- the first faults of it, after another list
  module _ (old new : Telling) (is : new ≡ old ++ take most_told (map details_at kept)) where
    following : new ≡ old ++ map of_document (take most_told merging_kept.0)
    following = is ∙ ap (λ l. old ++ l) (ap (take most_told) merging_kept.1.0 ∙ take-map of_document most_told merging_kept.0)

    pub merging_first : (all : List PlacedDocumentFault) × ((new ≡ old ++ map of_document (take most_told all)) × (EachOnce all × ((f : PlacedDocumentFault) → Contains all f → Fails f)))
    merging_first = (merging_kept.0, (following, merging_kept.1.1))

    -- where the other list stays, merging tells nothing
    pub merging_silent : new ≡ old → own ≡ []
    merging_silent still =
        let none : map details_at kept ≡ [] = merging_kept.1.0 ∙ ap (map of_document) (none_told old new merging_kept.0 following still) in
        let nothing = kept_none (map told_at given) (map told_at kept) keeps (seen_of kept ∙ ap (map placed_details) none) in
        none_mapped placed_details own (ap (map placed_details) (sym same) ∙ sym (seen_of given) ∙ nothing)
