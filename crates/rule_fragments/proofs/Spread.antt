-- What is told of fragments where they stand is what breaks InvalidFragmentSpread.
use Rattle.std.proofs.Common.{◌≡◌, ◌⊎◌, inl, inr, ◌∙◌, ℕ, Bool, true, List, [], ◌∷◌, refl, ap, sym, subst, Option, None, Some, is_some, true≢false, Contains, bytes_eq, if◌then◌else◌}
use Rattle.std.specs.List.{flat_map}
use Rattle.std.specs.Option.{option_map, option_map_or}
use Rattle.std.proofs.lemmas.List.Elements.{All-contains}
use Rattle.std.proofs.lemmas.List.Sums.{AllPass-from_list_all}
use Rattle.std.proofs.lemmas.Option.{same_Some}
use Rattle.std.proofs.lemmas.Slice.Eq.{bytes_eq-Decides}
use Rattle.graphql_names.specs.Placed.{Place, Text}
use Rattle.schema_components.specs.Names.{Entries}
use Rattle.schema_types.specs.SchemaTree.{SchemaTree}
use Rattle.schema_types.specs.Addresses.{TypeAt, under}
use Rattle.spec_document.specs.MeantTree.{MeantSelection, MeantField, MeantSpread, MeantInline, MeantOperation, MeantFragment, MeantDocument}
use Rattle.rule_definitions.specs.Diagnostics.{InvalidFragmentSpread}
use Rattle.rule_definitions.specs.Faults.{wrong}
use Rattle.rule_definitions.specs.Judged.{judged}
use Rattle.rule_definitions.specs.PlacedFaults.{PlacedFault}
use Rattle.rule_definitions.specs.Words.{Present}
use Rattle.rule_document_definitions.specs.Selected.{spread_name, inline_condition, selection_place, own}
use Rattle.rule_document_definitions.specs.PossibleTypes.{MayApply}
use Rattle.rule_document_definitions.specs.Fragments.{InvalidFragmentTargetAt, InvalidFragmentSpreadAt}
use Rattle.rule_document_definitions.specs.PlacedDocumentFaults.{places_in, place_or_built_in}
use Rattle.rule_definitions.proofs.Listing.{present_known}
use Rattle.rule_definitions.proofs.Listing.{Lists, lists_same, lists_nothing, lists_unless, lists_index}
use Rattle.rule_definitions.specs.Room.{◌⊕◌}
use Rattle.rule_definitions.proofs.Adding.{Gains, gains_list, gains_both, gains_nothing}
use Rattle.rule_reach.specs.Reach.{Member, IsReach}
use Rattle.rule_reach.proofs.AtReaches.{at_reached}
use Rattle.rule_fragments.specs.Held.{may_apply}
use Rattle.rule_fragments.specs.Possible.{ObjectsOfTypes, ArePossible}
use Rattle.rule_fragments.specs.Applied.{ApplicationTree, is_on_its_type, all_are_on_their_types, spread_told, application_fault, invalid_fragment_spread}
use Rattle.rule_fragments.proofs.Sharing.{refused}

none_is : {A B : Type 0} (x : A) → None ≡ Some x → B
none_is x e = absurd (true≢false (sym (ap is_some e)))

module _ (s : SchemaTree Place) (fragments : Entries (MeantFragment Place)) (t : List ℕ) where
  abbrev Refused : ApplicationTree → PlacedFault → Type 0
  Refused a f = (MayApply (judged s) t a.condition → ⊥) × (f ≡ spread_told s t a)

  -- the rule at a selection
  abbrev Breaks : MeantSelection Place → PlacedFault → Type 0
  Breaks x f =
      Present (spread_name x) (λ n. Present (under n fragments) (λ g. (MayApply (judged s) t g.type_condition.it → ⊥)
      × (f ≡ wrong (selection_place x) (InvalidFragmentSpread (Some n) t g.type_condition.it g.place (place_or_built_in s (TypeAt t))))))
      ⊎ Present (inline_condition x) (λ c. (MayApply (judged s) t c → ⊥)
      × (f ≡ wrong (selection_place x) (InvalidFragmentSpread None t c (selection_place x) (place_or_built_in s (TypeAt t)))))

  abbrev of_spread : (at : Place) (n : Text Place) → MeantFragment Place → ApplicationTree
  of_spread at n g = record { name = Some n.it; condition = g.type_condition.it; place = at; fragment_place = g.place }

  abbrev of_inline : (at : Place) → Text Place → ApplicationTree
  of_inline at n = record { name = None; condition = n.it; place = at; fragment_place = at }

  -- it holds where the selection applies no fragment, or one on the type itself
  abbrev on_its_type : Option ApplicationTree → Bool
  on_its_type o = option_map_or (λ a. bytes_eq a.condition t) o true

  unbroken : (x : MeantSelection Place) → is_on_its_type fragments (t, x) ≡ true → (f : PlacedFault) → Breaks x f → ⊥
  unbroken (MeantField at d h v) stands f q = elim q [ inl h' ↦ none_is h'.0 h'.1.0 | inr h' ↦ none_is h'.0 h'.1.0 ]
  unbroken (MeantSpread at n ds) stands f q = elim q [
    | inl h ↦
        let g = h.1.1.0 in
        let has : under n.it fragments ≡ Some g = ap (λ m. under m fragments) (same_Some n.it h.0 h.1.0) ∙ h.1.1.1.0 in
        h.1.1.1.1.0 (inl ((bytes_eq-Decides g.type_condition.it t).0 (sym (ap (λ o. on_its_type (option_map (of_spread at n) o)) has) ∙ stands)))
    | inr h ↦ none_is h.0 h.1.0
  ]
  unbroken (MeantInline at None ds v) stands f q = elim q [ inl h ↦ none_is h.0 h.1.0 | inr h ↦ none_is h.0 h.1.0 ]
  unbroken (MeantInline at (Some c) ds v) stands f q = elim q [
    | inl h ↦ none_is h.0 h.1.0
    | inr h ↦ h.1.1.0 (inl (sym (same_Some c.it h.0 h.1.0) ∙ (bytes_eq-Decides c.it t).0 stands))
  ]

  -- what is told of it
  module _ (p : ObjectsOfTypes) (possible : ArePossible (judged s) p) where
    lists_application : (a : ApplicationTree) → Lists (application_fault s p t a) (Refused a)
    lists_application a =
        let b = may_apply p t a.condition in
        let x : PlacedFault = spread_told s t a in
        let is = refused (judged s) p possible t a.condition in
        lists_same (if b then [] else x ∷ []) (λ f. (λ h. (is.0 h.0, h.1), λ h. (is.1 h.0, h.1))) (lists_unless b x)

    -- of what is there
    of_present : {X : Type 0} (made : X → ApplicationTree) (o : Option X) → Lists (option_map_or (application_fault s p t) (option_map made o) []) (λ f. Present o (λ x. Refused (made x) f))
    of_present made None = lists_nothing (λ f. Present None (λ x. Refused (made x) f)) (λ f h. none_is h.0 h.1.0)
    of_present made (Some x) = lists_same (application_fault s p t (made x)) (λ f. present_known (Some x) x (λ y. Refused (made y) f) refl) (lists_application (made x))

    pub lists_spread : (x : MeantSelection Place) → Lists (invalid_fragment_spread s p fragments (t, x)) (Breaks x)
    lists_spread (MeantField at d h v) = lists_nothing (Breaks (MeantField at d h v)) (λ f h'. elim h' [ inl q ↦ none_is q.0 q.1.0 | inr q ↦ none_is q.0 q.1.0 ])
    lists_spread (MeantSpread at n ds) =
        lists_same (option_map_or (application_fault s p t) (option_map (of_spread at n) (under n.it fragments)) [])
        (λ f. (
          λ h. inl ((present_known (Some n.it) n.it (λ m. Present (under m fragments) (λ g. (MayApply (judged s) t g.type_condition.it → ⊥) × (f ≡ wrong at (InvalidFragmentSpread (Some m) t g.type_condition.it g.place (place_or_built_in s (TypeAt t)))))) refl).0 h),
          λ q. elim q [
            | inl h ↦ (present_known (Some n.it) n.it (λ m. Present (under m fragments) (λ g. (MayApply (judged s) t g.type_condition.it → ⊥) × (f ≡ wrong at (InvalidFragmentSpread (Some m) t g.type_condition.it g.place (place_or_built_in s (TypeAt t)))))) refl).1 h
            | inr h ↦ none_is h.0 h.1.0
          ],
        ))
        (of_present (of_spread at n) (under n.it fragments))
    lists_spread (MeantInline at None ds v) = lists_nothing (Breaks (MeantInline at None ds v)) (λ f h. elim h [ inl q ↦ none_is q.0 q.1.0 | inr q ↦ none_is q.0 q.1.0 ])
    lists_spread (MeantInline at (Some c) ds v) =
        lists_same (application_fault s p t (of_inline at c))
        (λ f. (
          λ h. inr ((present_known (Some c.it) c.it (λ m. (MayApply (judged s) t m → ⊥) × (f ≡ wrong at (InvalidFragmentSpread None t m at (place_or_built_in s (TypeAt t))))) refl).0 h),
          λ q. elim q [
            | inl h ↦ none_is h.0 h.1.0
            | inr h ↦ (present_known (Some c.it) c.it (λ m. (MayApply (judged s) t m → ⊥) × (f ≡ wrong at (InvalidFragmentSpread None t m at (place_or_built_in s (TypeAt t))))) refl).1 h
          ],
        ))
        (lists_application (of_inline at c))

-- what is told of all that is reached
module _ (d : MeantDocument Place) (o : MeantOperation Place) (reached : List (Member Place)) (spread : List (MeantFragment Place)) (reach : IsReach d (own o) reached spread) (s : SchemaTree Place) (p : ObjectsOfTypes) (possible : ArePossible (judged s) p) where
  pub lists_spreads : (fragments : Entries (MeantFragment Place)) → d.fragments ≡ fragments → Lists (flat_map (invalid_fragment_spread s p fragments) reached) (λ f. InvalidFragmentSpreadAt (judged s) d o f (places_in s))
  lists_spreads fragments same =
      subst (λ (fs : Entries (MeantFragment Place)). Lists (flat_map (invalid_fragment_spread s p fs) reached) (λ f. InvalidFragmentSpreadAt (judged s) d o f (places_in s))) same
      (lists_same (flat_map (invalid_fragment_spread s p d.fragments) reached) (λ f. at_reached d o reached spread reach (λ e. Breaks s d.fragments e.0 e.1 f))
      (lists_index reached (invalid_fragment_spread s p d.fragments) (λ i e f. Breaks s d.fragments e.0 e.1 f) (λ i e is. lists_spread s d.fragments e.0 p possible e.1)))

  -- with what is told of the types of fragments before
  pub gains_applications : (fragments : Entries (MeantFragment Place)) → d.fragments ≡ fragments → (a b c : List PlacedFault) → Gains a b (λ f. InvalidFragmentTargetAt (judged s) d o f)
      → c ≡ b ⊕ flat_map (invalid_fragment_spread s p fragments) reached
      → Gains a c (λ f. InvalidFragmentTargetAt (judged s) d o f ⊎ InvalidFragmentSpreadAt (judged s) d o f (places_in s))
  gains_applications fragments same a b c before told =
      gains_both a b c before (gains_list b c (flat_map (invalid_fragment_spread s p fragments) reached) told (lists_spreads fragments same))

-- of selections that apply no fragment, or one on the type of their set, nothing is told, whatever types are possible
module _ (d : MeantDocument Place) (o : MeantOperation Place) (reached : List (Member Place)) (spread : List (MeantFragment Place)) (reach : IsReach d (own o) reached spread) (s : SchemaTree Place) (fragments : Entries (MeantFragment Place)) (same : d.fragments ≡ fragments) where
  each_stands : all_are_on_their_types fragments reached ≡ true → (e : Member Place) → Contains reached e → is_on_its_type d.fragments e ≡ true
  each_stands all e there =
      let here = ap (λ fs. all_are_on_their_types fs reached) same ∙ all in
      All-contains (λ e. is_on_its_type d.fragments e ≡ true) reached e (AllPass-from_list_all (is_on_its_type d.fragments) reached here) there

  pub gains_on_their_types : all_are_on_their_types fragments reached ≡ true → (a b : List PlacedFault) → Gains a b (λ f. InvalidFragmentTargetAt (judged s) d o f)
      → Gains a b (λ f. InvalidFragmentTargetAt (judged s) d o f ⊎ InvalidFragmentSpreadAt (judged s) d o f (places_in s))
  gains_on_their_types all a b before =
      gains_both a b b before (gains_nothing b (λ f. InvalidFragmentSpreadAt (judged s) d o f (places_in s)) (λ f h.
      let x = h.0 in
      unbroken s d.fragments x.parent x.it (each_stands all (x.parent, x.it) ((reach.selections (x.parent, x.it)).1 (x, (h.1.0, refl)))) f h.1.1))
