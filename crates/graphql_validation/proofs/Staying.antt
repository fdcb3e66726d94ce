-- What breaks a rule that stays broken breaks it in each document that the document is part of.
use Rattle.std.proofs.Common.{◌≡◌, ◌⊎◌, ℕ, List, [], ◌∷◌, codes, reverse, subst, inl, inr, Contains, None, Some}
use Rattle.std.specs.List.{filter}
use Rattle.graphql_names.specs.Placed.{Placed}
use Rattle.tree_directives.specs.DirectiveQueries.{directive_has_name}
use Rattle.tree_directives.specs.declared.directive_location.DirectiveLocation.TheVariants as location
use Rattle.schema_types.specs.Addresses.{TypeAt}
use Rattle.spec_document.specs.MeantTree.{MeantSelection, MeantSet, MeantOperation, MeantFragment, MeantDocument}
use Rattle.fault_document_errors.specs.DocumentBreaches.{SubscriptionUsesConditionalSelection, DeferOnRootMutationOrSubscriptionField, DeferInSubscriptionMustBeConditional}
use Rattle.rule_cycle_search.specs.Paths.{Leads}
use Rattle.rule_definitions.specs.Diagnostics.{SpreadTree, RecursiveFragmentDefinition, InvalidFragmentTarget, InvalidFragmentSpread}
use Rattle.rule_definitions.specs.Words.{Present, AtSomeIndex}
use Rattle.rule_definitions.specs.Faults.{FaultAt, wrong}
use Rattle.rule_definitions.specs.Judged.{Judged}
use Rattle.rule_definitions.specs.Names.{directive_name}
use Rattle.rule_definitions.specs.Uses.{GivenBreaks, TakerBreaks, UsesBreak}
use Rattle.rule_document_definitions.specs.Places.{Places}
use Rattle.rule_document_definitions.specs.DocumentFaults.{Broken, broken, DocumentFault, OfData, OfDocument, OfLimit}
use Rattle.rule_document_definitions.specs.PossibleTypes.{IsNotComposite, MayApply}
use Rattle.rule_document_definitions.specs.Selected.{InFragment, Standing, operations, fragment_named, spread_name, inline_condition, selection_place, selection_location, selection_directives, operation_name}
use Rattle.rule_document_definitions.specs.Reached.{AtOperation}
use Rattle.rule_document_definitions.specs.Selections.{field_taker, FieldArgumentsBreak, DirectivesBreak}
use Rattle.rule_document_definitions.specs.Fragments.{as_spread, RefersBySpread, RecursiveFragmentDefinitionAt, InvalidFragmentTargetAt, InvalidFragmentSpreadAt}
use Rattle.rule_document_definitions.specs.DeferUses.{MayBeLeftOut, ReachedAlways, IsConditional}
use Rattle.rule_document_definitions.specs.Defer.{DeferBreaks}
use Rattle.graphql_validation.specs.Parts.{IsPartOfSet, IsPartOf}
use Rattle.graphql_validation.specs.LastingRules.{LastingDataBreaks, LastingSubscriptionBreaks, LastingBreaks, CycleBreaks}
use Rattle.graphql_validation.proofs.Fitting.{closed_fits, Fits, all_fits, as_field_fits, no_field_fits, standing_fits, leads_into, own_fits, root_fits, at_reached, at_reached_field, at_reached_fragment}

module _ {P : Type 0} (d e : MeantDocument P) (part : IsPartOf d e) where
  pub at_operation : (Q R : MeantOperation P → Type 0) → ((o : MeantOperation P) (t : MeantSet P) → IsPartOfSet o.set t → Q o → R (record o { set = t }))
      → AtOperation d Q → AtOperation e R
  at_operation Q R on (o, (c, q)) =
      let w = part.operations o c in
      (record o { set = w.1.1.0 }, (subst (λ v. Contains (operations e) v) w.1.1.1.0 w.1.0, on o w.1.1.0 w.1.1.1.1 q))

  -- ---- spreads from fragment to fragment

  refers : (n : List ℕ) (by : Placed P SpreadTree) (to : List ℕ) → RefersBySpread d n by to → RefersBySpread e n by to
  refers n by to (f, (named, (x, (c, (is, (leads, (g, (there, one)))))))) =
      let f' = part.fragments n f named in
      let g' = part.fragments to g there in
      let w = all_fits (InFragment n) (InFragment n) f.set f'.1.1.0 f'.1.1.1.1 x c in (
        record f { set = f'.1.1.0 },
        (
          subst (λ v. fragment_named e n ≡ Some v) f'.1.1.1.0 f'.1.0,
          (w.0, (w.1.0, (standing_fits (λ l m. as_spread m ≡ Some by) (λ l p h i s t q. q) (λ l p h i s t q. q) x w.0 w.1.1 is, (leads, (g'.0, (g'.1.0, one)))))),
        ),
      )

  leads : (x y : List ℕ) (bys : List (Placed P SpreadTree)) → Leads (RefersBySpread d) x bys y → Leads (RefersBySpread e) x bys y
  leads x y [] h = h
  leads x y (by ∷ rest) h = (h.0, (refers x by h.0 h.1.0, leads h.0 y rest h.1.1))

  -- ---- in an operation

  module _ (o : MeantOperation P) (t : MeantSet P) (more : IsPartOfSet o.set t) where
    -- rules under a schema

    module _ {E : Type 0} (places : Places P) (s : Judged) (fault : FaultAt P E) where
      arguments_stay : FieldArgumentsBreak s d o fault places → FieldArgumentsBreak s e (record o { set = t }) fault places
      arguments_stay h = at_reached_field d e part o t more
          (λ f. GivenBreaks places.at s o.variables f.head.arguments fault ⊎ TakerBreaks places.at s o.variables (field_taker places f) fault) (λ f q u g. g) h

      directives_stay : DirectivesBreak s d o fault places → DirectivesBreak s e (record o { set = t }) fault places
      directives_stay (inl h) = inl h
      directives_stay (inr (inl h)) =
          let On : Standing P → Type 0 = λ x. UsesBreak places.at s o.variables (selection_location x.it) (selection_directives x.it) fault in
          inr (inl (at_reached d e part o t more On On
          (λ x z fits q. standing_fits (λ l m. UsesBreak places.at s o.variables (selection_location m) (selection_directives m) fault)
          (λ l p k i a b g. g) (λ l p k i a b g. g) x z fits q) h))
      directives_stay (inr (inr h)) =
          let On : MeantFragment P → Type 0 = λ f. UsesBreak places.at s o.variables location.FragmentDefinition f.directives fault in
          inr (inr (at_reached_fragment d e part o t more On On (λ f u q. q) h))

      targets_stay : InvalidFragmentTargetAt s d o fault → InvalidFragmentTargetAt s e (record o { set = t }) fault
      targets_stay (inl h) =
          let On : MeantFragment P → Type 0 = λ f. IsNotComposite s f.type_condition.it × (fault ≡ wrong f.place (InvalidFragmentTarget (Some f.name.it) f.type_condition.it)) in
          inl (at_reached_fragment d e part o t more On On (λ f u q. q) h)
      targets_stay (inr h) =
          let On : Standing P → Type 0 = λ x. Present (inline_condition x.it) (λ c. IsNotComposite s c × (fault ≡ wrong (selection_place x.it) (InvalidFragmentTarget None c))) in
          inr (at_reached d e part o t more On On
          (λ x z fits q. standing_fits (λ l m. Present (inline_condition m) (λ c. IsNotComposite s c × (fault ≡ wrong (selection_place m) (InvalidFragmentTarget None c))))
          (λ l p k i a b g. g) (λ l p k i a b g. g) x z fits q) h)

      -- a spread of a fragment that cannot apply, in a document
      abbrev SpreadWrong : MeantDocument P → List ℕ → MeantSelection P → Type 0
      SpreadWrong w l m = Present (spread_name m) (λ n. Present (fragment_named w n) (λ f. (MayApply s l f.type_condition.it → ⊥)
          × (fault ≡ wrong (selection_place m) (InvalidFragmentSpread (Some n) l f.type_condition.it f.place (places.at (TypeAt l))))))

      abbrev InlineWrong : List ℕ → MeantSelection P → Type 0
      InlineWrong l m = Present (inline_condition m) (λ c. (MayApply s l c → ⊥)
          × (fault ≡ wrong (selection_place m) (InvalidFragmentSpread None l c (selection_place m) (places.at (TypeAt l)))))

      spread_wrong : (l : List ℕ) (m : MeantSelection P) → SpreadWrong d l m → SpreadWrong e l m
      spread_wrong l m (n, (is, (f, (named, q)))) =
          let g = part.fragments n f named in
          (n, (is, (record f { set = g.1.1.0 }, (subst (λ v. fragment_named e n ≡ Some v) g.1.1.1.0 g.1.0, q))))

      spreads_stay : InvalidFragmentSpreadAt s d o fault places → InvalidFragmentSpreadAt s e (record o { set = t }) fault places
      spreads_stay h = at_reached d e part o t more (λ x. SpreadWrong d x.parent x.it ⊎ InlineWrong x.parent x.it) (λ x. SpreadWrong e x.parent x.it ⊎ InlineWrong x.parent x.it)
          (λ x z fits q. elim q [
            | inl a ↦ inl (spread_wrong z.parent z.it (standing_fits (SpreadWrong d) (λ l p k i a b g. g) (λ l p k i a b g. g) x z fits a))
            | inr a ↦ inr (standing_fits InlineWrong (λ l p k i a b g. g) (λ l p k i a b g. g) x z fits a)
          ]) h

      cycles_stay : RecursiveFragmentDefinitionAt d fault places o → RecursiveFragmentDefinitionAt e fault places (record o { set = t })
      cycles_stay h =
          let On : MeantDocument P → MeantFragment P → Type 0 = λ w f. (by : Placed P SpreadTree) × ((rest : List (Placed P SpreadTree)) × (
          Leads (RefersBySpread w) f.name.it (by ∷ rest) f.name.it
          × ((head : P) × (places.Spans f.place f.name.place head
          × (fault ≡ wrong f.place (RecursiveFragmentDefinition head f.name.it (reverse (by ∷ rest)))))))) in
          at_reached_fragment d e part o t more (On d) (On e) (λ f u q. (q.0, (q.1.0, (leads f.name.it f.name.it (q.0 ∷ q.1.0) q.1.1.0, q.1.1.1)))) h

      data_stay : LastingDataBreaks places s d o fault → LastingDataBreaks places s e (record o { set = t }) fault
      data_stay (inl h) = inl h
      data_stay (inr (inl (inl h))) = inr (inl (inl (arguments_stay h)))
      data_stay (inr (inl (inr h))) = inr (inl (inr (directives_stay h)))
      data_stay (inr (inr (inl h))) = inr (inr (inl (targets_stay h)))
      data_stay (inr (inr (inr h))) = inr (inr (inr (spreads_stay h)))

    -- ---- rules on `@defer` and on subscriptions

    module _ (fault : Broken P) where
      -- what is not left out is not left out
      stays_in : (x z : Standing P) → Fits x z → (MayBeLeftOut x → ⊥) → MayBeLeftOut z → ⊥
      stays_in x z fits h = standing_fits (λ l m. MayBeLeftOut (record { position = InFragment []; parent = l; it = m }) → ⊥)
          (λ l p k i a b g. g) (λ l p k i a b g. g) x z fits h

      always_fits : (x : Standing P) → ReachedAlways d o x → (z : Standing P) × (ReachedAlways e (record o { set = t }) z × Fits x z)
      always_fits x r = closed_fits Fits
          (λ y h. let p = own_fits d e part o t more y h.0 in (p.0, ((p.1.0, stays_in y p.0 p.1.1 h.1), p.1.1)))
          (λ y z w fits h. let p = leads_into d e part y z w fits h.0 in (p.0, ((p.1.0, stays_in z p.0 p.1.1 h.1), p.1.1)))
          x r

      defers_stay : DeferBreaks d o fault → DeferBreaks e (record o { set = t }) fault
      defers_stay (inl (other, (x, (r, (none, at))))) =
          let p = root_fits d e part o t more x r in
          inl (
            other,
            (
              p.0,
              (
                p.1.0,
                (
                  no_field_fits x p.0 p.1.1 none,
                  standing_fits (λ l m. AtSomeIndex (filter (directive_has_name (codes "defer")) (selection_directives m)) (λ i u.
                      fault ≡ broken u.place (DeferOnRootMutationOrSubscriptionField o.operation_type)))
                      (λ l p k i a b g. g) (λ l p k i a b g. g) x p.0 p.1.1 at,
                ),
              ),
            ),
          )
      defers_stay (inr (subscribes, (x, (r, at)))) =
          let p = always_fits x r in
          inr (
            subscribes,
            (
              p.0,
              (
                p.1.0,
                standing_fits (λ l m. AtSomeIndex (filter (directive_has_name (codes "defer")) (selection_directives m)) (λ i u.
                    (IsConditional u → ⊥) × (fault ≡ broken u.place DeferInSubscriptionMustBeConditional)))
                    (λ l p k i a b g. g) (λ l p k i a b g. g) x p.0 p.1.1 at,
              ),
            ),
          )

      subscriptions_stay : LastingSubscriptionBreaks d o fault → LastingSubscriptionBreaks e (record o { set = t }) fault
      subscriptions_stay (subscribes, inl (f, ((x, (r, is)), told))) =
          let p = root_fits d e part o t more x r in
          let g = as_field_fits x p.0 p.1.1 f is in
          (subscribes, inl (record f { position = g.0; set = g.1.0 }, ((p.0, (p.1.0, g.1.1)), told)))
      subscriptions_stay (subscribes, inr (x, (r, at))) =
          let p = root_fits d e part o t more x r in (
            subscribes,
            inr (
              p.0,
              (
                p.1.0,
                standing_fits (λ l m. AtSomeIndex (selection_directives m) (λ i u. Contains (codes "skip" ∷ codes "include" ∷ []) (directive_name u)
                    × (fault ≡ broken u.place (SubscriptionUsesConditionalSelection (operation_name o)))))
                    (λ l p k i a b g. g) (λ l p k i a b g. g) x p.0 p.1.1 at,
              ),
            ),
          )

      document_stays : DeferBreaks d o fault ⊎ LastingSubscriptionBreaks d o fault → DeferBreaks e (record o { set = t }) fault ⊎ LastingSubscriptionBreaks e (record o { set = t }) fault
      document_stays (inl h) = inl (defers_stay h)
      document_stays (inr h) = inr (subscriptions_stay h)

  -- ---- of the document

  module _ {E : Type 0} (places : Places P) (s : Judged) where
    pub lasting_stays : (fault : DocumentFault P E) → LastingBreaks places s d fault → LastingBreaks places s e fault
    lasting_stays (OfData fault) h = at_operation (λ o. LastingDataBreaks places s d o fault) (λ o. LastingDataBreaks places s e o fault) (λ o t more q. data_stay o t more places s fault q) h
    lasting_stays (OfDocument fault) h = at_operation (λ o. DeferBreaks d o fault ⊎ LastingSubscriptionBreaks d o fault) (λ o. DeferBreaks e o fault ⊎ LastingSubscriptionBreaks e o fault)
        (λ o t more q. document_stays o t more fault q) h
    lasting_stays (OfLimit place) h = h

    pub cycle_stays : (fault : DocumentFault P E) → CycleBreaks places d fault → CycleBreaks places e fault
    cycle_stays (OfData fault) h = at_operation (λ o. RecursiveFragmentDefinitionAt d fault places o) (λ o. RecursiveFragmentDefinitionAt e fault places o) (λ o t more q. cycles_stay o t more places s fault q) h
    cycle_stays (OfDocument fault) h = h
    cycle_stays (OfLimit place) h = h
