-- What is told of the parts of an operation is what it departs by.
use Rattle.std.proofs.Common.{◌≡◌, ◌↔◌, ◌⊎◌, inl, inr, List, [], ◌++◌, Contains}
use Rattle.graphql_names.specs.Placed.{Place}
use Rattle.schema_types.specs.SchemaTree.{SchemaTree}
use Rattle.spec_document.specs.MeantTree.{MeantFragment, MeantOperation, MeantDocument}
use Rattle.rule_definitions.specs.GivenValues.{Variables}
use Rattle.rule_definitions.specs.Words.{AtSomeIndex}
use Rattle.rule_definitions.proofs.Adding.{Gains, gains_list, gains_both, gains_same}
use Rattle.rule_definitions.proofs.Listing.{Lists, lists_same, lists_both, lists_index}
use Rattle.rule_definitions.specs.Room.{◌⊕◌}
use Rattle.rule_document_definitions.specs.Selected.{own}
use Rattle.rule_reach.specs.Reach.{Member, IsReach}
use Rattle.rule_reach.proofs.AtReaches.{at_reached, at_reached_fragment}
use Rattle.strict_documents.specs.Departure.{Departure}
use Rattle.strict_documents.specs.Departing.{directives_departures, selection_departures}
use Rattle.strict_documents.specs.Applying.{spread_departures}
use Rattle.strict_documents.specs.DepartsIn.{default_departures, DepartsInVariable, DepartsInOperation, DepartsAtRoot}
use Rattle.strict_documents.specs.Telling.{variable_departures, variables_departures, member_departures, members_departures, fragments_departures, reached_departures, DepartsInReached}

lists_own : {B : Type 0} (l : List B) → Lists l (λ u. Contains l u)
lists_own l u = (λ c. c, λ c. c)

module _ (t : SchemaTree Place) (d : MeantDocument Place) where
  -- of the variables of an operation
  variables_told : (vs : Variables Place) → Lists (variables_departures t vs) (λ u. AtSomeIndex vs (λ i v. DepartsInVariable t d u v.it))
  variables_told vs = lists_index vs (λ v. variable_departures t v.it) (λ i v u. DepartsInVariable t d u v.it)
      (λ i v is. lists_both (default_departures t v.it) (directives_departures t [] v.it.directives) (lists_own (default_departures t v.it)) (lists_own (directives_departures t [] v.it.directives)))

  module _ (o : MeantOperation Place) where
    -- of what it reaches
    pub reached_told : (reached : List (Member Place)) (spread : List (MeantFragment Place)) → IsReach d (own o) reached spread
        → Lists (reached_departures t o.variables d.fragments o.directives reached spread) (DepartsInReached t d o)
    reached_told reached spread reach =
        let vs = o.variables in
        let of_selection = λ (e : Member Place). selection_departures t vs e.0 e.1 in
        let of_spread = λ (e : Member Place). spread_departures t d.fragments e.0 e.1 in
        let of_fragment = λ (f : MeantFragment Place). directives_departures t vs f.directives in
        lists_both (directives_departures t vs o.directives) (members_departures t vs d.fragments reached ++ fragments_departures t vs spread) (lists_own (directives_departures t vs o.directives))
        (lists_both (members_departures t vs d.fragments reached) (fragments_departures t vs spread)
        (lists_same (members_departures t vs d.fragments reached) (λ u. at_reached d o reached spread reach (λ e. Contains (of_selection e) u ⊎ Contains (of_spread e) u))
        (lists_index reached (member_departures t vs d.fragments) (λ i e u. Contains (of_selection e) u ⊎ Contains (of_spread e) u)
        (λ i e is. lists_both (of_selection e) (of_spread e) (lists_own (of_selection e)) (lists_own (of_spread e)))))
        (lists_same (fragments_departures t vs spread) (λ u. at_reached_fragment d o reached spread reach (λ f. Contains (of_fragment f) u))
        (lists_index spread of_fragment (λ i f u. Contains (of_fragment f) u) (λ i f is. lists_own (of_fragment f)))))

    -- of all of it
    in_order : (u : Departure Place) → (AtSomeIndex o.variables (λ i v. DepartsInVariable t d u v.it) ⊎ (DepartsInReached t d o u ⊎ DepartsAtRoot t d u o)) ↔ DepartsInOperation t d u o
    in_order u = (
      λ q. elim q [
        | inl v ↦ inl v
        | inr r ↦ elim r [
          | inl a ↦ elim a [ inl c ↦ inr (inl c) | inr b ↦ elim b [ inl x ↦ inr (inr (inl x)) | inr f ↦ inr (inr (inr (inl f))) ] ]
          | inr root ↦ inr (inr (inr (inr root)))
        ]
      ],
      λ q. elim q [
        | inl v ↦ inl v
        | inr r ↦ elim r [
          | inl c ↦ inr (inl (inl c))
          | inr a ↦ elim a [
            | inl x ↦ inr (inl (inr (inl x)))
            | inr b ↦ elim b [ inl f ↦ inr (inl (inr (inr f))) | inr root ↦ inr (inr root) ]
          ]
        ]
      ],
    )

    pub operation_told : (one two three four : List (Departure Place)) → two ≡ one ⊕ variables_departures t o.variables → Gains two three (DepartsInReached t d o) → Gains three four (λ u. DepartsAtRoot t d u o)
        → Gains one four (λ u. DepartsInOperation t d u o)
    operation_told one two three four told reached roots =
        gains_same one four in_order
        (gains_both one two four (gains_list one two (variables_departures t o.variables) told (variables_told o.variables)) (gains_both two three four reached roots))
