-- What the checks tell of the members of the lists is what the rules tell of all that the operation reaches.
use Rattle.std.proofs.Common.{◌≡◌, ◌↔◌, ◌⊎◌, List, refl, sym, subst, inl, inr}
use Rattle.graphql_names.specs.Placed.{Place}
use Rattle.tree_directives.specs.DirectiveTree.{Directives}
use Rattle.tree_directives.specs.OperationQueries.{location_of_operation}
use Rattle.tree_directives.specs.declared.directive_location.DirectiveLocation.{DirectiveLocation}
use Rattle.tree_directives.specs.declared.directive_location.DirectiveLocation.TheVariants as location
use Rattle.schema_types.specs.SchemaTree.{SchemaTree}
use Rattle.schema_types.specs.Addresses.{place_at}
use Rattle.spec_document.specs.MeantTree.{MeantOperation, MeantFragment, MeantDocument}
use Rattle.rule_definitions.specs.Words.{Present, AtSomeIndex}
use Rattle.rule_definitions.specs.Judged.{judged}
use Rattle.rule_definitions.specs.PlacedFaults.{PlacedFault}
use Rattle.rule_definitions.specs.Uses.{UsesBreak}
use Rattle.rule_document_definitions.specs.Selected.{StandingField, own, selection_location, selection_directives}
use Rattle.rule_document_definitions.specs.Reached.{AtReached, AtReachedField, AtReachedFragment}
use Rattle.rule_document_definitions.specs.Contents.{content}
use Rattle.rule_document_definitions.specs.Selections.{SelectionsBreak}
use Rattle.rule_document_definitions.specs.Standalone.{UsesBreakAlone, GivenInBreaks}
use Rattle.rule_document_definitions.specs.PlacedDocumentFaults.{place_or_built_in, places_in, places_alone}
use Rattle.rule_arguments.specs.Alone.{ArgumentsBreak, DirectivesAloneBreak}
use Rattle.rule_reach.specs.Reach.{Member, IsReach, field_of}
use Rattle.rule_reach.proofs.AtReaches.{at_reached, at_reached_field, at_reached_fragment}
use Rattle.rule_selections.specs.SelectionFaults.{MissesSubselection, ArgumentsOfBreak, SelectionBreaks, SelectionAloneBreaks}
use Rattle.rule_selections.proofs.SameUses.{same_uses}

module _ (d : MeantDocument Place) (o : MeantOperation Place) (reached : List (Member Place)) (spread : List (MeantFragment Place)) (reach : IsReach d (own o) reached spread) where
  -- ---- under a schema

  module _ (s : SchemaTree Place) (f : PlacedFault) where
    abbrev Told : DirectiveLocation → Directives Place → Type 0
    Told l ds = UsesBreak (place_at s) (judged s) o.variables l ds f

    abbrev Breaks : DirectiveLocation → Directives Place → Type 0
    Breaks l ds = UsesBreak (place_or_built_in s) (judged s) o.variables l ds f

    to : (l : DirectiveLocation) (ds : Directives Place) → Told l ds → Breaks l ds
    to l ds h = subst (λ X. X) (sym (same_uses s o.variables l ds f)) h

    back : (l : DirectiveLocation) (ds : Directives Place) → Breaks l ds → Told l ds
    back l ds h = subst (λ X. X) (same_uses s o.variables l ds f) h

    abbrev Missing : StandingField Place → Type 0
    Missing x = MissesSubselection s x f

    abbrev Arguments : StandingField Place → Type 0
    Arguments x = ArgumentsOfBreak s o.variables x f

    at_field : (Q : StandingField Place → Type 0) → ((x : StandingField Place) → Q x ≡ Q (content x)) → AtSomeIndex reached (λ i e. Present (field_of e) Q) ↔ AtReachedField d o Q
    at_field Q blind = at_reached_field d o reached spread reach Q blind

    at_selection : AtSomeIndex reached (λ i e. Breaks (selection_location e.1) (selection_directives e.1)) ↔ AtReached d o (λ x. Breaks (selection_location x.it) (selection_directives x.it))
    at_selection = at_reached d o reached spread reach (λ e. Breaks (selection_location e.1) (selection_directives e.1))

    at_fragment : AtSomeIndex spread (λ i x. Breaks location.FragmentDefinition x.directives) ↔ AtReachedFragment d o (λ x. Breaks location.FragmentDefinition x.directives)
    at_fragment = at_reached_fragment d o reached spread reach (λ x. Breaks location.FragmentDefinition x.directives)

    -- what is told of the operation's directives, of the selections, and of the fragments
    abbrev pub SelectionsTold : Type 0
    SelectionsTold = Told (location_of_operation o.operation_type) o.directives
        ⊎ (AtSomeIndex reached (λ i e. SelectionBreaks s o.variables e f) ⊎ AtSomeIndex spread (λ i x. Told location.FragmentDefinition x.directives))

    pub selections_break : SelectionsTold ↔ SelectionsBreak (places_in s) (judged s) d o f
    selections_break = (there, here)
      where
        there : SelectionsTold → SelectionsBreak (places_in s) (judged s) d o f
        there (inl u) = inr (inr (inl (to (location_of_operation o.operation_type) o.directives u)))
        there (inr (inl (i, (e, (at, inl u))))) = inr (inr (inr (inl (at_selection.0 (i, (e, (at, to (selection_location e.1) (selection_directives e.1) u)))))))
        there (inr (inl (i, (e, (at, inr (x, (is, inl m))))))) = inl ((at_field Missing (λ x. refl)).0 (i, (e, (at, (x, (is, m))))))
        there (inr (inl (i, (e, (at, inr (x, (is, inr a))))))) = inr (inl ((at_field Arguments (λ x. refl)).0 (i, (e, (at, (x, (is, a)))))))
        there (inr (inr (i, (x, (at, u))))) = inr (inr (inr (inr (at_fragment.0 (i, (x, (at, to location.FragmentDefinition x.directives u)))))))

        here : SelectionsBreak (places_in s) (judged s) d o f → SelectionsTold
        here (inl m) = let (i, (e, (at, (x, (is, h))))) = (at_field Missing (λ x. refl)).1 m in inr (inl (i, (e, (at, inr (x, (is, inl h))))))
        here (inr (inl a)) = let (i, (e, (at, (x, (is, h))))) = (at_field Arguments (λ x. refl)).1 a in inr (inl (i, (e, (at, inr (x, (is, inr h))))))
        here (inr (inr (inl u))) = inl (back (location_of_operation o.operation_type) o.directives u)
        here (inr (inr (inr (inl u)))) = let (i, (e, (at, h))) = at_selection.1 u in inr (inl (i, (e, (at, inl (back (selection_location e.1) (selection_directives e.1) h)))))
        here (inr (inr (inr (inr u)))) = let (i, (x, (at, h))) = at_fragment.1 u in inr (inr (i, (x, (at, back location.FragmentDefinition x.directives h))))

  -- ---- without a schema

  module _ (f : PlacedFault) where
    uses_alone : (ds : Directives Place) → DirectivesAloneBreak ds f → UsesBreakAlone places_alone d f ds
    uses_alone ds (i, (e, (at, inl a))) = (i, (e, (at, inr a)))
    uses_alone ds (i, (e, (at, inr u))) = (i, (e, (at, inl (refl, u))))

    told_alone : (ds : Directives Place) → UsesBreakAlone places_alone d f ds → DirectivesAloneBreak ds f
    told_alone ds (i, (e, (at, inl u))) = (i, (e, (at, inr u.1)))
    told_alone ds (i, (e, (at, inr a))) = (i, (e, (at, inl a)))

    abbrev Given : StandingField Place → Type 0
    Given x = ArgumentsBreak x.head.arguments f

    given_at : AtSomeIndex reached (λ i e. Present (field_of e) Given) ↔ AtReachedField d o Given
    given_at = at_reached_field d o reached spread reach Given (λ x. refl)

    used_at : AtSomeIndex reached (λ i e. UsesBreakAlone places_alone d f (selection_directives e.1)) ↔ AtReached d o (λ x. UsesBreakAlone places_alone d f (selection_directives x.it))
    used_at = at_reached d o reached spread reach (λ e. UsesBreakAlone places_alone d f (selection_directives e.1))

    fragment_at : AtSomeIndex spread (λ i x. UsesBreakAlone places_alone d f x.directives) ↔ AtReachedFragment d o (λ x. UsesBreakAlone places_alone d f x.directives)
    fragment_at = at_reached_fragment d o reached spread reach (λ x. UsesBreakAlone places_alone d f x.directives)

    -- what is told of the directives of the operation and of its variables, of the selections, and of the fragments
    abbrev pub AloneTold : Type 0
    AloneTold = DirectivesAloneBreak o.directives f ⊎ (AtSomeIndex o.variables (λ i x. DirectivesAloneBreak x.it.directives f)
        ⊎ (AtSomeIndex reached (λ i e. SelectionAloneBreaks e f) ⊎ AtSomeIndex spread (λ i x. DirectivesAloneBreak x.directives f)))

    pub given_in_breaks : AloneTold ↔ GivenInBreaks places_alone d f o
    given_in_breaks = (there, here)
      where
        there : AloneTold → GivenInBreaks places_alone d f o
        there (inl u) = inl (uses_alone o.directives u)
        there (inr (inl (i, (x, (at, u))))) = inr (inl (i, (x, (at, uses_alone x.it.directives u))))
        there (inr (inr (inl (i, (e, (at, inl u)))))) = inr (inr (inl (used_at.0 (i, (e, (at, uses_alone (selection_directives e.1) u))))))
        there (inr (inr (inl (i, (e, (at, inr a)))))) = inr (inr (inr (inl (given_at.0 (i, (e, (at, a)))))))
        there (inr (inr (inr (i, (x, (at, u)))))) = inr (inr (inr (inr (fragment_at.0 (i, (x, (at, uses_alone x.directives u)))))))

        here : GivenInBreaks places_alone d f o → AloneTold
        here (inl u) = inl (told_alone o.directives u)
        here (inr (inl (i, (x, (at, u))))) = inr (inl (i, (x, (at, told_alone x.it.directives u))))
        here (inr (inr (inl u))) = let (i, (e, (at, h))) = used_at.1 u in inr (inr (inl (i, (e, (at, inl (told_alone (selection_directives e.1) h))))))
        here (inr (inr (inr (inl a)))) = let (i, (e, (at, h))) = given_at.1 a in inr (inr (inl (i, (e, (at, inr h)))))
        here (inr (inr (inr (inr u)))) = let (i, (x, (at, h))) = fragment_at.1 u in inr (inr (inr (i, (x, (at, told_alone x.directives h)))))
