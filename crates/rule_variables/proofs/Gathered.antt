-- The names that are gathered are those of the variables that the operation uses.
use Rattle.std.proofs.Common.{◌≡◌, ◌↔◌, ◌⊎◌, inl, inr, ℕ, List, [], ◌∷◌, length, Contains, is_some, true≢false, refl, sym, ap}
use Rattle.graphql_names.specs.Placed.{Place}
use Rattle.spec_document.specs.MeantTree.{MeantOperation, MeantFragment, MeantDocument}
use Rattle.rule_definitions.specs.Words.{AtSomeIndex}
use Rattle.rule_definitions.specs.PlacedFaults.{PlacedFault}
use Rattle.rule_definitions.proofs.Lists.{not_in_nil}
use Rattle.schema_types.specs.Addresses.{Address}
use Rattle.rule_document_definitions.specs.Selected.{own}
use Rattle.rule_document_definitions.specs.Reached.{AtReached, AtReachedFragment}
use Rattle.rule_document_definitions.specs.UsedVariables.{IsInDirectives, IsInSelection, IsUsedIn}
use Rattle.rule_document_definitions.specs.Variables.{UnusedVariableAt}
use Rattle.rule_reach.specs.Reach.{Member, IsReach}
use Rattle.rule_reach.proofs.AtReaches.{at_reached, at_reached_fragment}
use Rattle.rule_variables.specs.Parts.{places_with, VariablesBreakAlone}
use Rattle.rule_reach.specs.UsedNames.{with_directives, with_selection}
use Rattle.rule_variables.specs.UsedNames.{with_members, with_fragments, with_used}
use Rattle.rule_variables.specs.VariableFaults.{UnusedAmong, AloneBreaks}
use Rattle.rule_reach.proofs.UsedNames.{StandsHere, in_directives, in_fold, in_selection}
use Rattle.rule_variables.proofs.Names.{stands_here}
use Rattle.rule_variables.proofs.Told.{index_same}

module _ (d : MeantDocument Place) (o : MeantOperation Place) (members : List (Member Place)) (fragments : List (MeantFragment Place)) (reach : IsReach d (own o) members fragments) where
  module _ (n : List ℕ) where
    in_members : (ns : List (List ℕ)) → Contains (with_members ns members) n ↔ (Contains ns n ⊎ AtSomeIndex members (λ i e. StandsHere n e.1))
    in_members ns = in_fold (λ ms (e : Member Place). with_selection ms e.1) (λ e. StandsHere n e.1) n (λ ms e. in_selection n ms e.1) ns members

    in_fragments : (ns : List (List ℕ)) → Contains (with_fragments ns fragments) n ↔ (Contains ns n ⊎ AtSomeIndex fragments (λ i f. IsInDirectives n f.directives))
    in_fragments ns = in_fold (λ ms (f : MeantFragment Place). with_directives ms f.directives) (λ f. IsInDirectives n f.directives) n (λ ms f. in_directives n ms f.directives) ns fragments

    selected : AtSomeIndex members (λ i e. StandsHere n e.1) ↔ AtReached d o (IsInSelection n)
    selected =
        let there = at_reached d o members fragments reach (λ (e : Member Place). StandsHere n e.1) in (
          λ a. let r = there.0 a in (r.0, (r.1.0, (stands_here n r.0).0 r.1.1)),
          λ r. there.1 (r.0, (r.1.0, (stands_here n r.0).1 r.1.1)),
        )

    spread : AtSomeIndex fragments (λ i f. IsInDirectives n f.directives) ↔ AtReachedFragment d o (λ f. IsInDirectives n f.directives)
    spread = at_reached_fragment d o members fragments reach (λ (f : MeantFragment Place). IsInDirectives n f.directives)

    used_is : Contains (with_used [] o.directives members fragments) n ↔ IsUsedIn n d o
    used_is = (
      λ c. elim ((in_fragments (with_members (with_directives [] o.directives) members)).0 c) [
        | inl b ↦ elim ((in_members (with_directives [] o.directives)).0 b) [
          | inl a ↦ elim ((in_directives n [] o.directives).0 a) [ inl none ↦ not_in_nil n none | inr e ↦ inl e ]
          | inr m ↦ inr (inl (selected.0 m))
        ]
        | inr f ↦ inr (inr (spread.0 f))
      ],
      λ u. (in_fragments (with_members (with_directives [] o.directives) members)).1 (elim u [
        | inl e ↦ inl ((in_members (with_directives [] o.directives)).1 (inl ((in_directives n [] o.directives).1 (inr e))))
        | inr r ↦ elim r [ inl m ↦ inl ((in_members (with_directives [] o.directives)).1 (inr (selected.1 m))) | inr f ↦ inr (spread.1 f) ]
      ]),
    )

  -- a variable whose name is not gathered is not used
  unused_is : (at : Address → Place) (f : PlacedFault) → AtSomeIndex o.variables (λ i x. UnusedAmong (with_used [] o.directives members fragments) x f) ↔ UnusedVariableAt o f (places_with at) d
  unused_is at f = index_same o.variables (λ i x. UnusedAmong (with_used [] o.directives members fragments) x f) _ (λ i x. (
    λ q. (λ u. q.0 ((used_is (x.it.name.it)).1 u), q.1),
    λ q. (λ c. q.0 ((used_is (x.it.name.it)).0 c), q.1),
  ))

  -- what the variables break alone is what the rules say of the operation
  pub alone_is : (at : Address → Place) (f : PlacedFault) → AloneBreaks o.variables (with_used [] o.directives members fragments) f ↔ VariablesBreakAlone at d o f
  alone_is at f = (
    λ h. elim h [ inl u ↦ inl u | inr r ↦ elim r [ inl k ↦ inr (inl k) | inr n ↦ inr (inr ((unused_is at f).0 n)) ] ],
    λ h. elim h [ inl u ↦ inl u | inr r ↦ elim r [ inl k ↦ inr (inl k) | inr n ↦ inr (inr ((unused_is at f).1 n)) ] ],
  )

pub no_items : {X : Type 0} (xs : List X) → length xs ≡ 0 → xs ≡ []
no_items [] e = refl
no_items (x ∷ xs) e = absurd cc

-- of no variables nothing is told alone
none_at : {X : Type 0} (P : ℕ → X → Type 0) → AtSomeIndex [] P → ⊥
none_at P q = true≢false (sym (ap is_some q.1.1.0))

pub none_break : (used : List (List ℕ)) (f : PlacedFault) → AloneBreaks [] used f → ⊥
none_break used f h = elim h [ inl u ↦ none_at _ u | inr r ↦ elim r [ inl k ↦ none_at _ k | inr n ↦ none_at _ n ] ]
