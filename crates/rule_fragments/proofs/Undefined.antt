-- What is told of spreads is what breaks UndefinedFragment.
use Rattle.std.proofs.Common.{◌≡◌, ◌∙◌, ℕ, true, false, List, [], ◌∷◌, refl, ap, sym, subst, Option, None, Some, is_some, true≢false}
use Rattle.std.specs.List.{flat_map}
use Rattle.std.specs.Option.{option_map_or}
use Rattle.graphql_names.specs.Node.{content, place}
use Rattle.graphql_names.specs.Placed.{Place}
use Rattle.graphql_names.specs.declared.node.Node.{Node}
use Rattle.schema_components.specs.Names.{Entries}
use Rattle.schema_types.specs.Addresses.{under}
use Rattle.document_typed_selections.specs.TypedTree.{TypedSelection}
use Rattle.document_typed_selections.specs.TypedParts.{typed_spread_node, as_typed_spread}
use Rattle.document_typed_selections.specs.declared.selection.FragmentSpread.{FragmentSpread}
use Rattle.spec_document.specs.MeantTree.{MeantSelection, MeantOperation, MeantFragment, MeantDocument, meant}
use Rattle.rule_definitions.specs.Diagnostics.{UndefinedFragment}
use Rattle.rule_definitions.specs.Faults.{wrong}
use Rattle.rule_definitions.specs.PlacedFaults.{PlacedFault}
use Rattle.rule_definitions.specs.Words.{Present}
use Rattle.rule_document_definitions.specs.Selected.{selection_place, spread_name, fragment_named, own}
use Rattle.rule_document_definitions.specs.Fragments.{UndefinedFragmentAt}
use Rattle.rule_definitions.proofs.Listing.{Lists, lists_same, lists_present, lists_absent, lists_index}
use Rattle.rule_reach.specs.Reach.{Member, IsReach}
use Rattle.rule_reach.proofs.AtReaches.{at_reached}
use Rattle.rule_fragments.specs.Listed.{undefined_fragment}
use Rattle.rule_fragments.proofs.Members.{no_spread, the_spread}

module _ (fragments : Entries (MeantFragment Place)) (t : TypedSelection Place) where
  -- what is told of what is no spread
  pub untold : None ≡ as_typed_spread t → [] ≡ undefined_fragment fragments (meant t)
  untold is = sym (ap (λ o. option_map_or (λ n. option_map_or (λ (f : MeantFragment Place). []) (under n fragments) (wrong (selection_place (meant t)) (UndefinedFragment n) ∷ [])) o []) (no_spread t is))

  module _ (n : Node FragmentSpread) (is : Some (typed_spread_node n) ≡ as_typed_spread t) where
    abbrev name : List ℕ
    name = (content n).fragment_name.text

    abbrev of : Option (MeantFragment Place) → List PlacedFault
    of o = option_map_or (λ f. []) o (wrong (place n) (UndefinedFragment name) ∷ [])

    here : undefined_fragment fragments (meant (typed_spread_node n)) ≡ undefined_fragment fragments (meant t)
    here = ap (λ u. undefined_fragment fragments (meant u)) (the_spread t (typed_spread_node n) is)

    known : (o : Option (MeantFragment Place)) → is_some o ≡ true → [] ≡ of o
    known None e = absurd (true≢false (sym e))
    known (Some f) e = refl

    unknown : (o : Option (MeantFragment Place)) → is_some o ≡ false → wrong (place n) (UndefinedFragment name) ∷ [] ≡ of o
    unknown None e = refl
    unknown (Some f) e = absurd (true≢false e)

    -- of a spread of a fragment that is there, and that is not
    pub known_untold : is_some (under name fragments) ≡ true → [] ≡ undefined_fragment fragments (meant t)
    known_untold e = known (under name fragments) e ∙ here

    pub unknown_told : is_some (under name fragments) ≡ false → wrong (place n) (UndefinedFragment name) ∷ [] ≡ undefined_fragment fragments (meant t)
    unknown_told e = unknown (under name fragments) e ∙ here

-- what is told of all that is reached
module _ (d : MeantDocument Place) (o : MeantOperation Place) (reached : List (Member Place)) (spread : List (MeantFragment Place)) (reach : IsReach d (own o) reached spread) where
  abbrev Undefined : MeantSelection Place → PlacedFault → Type 0
  Undefined x f = Present (spread_name x) (λ n. (fragment_named d n ≡ None) × (f ≡ wrong (selection_place x) (UndefinedFragment n)))

  lists_here : (x : MeantSelection Place) → Lists (undefined_fragment d.fragments x) (Undefined x)
  lists_here x = lists_present (spread_name x) (λ n. option_map_or (λ f. []) (under n d.fragments) (wrong (selection_place x) (UndefinedFragment n) ∷ []))
      (λ n f. (fragment_named d n ≡ None) × (f ≡ wrong (selection_place x) (UndefinedFragment n))) (λ n is. lists_absent (under n d.fragments) (wrong (selection_place x) (UndefinedFragment n)))

  pub lists_undefined : (fragments : Entries (MeantFragment Place)) → d.fragments ≡ fragments → Lists (flat_map (λ (e : Member Place). undefined_fragment fragments e.1) reached) (λ f. UndefinedFragmentAt d f o)
  lists_undefined fragments same =
      subst (λ (fs : Entries (MeantFragment Place)). Lists (flat_map (λ (e : Member Place). undefined_fragment fs e.1) reached) (λ f. UndefinedFragmentAt d f o)) same
      (lists_same (flat_map (λ (e : Member Place). undefined_fragment d.fragments e.1) reached) (λ f. at_reached d o reached spread reach (λ e. Undefined e.1 f))
      (lists_index reached (λ e. undefined_fragment d.fragments e.1) (λ i e f. Undefined e.1 f) (λ i e is. lists_here e.1)))
